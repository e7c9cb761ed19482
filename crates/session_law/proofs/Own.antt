-- Where the admissions' entries for a record stand.
use Rattle.std.proofs.Common.{◌≡◌, ℕ, zero, suc, ◌+◌, ◌<◌, ◌≤◌, ◌==◌, Bool, true, false, ◌&&◌, nat_lt, cond, List, [], ◌∷◌, length, filter, map, Option, Some, None, refl, sym, ap, ◌∙◌, arith, eq-eqb}
use Rattle.std.specs.Prelude.{flat_map, unwrap_or}
use Rattle.std.specs.List.{range_with_len, slice_get}
use Rattle.std.specs.Option.{option_eq}
use Rattle.std.proofs.lemmas.Bool.{eqb-true, ltb-false, ltb-true}
use Rattle.host_block.specs.declared.range.Range.{Range}
use Rattle.host_record.specs.{Opcode, Read, Write, Flush, Trim, Close, opcode}
use Rattle.host_model.specs.{MemEntry, MemEvent, Pin, Release, Accepted, Refused, count, index_of}
use Rattle.host_model.specs.declared.memory.MemEvent.TheVariants as mem
use Rattle.host_model.specs.declared.verdict.Verdict.{Verdict}
use Rattle.host_log.specs.{entries_of}
use Rattle.host_intake.specs.{Taking, place_of, request_in, AreTaken, left_by, made, made_for, made_under, under}
use Rattle.session_law.proofs.Released.{left_at, own_left}
use Rattle.session_law.proofs.Sums.{bit, count_both, count_one, counted_here}

-- the entry was made for record i
abbrev pub is_for : ℕ → MemEntry → Bool
is_for i e = option_eq ◌==◌ (index_of e.what) (Some i)

pub is_for_from : (i : ℕ) (e : MemEntry) → index_of e.what ≡ Some i → is_for i e ≡ true
is_for_from i e f = ap (λ o. option_eq ◌==◌ o (Some i)) f ∙ eq-eqb i i refl

-- ---- counts

count_and : {A : Type 0} (f g : A → Bool) (xs : List A) → count (λ x. f x && g x) xs ≡ count g (filter f xs)
count_and f g [] = refl
count_and f g (x ∷ xs) = step (f x) (count_and f g xs)
  where
    step : (b : Bool) → count (λ y. f y && g y) xs ≡ count g (filter f xs) → length (cond (b && g x) (x ∷ filter (λ y. f y && g y) xs) (filter (λ y. f y && g y) xs)) ≡ count g (cond b (x ∷ filter f xs) (filter f xs))
    step false e = e
    step true e = let c = count_one g x (filter f xs) in elim (g x) as (λ d. count g (x ∷ filter f xs) ≡ bit d + count g (filter f xs) → length (cond d (x ∷ filter (λ y. f y && g y) xs) (filter (λ y. f y && g y) xs)) ≡ count g (x ∷ filter f xs)) [
      | true ↦ λ k. omega (arith, e, k)
      | false ↦ λ k. omega (arith, e, k)
    ] c

two_places : {A : Type 0} (p : A → Bool) (xs : List A) (a b : ℕ) (x y : A) → slice_get xs a ≡ Some x → slice_get xs b ≡ Some y → a < b → p x ≡ true → p y ≡ true → 2 ≤ count p xs
two_places p [] zero b x y at bt lt px py = absurd (cc)
two_places p [] (suc a) b x y at bt lt px py = absurd (cc)
two_places p (z ∷ zs) zero zero x y at bt lt px py = absurd (omega arith)
two_places p (z ∷ zs) zero (suc b) x y at bt lt px py =
    let same : z ≡ x = cc in
    let one : bit (p z) ≡ 1 = ap bit (ap p same ∙ px) in
    let rest = counted_here p zs b y bt py in
    omega (arith, count_one p z zs, one, rest)
two_places p (z ∷ zs) (suc a) zero x y at bt lt px py = absurd (omega arith)
two_places p (z ∷ zs) (suc a) (suc b) x y at bt lt px py = let r = two_places p zs a b x y at bt (omega arith) px py in omega (arith, count_one p z zs, r)

-- ---- what one taking left

left_for : (i number : ℕ) (vd : Verdict) (o : Option Opcode) (k id hand : ℕ) (waits : Bool) → count (is_for i) (under number (made_under vd (made_for o k id hand waits))) ≤ bit (k == i)
left_for i number (Refused s) o k id hand waits = omega arith
left_for i number Accepted None k id hand waits = omega arith
left_for i number Accepted (Some Flush) k id hand waits = omega arith
left_for i number Accepted (Some Trim) k id hand waits = omega arith
left_for i number Accepted (Some Read) k id hand waits = let c = count_one (is_for i) (record { hand = number; what = Pin k id hand }) [] in omega arith
left_for i number Accepted (Some Write) k id hand waits = let c = count_one (is_for i) (record { hand = number; what = Pin k id hand }) [] in omega arith
left_for i number Accepted (Some Close) k id hand true = let c = count_one (is_for i) (record { hand = number; what = mem.Close k id }) [] in omega arith
left_for i number Accepted (Some Close) k id hand false =
    let c = count_one (is_for i) (record { hand = number; what = mem.Close k id }) (record { hand = number; what = Release id } ∷ []) in
    let d = count_one (is_for i) (record { hand = number; what = Release id }) [] in omega arith

left_once : (i number a : ℕ) (ts : List Taking) → map place_of ts ≡ range_with_len a (length ts) → (count (is_for i) (flat_map (left_by number) ts) ≤ 1) × (i < a → count (is_for i) (flat_map (left_by number) ts) ≡ 0)
left_once i number a [] e = (omega arith, λ lt. refl)
left_once i number a (t ∷ ts) e =
    let first : place_of t ≡ a = head_is (place_of t) a (map place_of ts) (range_with_len (a + 1) (length ts)) e in
    let rest : map place_of ts ≡ range_with_len (a + 1) (length ts) = tail_is (place_of t) a (map place_of ts) (range_with_len (a + 1) (length ts)) e in
    let r = left_once i number (a + 1) ts rest in
    let one : count (is_for i) (left_by number t) ≤ bit (place_of t == i) = left_for i number t.verdict (opcode (request_in t)) (place_of t) (request_in t).vmoid t.hand t.waits in
    let both : count (is_for i) (flat_map (left_by number) (t ∷ ts)) ≡ count (is_for i) (left_by number t) + count (is_for i) (flat_map (left_by number) ts) = count_both (is_for i) (left_by number t) (flat_map (left_by number) ts) in
    step (place_of t == i) refl first r.0 r.1 one both
  where
    head_is : (x y : ℕ) (xs ys : List ℕ) → x ∷ xs ≡ y ∷ ys → x ≡ y
    head_is x y xs ys f = cc

    tail_is : (x y : ℕ) (xs ys : List ℕ) → x ∷ xs ≡ y ∷ ys → xs ≡ ys
    tail_is x y xs ys f = cc

    step : (b : Bool) → (place_of t == i) ≡ b → place_of t ≡ a → count (is_for i) (flat_map (left_by number) ts) ≤ 1 → (i < a + 1 → count (is_for i) (flat_map (left_by number) ts) ≡ 0)
        → count (is_for i) (left_by number t) ≤ bit b → count (is_for i) (flat_map (left_by number) (t ∷ ts)) ≡ count (is_for i) (left_by number t) + count (is_for i) (flat_map (left_by number) ts)
        → (count (is_for i) (flat_map (left_by number) (t ∷ ts)) ≤ 1) × (i < a → count (is_for i) (flat_map (left_by number) (t ∷ ts)) ≡ 0)
    step true f first few none one both =
        let here : place_of t ≡ i = eqb-true (place_of t) i f in
        let z = none (omega (arith, here, first)) in
        (omega (arith, z, one, both), λ lt. absurd (omega (arith, lt, here, first)))
    step false f first few none one both = (omega (arith, few, one, both), λ lt. let z = none (omega (arith, lt)) in omega (arith, z, one, both))

-- an entry for a record comes first in what its taking left
left_first : (number : ℕ) (vd : Verdict) (o : Option Opcode) (k id hand : ℕ) (waits : Bool) (m i : ℕ) (e : MemEntry) → slice_get (under number (made_under vd (made_for o k id hand waits))) m ≡ Some e → index_of e.what ≡ Some i
    → (m ≡ 0) × (k ≡ i)
left_first number (Refused s) o k id hand waits zero i e at is = absurd (cc)
left_first number (Refused s) o k id hand waits (suc m) i e at is = absurd (cc)
left_first number Accepted None k id hand waits zero i e at is = absurd (cc)
left_first number Accepted None k id hand waits (suc m) i e at is = absurd (cc)
left_first number Accepted (Some Flush) k id hand waits zero i e at is = absurd (cc)
left_first number Accepted (Some Flush) k id hand waits (suc m) i e at is = absurd (cc)
left_first number Accepted (Some Trim) k id hand waits zero i e at is = absurd (cc)
left_first number Accepted (Some Trim) k id hand waits (suc m) i e at is = absurd (cc)
left_first number Accepted (Some Read) k id hand waits zero i e at is =
    let same : record { hand = number; what = Pin k id hand } ≡ e = ap (λ (x : Option MemEntry). unwrap_or x e) at in
    (refl, ap (λ (x : Option ℕ). unwrap_or x k) (ap (λ (x : MemEntry). index_of x.what) same ∙ is))
left_first number Accepted (Some Read) k id hand waits (suc zero) i e at is = absurd (cc)
left_first number Accepted (Some Read) k id hand waits (suc (suc m)) i e at is = absurd (cc)
left_first number Accepted (Some Write) k id hand waits zero i e at is =
    let same : record { hand = number; what = Pin k id hand } ≡ e = ap (λ (x : Option MemEntry). unwrap_or x e) at in
    (refl, ap (λ (x : Option ℕ). unwrap_or x k) (ap (λ (x : MemEntry). index_of x.what) same ∙ is))
left_first number Accepted (Some Write) k id hand waits (suc zero) i e at is = absurd (cc)
left_first number Accepted (Some Write) k id hand waits (suc (suc m)) i e at is = absurd (cc)
left_first number Accepted (Some Close) k id hand true zero i e at is =
    let same : record { hand = number; what = mem.Close k id } ≡ e = ap (λ (x : Option MemEntry). unwrap_or x e) at in
    (refl, ap (λ (x : Option ℕ). unwrap_or x k) (ap (λ (x : MemEntry). index_of x.what) same ∙ is))
left_first number Accepted (Some Close) k id hand true (suc zero) i e at is = absurd (cc)
left_first number Accepted (Some Close) k id hand true (suc (suc m)) i e at is = absurd (cc)
left_first number Accepted (Some Close) k id hand false zero i e at is =
    let same : record { hand = number; what = mem.Close k id } ≡ e = ap (λ (x : Option MemEntry). unwrap_or x e) at in
    (refl, ap (λ (x : Option ℕ). unwrap_or x k) (ap (λ (x : MemEntry). index_of x.what) same ∙ is))
left_first number Accepted (Some Close) k id hand false (suc zero) i e at is =
    let same : record { hand = number; what = Release id } ≡ e = ap (λ (x : Option MemEntry). unwrap_or x e) at in
    absurd (let z : None ≡ Some i = ap (λ (x : MemEntry). index_of x.what) same ∙ is in cc)
left_first number Accepted (Some Close) k id hand false (suc (suc m)) i e at is = absurd (cc)

made_some : (number : ℕ) (t : Taking) (m : ℕ) (e : MemEntry) → slice_get (left_by number t) m ≡ Some e → m < length (made t)
made_some number t m e at = step (made t) m at
  where
    step : (l : List MemEvent) (m : ℕ) → slice_get (under number l) m ≡ Some e → m < length l
    step [] zero f = absurd (cc)
    step [] (suc m) f = absurd (cc)
    step (x ∷ l) zero f = omega arith
    step (x ∷ l) (suc m) f = let r = step l m f in omega arith

-- ---- the places

module _ (part : Range) (number : ℕ) (h : List MemEntry) (ts : List Taking) (a : AreTaken part number h ts) where
  own_once : (i : ℕ) → count (λ (e : MemEntry). (e.hand == number) && is_for i e) h ≤ 1
  own_once i =
      let c : count (λ (e : MemEntry). (e.hand == number) && is_for i e) h ≡ count (is_for i) (entries_of (λ (e : MemEntry). e.hand) number h) = count_and (λ (e : MemEntry). e.hand == number) (is_for i) h in
      let d : count (is_for i) (entries_of (λ (e : MemEntry). e.hand) number h) ≡ count (is_for i) (flat_map (left_by number) ts) = ap (count (is_for i)) a.left in
      let e = (left_once i number 0 ts a.indexes).0 in
      omega (arith, c, d, e)

  -- the admissions made one entry for a record, right behind what the record was judged on
  pub record IsOwn (i n : ℕ) (e : MemEntry) : Type 0 where
    pub taking : Taking
    pub k : ℕ
    pub stands : slice_get ts k ≡ Some taking
    pub index : place_of taking ≡ i
    pub place : n ≡ taking.seen
    pub some : 0 < length (made taking)
    pub left : slice_get (left_by number taking) 0 ≡ Some e

  pub own_place : (n i : ℕ) (e : MemEntry) → slice_get h n ≡ Some e → e.hand ≡ number → index_of e.what ≡ Some i → IsOwn i n e
  own_place n i e at own is =
      let r = own_left part number h ts a n e at own in
      let u : Taking = r.1 in
      let f = left_first number u.verdict (opcode (request_in u)) (place_of u) (request_in u).vmoid u.hand u.waits r.2 i e r.4 is in
      let first : slice_get (left_by number u) 0 ≡ Some e = ap (slice_get (left_by number u)) (sym f.0) ∙ r.4 in
      let there : slice_get h (u.seen + 0) ≡ Some e = left_at part number h ts a r.0 u 0 e r.3 first in
      let z : u.seen + 0 ≡ u.seen = omega arith in
      let passes : ((e.hand == number) && is_for i e) ≡ true = ap (λ b. b && is_for i e) (eq-eqb e.hand number own) ∙ is_for_from i e is in
      record {
        taking = u;
        k = r.0;
        stands = r.3;
        index = f.1;
        place = same n u.seen e at (ap (slice_get h) (sym z) ∙ there) passes (own_once i);
        some = made_some number u 0 e first;
        left = first;
      }
    where
      same : (p q : ℕ) (e : MemEntry) → slice_get h p ≡ Some e → slice_get h q ≡ Some e → ((e.hand == number) && is_for i e) ≡ true → count (λ (x : MemEntry). (x.hand == number) && is_for i x) h ≤ 1 → p ≡ q
      same p q e pt qt passes few = step (nat_lt p q) (nat_lt q p) refl refl
        where
          step : (x y : Bool) → nat_lt p q ≡ x → nat_lt q p ≡ y → p ≡ q
          step true y f g = absurd (let two = two_places (λ (x : MemEntry). (x.hand == number) && is_for i x) h p q e e pt qt (ltb-true p q f) passes passes in omega (arith, two, few))
          step false true f g = absurd (let two = two_places (λ (x : MemEntry). (x.hand == number) && is_for i x) h q p e e qt pt (ltb-true q p g) passes passes in omega (arith, two, few))
          step false false f g = let s = ltb-false p q f in let t = ltb-false q p g in omega arith
