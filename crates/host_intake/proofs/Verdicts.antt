-- The verdicts on the records taken are those of the definition, while no buffer was released but by a close.
use Rattle.std.proofs.Common.{◌≡◌, ◌⊎◌, inl, inr, ℕ, zero, suc, ◌+◌, ◌≤◌, ◌<◌, ◌==◌, Bool, true, false, ◌&&◌, ◌||◌, nat_lt, cond, List, [], ◌∷◌, ◌++◌, length, filter_map, get_or, map, take, drop, Option, Some, None, MatchOption, refl, sym, ap, subst, ◌∙◌, arith, eq-eqb}
use Rattle.std.proofs.Math.Bool.{or-true}
use Rattle.std.specs.Prelude.{slice_get, flat_map, unwrap_or, position}
use Rattle.std.specs.Bool.{then_some}
use Rattle.std.specs.List.{cons_option, list_any, list_all, range_with_len, zip}
use Rattle.std.specs.Option.{is_some, option_map}
use Rattle.std.proofs.lemmas.Bool.{eqb-true, ltb-true, ltb-false}
use Rattle.std.proofs.lemmas.List.{map-append, take-append-drop}
use Rattle.std.proofs.lemmas.List.Quantifiers.{position-Some}
use Rattle.std.proofs.lemmas.Option.{slice_get-map, get_or_from_slice_get}
use Rattle.host_block.specs.declared.range.Range.{Range}
use Rattle.host_block.proofs.Places.{any_at, from_take, in_take}
use Rattle.host_record.specs.{Opcode, Read, Write, Flush, Trim, Close, opcode, is_close, request_of}
use Rattle.host_record.specs.declared.request.Request.{Request}
use Rattle.host_model.specs.{MemEntry, MemEvent, Pin, Release, Accepted, Refused, lent_in, request_at, index_of, closes, is_accepted, is_closed, judged, verdict_after, verdicts_on}
use Rattle.host_model.specs.declared.memory.MemEvent.TheVariants as mem
use Rattle.host_model.specs.declared.verdict.Verdict.{Verdict}
use Rattle.host_memory.specs.{closer_by, closer_of, standing_in, is_numbered, events}
use Rattle.host_intake.specs.{Taking, place_of, request_in, requests_of, Lends, AreTaken, judged_on, left_by, made, made_for, made_under, under}
use Rattle.host_intake.proofs.Attached.{standing_is_lent}
use Rattle.host_intake.proofs.Judging.{hand_of, single}
use Rattle.host_intake.proofs.Leaving.{position_none}
use Rattle.host_intake.proofs.Readiness.{all_at, first_found}
use Rattle.host_log.proofs.Places.{any_here, in_filter, get_append}

-- ---- lists

zip_none : {A B : Type 0} (xs : List A) → zip {K = A} {X = B} xs [] ≡ []
zip_none [] = refl
zip_none (x ∷ xs) = refl

module _ {A B C : Type 0} (f : A → B) (g : A → C) where
  zip_maps : (xs ys : List A) → zip (map f (xs ++ ys)) (map g xs) ≡ map (λ t. (f t, g t)) xs
  zip_maps [] ys = zip_none (map f ys)
  zip_maps (x ∷ xs) ys = ap (λ l. (f x, g x) ∷ l) (zip_maps xs ys)

module _ {A : Type 0} where
  any_map : {B : Type 0} (p : B → Bool) (f : A → B) (xs : List A) → list_any p (map f xs) ≡ list_any (λ x. p (f x)) xs
  any_map p f [] = refl
  any_map p f (x ∷ xs) = ap (λ b. p (f x) || b) (any_map p f xs)

  any_get : (p : A → Bool) (xs : List A) (n : ℕ) (d : A) → n < length xs → p (get_or xs n d) ≡ true → list_any p xs ≡ true
  any_get p [] n d h y = absurd (omega arith)
  any_get p (z ∷ zs) zero d h y = ap (λ b. b || list_any p zs) y
  any_get p (z ∷ zs) (suc n) d h y = ap (λ b. p z || b) (any_get p zs n d (omega arith) y) ∙ or-true (p z)

  -- an element that passes is found just where there is one
  position_any : (p : A → Bool) (xs : List A) → is_some (position p xs) ≡ list_any p xs
  position_any p [] = refl
  position_any p (x ∷ xs) = step (position p (x ∷ xs)) refl
    where
      step : (o : Option ℕ) → position p (x ∷ xs) ≡ o → is_some o ≡ list_any p (x ∷ xs)
      step None e = sym (position_none p (x ∷ xs) e)
      step (Some n) e = let r = position-Some p (x ∷ xs) n x e in sym (any_get p (x ∷ xs) n x r.0 r.1)

  drop_first : (xs : List A) (n m : ℕ) (x : A) (rest : List A) → take m (drop n xs) ≡ x ∷ rest → slice_get xs n ≡ Some x
  drop_first [] zero zero x rest e = absurd (let n = ap length e in omega arith)
  drop_first [] zero (suc m) x rest e = absurd (let n = ap length e in omega arith)
  drop_first [] (suc n) zero x rest e = absurd (let k = ap length e in omega arith)
  drop_first [] (suc n) (suc m) x rest e = absurd (let k = ap length e in omega arith)
  drop_first (y ∷ ys) zero zero x rest e = absurd (let n = ap length e in omega arith)
  drop_first (y ∷ ys) zero (suc m) x rest e = ap (λ (l : List A). Some (get_or l 0 y)) e
  drop_first (y ∷ ys) (suc n) m x rest e = drop_first ys n m x rest e

  pub in_flat : {B : Type 0} (f : B → List A) (us : List B) (n : ℕ) (x : A) → slice_get (flat_map f us) n ≡ Some x → (k : ℕ) × (u : B) × (m : ℕ) × (slice_get us k ≡ Some u) × (slice_get (f u) m ≡ Some x)
  in_flat f [] zero x e = absurd (cc)
  in_flat f [] (suc n) x e = absurd (cc)
  in_flat {B} f (u ∷ us) n x e = step (get_append (f u) (flat_map f us) n x e) (λ m h. in_flat f us m x h)
    where
      step : (slice_get (f u) n ≡ Some x) ⊎ ((m : ℕ) × (n ≡ length (f u) + m) × (slice_get (flat_map f us) m ≡ Some x)) → ((m : ℕ) → slice_get (flat_map f us) m ≡ Some x → (k : ℕ) × (w : B) × (m : ℕ) × (slice_get us k ≡ Some w) × (slice_get (f w) m ≡ Some x))
          → (k : ℕ) × (w : B) × (m : ℕ) × (slice_get (u ∷ us) k ≡ Some w) × (slice_get (f w) m ≡ Some x)
      step (inl h) more = (0, u, n, refl, h)
      step (inr h) more = let r = more h.0 h.2 in (suc r.0, r.1, r.2, r.3, r.4)

-- ---- what a close leaves

closes_left : (vd : Verdict) (o : Option Opcode) (i id hand : ℕ) (waits : Bool) (v : ℕ) → (is_accepted vd && is_close o && id == v) ≡ true → (rest : List MemEvent) × (made_under vd (made_for o i id hand waits) ≡ mem.Close i id ∷ rest) × (id ≡ v)
closes_left (Refused s) o i id hand waits v e = absurd (cc)
closes_left Accepted None i id hand waits v e = absurd (cc)
closes_left Accepted (Some Read) i id hand waits v e = absurd (cc)
closes_left Accepted (Some Write) i id hand waits v e = absurd (cc)
closes_left Accepted (Some Flush) i id hand waits v e = absurd (cc)
closes_left Accepted (Some Trim) i id hand waits v e = absurd (cc)
closes_left Accepted (Some Close) i id hand true v e = ([], refl, eqb-true id v e)
closes_left Accepted (Some Close) i id hand false v e = (Release id ∷ [], refl, eqb-true id v e)

abbrev IsCloser : Verdict → Option Opcode → ℕ → ℕ → ℕ → MemEvent → Type 0
IsCloser vd o i id v what = (j : ℕ) → closer_by v what ≡ Some j → ((is_accepted vd && is_close o && id == v) ≡ true) × (i ≡ j)

pub some_then : (b : Bool) (i j : ℕ) → then_some b i ≡ Some j → (b ≡ true) × (i ≡ j)
some_then true i j e = (refl, ap (λ (o : Option ℕ). unwrap_or o i) e)
some_then false i j e = absurd (cc)

left_closes : (vd : Verdict) (o : Option Opcode) (i id hand : ℕ) (waits : Bool) (number v m : ℕ) (e : MemEntry) → slice_get (under number (made_under vd (made_for o i id hand waits))) m ≡ Some e → IsCloser vd o i id v e.what
left_closes (Refused s) o i id hand waits number v zero e at = absurd (cc)
left_closes (Refused s) o i id hand waits number v (suc m) e at = absurd (cc)
left_closes Accepted None i id hand waits number v zero e at = absurd (cc)
left_closes Accepted None i id hand waits number v (suc m) e at = absurd (cc)
left_closes Accepted (Some Flush) i id hand waits number v zero e at = absurd (cc)
left_closes Accepted (Some Flush) i id hand waits number v (suc m) e at = absurd (cc)
left_closes Accepted (Some Trim) i id hand waits number v zero e at = absurd (cc)
left_closes Accepted (Some Trim) i id hand waits number v (suc m) e at = absurd (cc)
left_closes Accepted (Some Read) i id hand waits number v m e at = subst (λ (z : MemEntry). IsCloser Accepted (Some Read) i id v z.what) (single (record { hand = number; what = Pin i id hand }) m e at) (λ j y. absurd (cc))
left_closes Accepted (Some Write) i id hand waits number v m e at = subst (λ (z : MemEntry). IsCloser Accepted (Some Write) i id v z.what) (single (record { hand = number; what = Pin i id hand }) m e at) (λ j y. absurd (cc))
left_closes Accepted (Some Close) i id hand true number v m e at = subst (λ (z : MemEntry). IsCloser Accepted (Some Close) i id v z.what) (single (record { hand = number; what = mem.Close i id }) m e at) (λ j y. some_then (id == v) i j y)
left_closes Accepted (Some Close) i id hand false number v zero e at =
    subst (λ (z : MemEntry). IsCloser Accepted (Some Close) i id v z.what) (ap (λ (o : Option MemEntry). unwrap_or o (record { hand = number; what = mem.Close i id })) at) (λ j y. some_then (id == v) i j y)
left_closes Accepted (Some Close) i id hand false number v (suc m) e at = subst (λ (z : MemEntry). IsCloser Accepted (Some Close) i id v z.what) (single (record { hand = number; what = Release id }) m e at) (λ j y. absurd (cc))

some_found : (f : MemEvent → Option ℕ) (w : List MemEntry) (n : ℕ) (e : MemEntry) (j : ℕ) → slice_get w n ≡ Some e → f e.what ≡ Some j → is_some (slice_get (filter_map f (events w)) 0) ≡ true
some_found f [] zero e j at y = absurd (cc)
some_found f [] (suc n) e j at y = absurd (cc)
some_found f (x ∷ xs) zero e j at y = ap (λ o. is_some (slice_get (cons_option o (filter_map f (events xs))) 0)) (ap (λ (o : Option MemEntry). f (unwrap_or o x).what) at ∙ y)
some_found f (x ∷ xs) (suc n) e j at y = step (f x.what) (some_found f xs n e j at y)
  where
    step : (o : Option ℕ) → is_some (slice_get (filter_map f (events xs)) 0) ≡ true → is_some (slice_get (cons_option o (filter_map f (events xs))) 0) ≡ true
    step None h = h
    step (Some i) h = refl

-- ---- the records taken

pub numbered_place : (a n k : ℕ) (m : ℕ) → slice_get (range_with_len a n) k ≡ Some m → m ≡ a + k
numbered_place a zero zero m e = absurd (cc)
numbered_place a zero (suc k) m e = absurd (cc)
numbered_place a (suc n) zero m e = (let h : a ≡ m = ap (λ (o : Option ℕ). unwrap_or o a) e in omega arith)
numbered_place a (suc n) (suc k) m e = (let h = numbered_place (a + 1) n k m e in omega arith)

module _ (part : Range) (client number : ℕ) (whole : List MemEntry) (ts : List Taking) (k : AreTaken part number whole ts) (numbered : list_all (is_numbered client number) whole ≡ true) where
  place_is : (i : ℕ) (u : Taking) → slice_get ts i ≡ Some u → place_of u ≡ i
  place_is i u at =
      let h = numbered_place 0 (length ts) i (place_of u) (ap (λ l. slice_get l i) (sym k.indexes) ∙ (slice_get-map place_of ts i ∙ ap (λ o. option_map place_of o) at)) in omega arith

  module _ (i : ℕ) (t : Taking) (at : slice_get ts i ≡ Some t) (v : ℕ) where
    abbrev closes_it : Taking → Bool
    closes_it u = closes v (request_in u) u.verdict

    -- an earlier record that closed the buffer has left its close
    closer_there : list_any closes_it (take i ts) ≡ true → is_some (closer_of v (judged_on whole t)) ≡ true
    closer_there y =
        let r = any_at closes_it (take i ts) y in let u = r.1 in let g = from_take ts i r.0 u r.2 in
        let c = closes_left u.verdict (opcode (request_in u)) (place_of u) (request_in u).vmoid u.hand u.waits v r.3 in
        let left = (k.judged r.0 u g.0).left ∙ ap (λ es. under number es) c.1 in
        let first = drop_first whole u.seen (length (made u)) (record { hand = number; what = mem.Close (place_of u) (request_in u).vmoid }) (under number c.0) left in
        let one = ap length c.1 in
        let before = k.rising r.0 i u t g.0 at g.1 in
        some_found (closer_by v) (take t.seen whole) u.seen (record { hand = number; what = mem.Close (place_of u) (request_in u).vmoid }) (place_of u)
        (in_take whole t.seen u.seen _ (omega arith) first) (ap (λ b. then_some b (place_of u)) (eq-eqb (request_in u).vmoid v c.2))

    own : (h : ℕ) (what : MemEvent) (j : ℕ) → is_numbered client number (record { hand = h; what = what }) ≡ true → closer_by v what ≡ Some j → (h ≡ number) × (index_of what ≡ Some j)
    own h (mem.Close index id) j n y = (eqb-true h number n, ap (λ (z : ℕ). Some z) ((some_then (id == v) index j y).1))
    own h _ j n y = absurd (cc)

    -- a close that stands in the history is of an earlier record, which closed the buffer
    closer_before : (j : ℕ) → closer_of v (judged_on whole t) ≡ Some j → (j < i) × (list_any closes_it (take i ts) ≡ true)
    closer_before j y =
        let f = first_found (closer_by v) (take t.seen whole) j y in let e = f.1 in
        let w = from_take whole t.seen f.0 e f.2 in
        let o = own e.hand e.what j (all_at (is_numbered client number) whole numbered f.0 e w.0) f.3 in
        let past = past_at f.0 j (subst (λ (z : Option ℕ). MatchOption z (Unit {0}) (λ i. MatchOption (slice_get ts i) ⊥ (λ t. t.seen ≤ f.0))) o.1 (k.order f.0 e w.0 o.0)) in
        let less : j < i = before j past.0 past.1 f.0 past.2 w.1 in
        let m = in_filter (λ z. hand_of z == number) whole f.0 e w.0 (eq-eqb e.hand number o.0) in
        let c = in_flat (left_by number) ts m.0 e (ap (λ l. slice_get l m.0) (sym k.left) ∙ m.1) in
        let z = left_closes c.1.verdict (opcode (request_in c.1)) (place_of c.1) (request_in c.1).vmoid c.1.hand c.1.waits number v c.2 e c.4 j f.3 in
        let here = place_is c.0 c.1 c.3 in let p = z.1 in
        (less, any_here closes_it (take i ts) c.0 c.1 (in_take ts i c.0 c.1 (omega arith) c.3) z.0)
      where
        past_at : (n j : ℕ) → MatchOption (slice_get ts j) ⊥ (λ t. t.seen ≤ n) → (u : Taking) × (slice_get ts j ≡ Some u) × (u.seen ≤ n)
        past_at n j m = found (slice_get ts j) refl m
          where
            found : (o : Option Taking) → slice_get ts j ≡ o → MatchOption o ⊥ (λ t. t.seen ≤ n) → (u : Taking) × (slice_get ts j ≡ Some u) × (u.seen ≤ n)
            found None e m = absurd m
            found (Some u) e m = (u, e, m)

        before : (j : ℕ) (u : Taking) → slice_get ts j ≡ Some u → (n : ℕ) → u.seen ≤ n → n < t.seen → j < i
        before j u e n le less = step (nat_lt j i) refl
          where
            step : (b : Bool) → nat_lt j i ≡ b → j < i
            step true y = ltb-true j i y
            step false y = absurd (later (nat_lt i j) refl)
              where
                later : (b : Bool) → nat_lt i j ≡ b → ⊥
                later true z = let r = k.rising i j t u at e (ltb-true i j z) in omega arith
                later false z =
                    let a = ltb-false j i y in let b = ltb-false i j z in
                    let same : t.seen ≡ u.seen = ap (λ (o : Option Taking). (unwrap_or o t).seen) (sym at ∙ (ap (λ n. slice_get ts n) (omega arith) ∙ e)) in omega arith

    closed_any : is_closed v (requests_of ts) (map (λ u. u.verdict) (take i ts)) ≡ list_any closes_it (take i ts)
    closed_any =
        let p : Request × Verdict → Bool = λ q. closes v q.0 q.1 in let vs = map (λ (u : Taking). u.verdict) (take i ts) in
        position_any p (zip (requests_of ts) vs)
        ∙ (ap (λ (l : List Taking). list_any p (zip (map request_in l) vs)) (sym (take-append-drop i ts))
        ∙ (ap (λ l. list_any p l) (zip_maps request_in (λ (u : Taking). u.verdict) (take i ts) (drop i ts)) ∙ any_map p (λ (u : Taking). (request_in u, u.verdict)) (take i ts)))

    -- the buffer was closed before the record just where its close stands in the history on which the record was judged
    pub closed_is : is_closed v (requests_of ts) (map (λ u. u.verdict) (take i ts)) ≡ is_some (closer_of v (judged_on whole t))
    closed_is = closed_any ∙ step (list_any closes_it (take i ts)) refl
      where
        step : (a : Bool) → list_any closes_it (take i ts) ≡ a → a ≡ is_some (closer_of v (judged_on whole t))
        step true y = sym (closer_there y)
        step false y = none (closer_of v (judged_on whole t)) refl
          where
            none : (o : Option ℕ) → closer_of v (judged_on whole t) ≡ o → false ≡ is_some o
            none None e = refl
            none (Some j) e = absurd (let z : false ≡ true = sym y ∙ (closer_before j e).1 in cc)

  module _ (lent : ℕ → ℕ → Option ℕ) (lends : (i : ℕ) (t : Taking) → slice_get ts i ≡ Some t → Lends lent whole i t) where
    verdict_is : (i : ℕ) (t : Taking) → slice_get ts i ≡ Some t → t.verdict ≡ verdict_after (requests_of ts) lent part (map (λ u. u.verdict) (take i ts)) i
    verdict_is i t at =
        let v = (request_in t).vmoid in let h = judged_on whole t in let j = k.judged i t at in let u = lends i t at in
        let place = place_is i t at in
        let stands : standing_in v i h ≡ cond (is_closed v (requests_of ts) (map (λ u. u.verdict) (take i ts))) None (lent i v) =
        standing_is_lent h i v u.0.0 u.0.1 (λ n e. (closer_before i t at v n e).0)
        ∙ (ap (λ b. cond b None (lent_in h i v)) (sym (closed_is i t at v)) ∙ ap (λ o. cond (is_closed v (requests_of ts) (map (λ u. u.verdict) (take i ts))) None o) u.1) in
        let here : request_at (requests_of ts) i ≡ request_in t = get_or_from_slice_get (requests_of ts) i (request_in t) (request_of []) (slice_get-map request_in ts i ∙ ap (λ o. option_map request_in o) at) in
        j.verdict ∙ (ap (λ n. judged part (standing_in v n h) (request_in t)) place ∙ (ap (λ o. judged part o (request_in t)) stands
        ∙ ap (λ (r : Request). judged part (cond (is_closed r.vmoid (requests_of ts) (map (λ u. u.verdict) (take i ts))) None (lent i r.vmoid)) r) (sym here)))

    take_more : (xs : List Taking) (n : ℕ) (x : Taking) → slice_get xs n ≡ Some x → take (suc n) xs ≡ take n xs ++ x ∷ []
    take_more [] zero x e = absurd (cc)
    take_more [] (suc n) x e = absurd (cc)
    take_more (y ∷ ys) zero x e = ap (λ (o : Option Taking). unwrap_or o y ∷ []) e
    take_more (y ∷ ys) (suc n) x e = ap (λ l. y ∷ l) (take_more ys n x e)

    get_within : (xs : List Taking) (n : ℕ) → n < length xs → (x : Taking) × (slice_get xs n ≡ Some x)
    get_within [] n h = absurd (omega arith)
    get_within (y ∷ ys) zero h = (y, refl)
    get_within (y ∷ ys) (suc n) h = get_within ys n (omega arith)

    verdicts_upto : (n : ℕ) → n ≤ length ts → map (λ u. u.verdict) (take n ts) ≡ verdicts_on (requests_of ts) lent part n
    verdicts_upto zero h = refl
    verdicts_upto (suc n) h =
        let g = get_within ts n (omega arith) in let t = g.0 in let earlier = verdicts_upto n (omega arith) in
        ap (λ l. map (λ (u : Taking). u.verdict) l) (take_more ts n t g.1) ∙ (map-append (λ (u : Taking). u.verdict) (take n ts) (t ∷ [])
        ∙ (ap (λ d. map (λ (u : Taking). u.verdict) (take n ts) ++ d ∷ []) (verdict_is n t g.1) ∙ ap (λ l. l ++ verdict_after (requests_of ts) lent part l n ∷ []) earlier))

    take_whole : (xs : List Taking) → take (length xs) xs ≡ xs
    take_whole [] = refl
    take_whole (x ∷ xs) = ap (λ l. x ∷ l) (take_whole xs)

    -- the verdicts are those of the definition
    pub verdicts_are : map (λ u. u.verdict) ts ≡ verdicts_on (requests_of ts) lent part (length ts)
    verdicts_are = ap (λ l. map (λ (u : Taking). u.verdict) l) (sym (take_whole ts)) ∙ verdicts_upto (length ts) (omega arith)
