-- A buffer that was released, but not by the client, had been closed by a record.
use Rattle.std.proofs.Common.{◌≡◌, ◌⊎◌, inl, inr, ℕ, zero, suc, ◌+◌, ◌<◌, ◌≤◌, ◌==◌, Bool, true, false, not, nat_lt, List, [], ◌∷◌, filter_map, length, take, Option, Some, None, refl, sym, ap, ◌∙◌, arith, eq-eqb}
use Rattle.std.specs.Prelude.{is_some, unwrap_or}
use Rattle.std.specs.Bool.{then_some}
use Rattle.std.specs.List.{cons_option, list_any, slice_get}
use Rattle.std.specs.Option.{option_map}
use Rattle.std.proofs.lemmas.Bool.{eqb-true, ltb-false, ltb-true}
use Rattle.std.proofs.lemmas.Option.{slice_get-map}
use Rattle.host_block.specs.declared.range.Range.{Range}
use Rattle.host_block.proofs.Places.{from_take, in_take}
use Rattle.host_record.specs.{Opcode, Read, Write, Flush, Trim, Close, opcode}
use Rattle.host_model.specs.{MemEntry, MemEvent, Attach, Fill, Show, Pin, Lift, Land, Done, Release, Accepted, Refused, all_with_before, comes_before_release, is_release_of}
use Rattle.host_model.specs.declared.memory.MemEvent.TheVariants as mem
use Rattle.host_model.specs.declared.verdict.Verdict.{Verdict}
use Rattle.host_memory.specs.{closer_by, closer_of, events}
use Rattle.host_log.specs.{entries_of}
use Rattle.host_intake.specs.{Taking, place_of, request_in, AreTaken, left_by, made, made_for, made_under, under}
use Rattle.session_law.specs.{ReleaseClosed}
use Rattle.session_law.proofs.Places.{found_at, from_part, with_before_at}
use Rattle.host_log.proofs.Places.{any_here, in_filter}
use Rattle.host_intake.proofs.Verdicts.{in_flat, some_then}

-- ---- events and entries

pub event_at : (h : List MemEntry) (n : ℕ) (e : MemEntry) → slice_get h n ≡ Some e → slice_get (events h) n ≡ Some e.what
event_at h n e at = slice_get-map (λ (x : MemEntry). x.what) h n ∙ ap (option_map (λ (x : MemEntry). x.what)) at

pub entry_at : (h : List MemEntry) (n : ℕ) (w : MemEvent) → slice_get (events h) n ≡ Some w → (e : MemEntry) × (slice_get h n ≡ Some e) × (e.what ≡ w)
entry_at [] zero w at = absurd (cc)
entry_at [] (suc n) w at = absurd (cc)
entry_at (x ∷ xs) zero w at = (x, refl, ap (λ (o : Option MemEvent). unwrap_or o x.what) at)
entry_at (x ∷ xs) (suc n) w at = entry_at xs n w at

pub events_take : (h : List MemEntry) (n : ℕ) → events (take n h) ≡ take n (events h)
events_take [] zero = refl
events_take [] (suc n) = refl
events_take (x ∷ xs) zero = refl
events_take (x ∷ xs) (suc n) = ap (λ l. x.what ∷ l) (events_take xs n)

pub release_is : (v : ℕ) (w : MemEvent) → is_release_of v w ≡ true → w ≡ Release v
release_is v (Release id) e = ap Release (eqb-true id v e)
release_is v (Attach id pages from) e = absurd (cc)
release_is v (Fill id block count byte) e = absurd (cc)
release_is v (Show id block count) e = absurd (cc)
release_is v (Pin index id by) e = absurd (cc)
release_is v (Lift index k id block bytes) e = absurd (cc)
release_is v (Land index k id block bytes) e = absurd (cc)
release_is v (Done index id) e = absurd (cc)
release_is v (mem.Close index id) e = absurd (cc)

pub closer_is : (v i : ℕ) (w : MemEvent) → closer_by v w ≡ Some i → w ≡ mem.Close i v
closer_is v i (mem.Close index id) e = let r = some_then (id == v) index i e in let same : id ≡ v = eqb-true id v r.0 in let j : index ≡ i = r.1 in cc
closer_is v i (Release id) e = absurd (cc)
closer_is v i (Attach id pages from) e = absurd (cc)
closer_is v i (Fill id block count byte) e = absurd (cc)
closer_is v i (Show id block count) e = absurd (cc)
closer_is v i (Pin index id by) e = absurd (cc)
closer_is v i (Lift index k id block bytes) e = absurd (cc)
closer_is v i (Land index k id block bytes) e = absurd (cc)
closer_is v i (Done index id) e = absurd (cc)

-- ---- closed

pub closes_there : (v i : ℕ) → closer_by v (mem.Close i v) ≡ Some i
closes_there v i = ap (λ b. then_some b i) (eq-eqb v v refl)

found_some : (f : MemEvent → Option ℕ) (w : List MemEvent) (n : ℕ) (e : MemEvent) (j : ℕ) → slice_get w n ≡ Some e → f e ≡ Some j → is_some (slice_get (filter_map f w) 0) ≡ true
found_some f [] zero e j at y = absurd (cc)
found_some f [] (suc n) e j at y = absurd (cc)
found_some f (x ∷ xs) zero e j at y = let same : x ≡ e = cc in ap (λ o. is_some (slice_get (cons_option o (filter_map f xs)) 0)) (ap f same ∙ y)
found_some f (x ∷ xs) (suc n) e j at y = step (f x) (found_some f xs n e j at y)
  where
    step : (o : Option ℕ) → is_some (slice_get (filter_map f xs) 0) ≡ true → is_some (slice_get (cons_option o (filter_map f xs)) 0) ≡ true
    step None g = g
    step (Some i) g = refl

pub closed_by : (v i n : ℕ) (h : List MemEntry) (e : MemEntry) → slice_get h n ≡ Some e → e.what ≡ mem.Close i v → is_some (closer_of v (events h)) ≡ true
closed_by v i n h e at what = found_some (closer_by v) (events h) n e.what i (event_at h n e at) (ap (closer_by v) what ∙ closes_there v i)

some_of : (o : Option ℕ) → is_some o ≡ true → (i : ℕ) × (o ≡ Some i)
some_of None e = absurd (cc)
some_of (Some i) e = (i, refl)

-- a closed buffer has its close at a place
pub close_place : (v : ℕ) (h : List MemEntry) → is_some (closer_of v (events h)) ≡ true → (i : ℕ) × (n : ℕ) × (e : MemEntry) × (slice_get h n ≡ Some e) × (e.what ≡ mem.Close i v)
close_place v h some =
    let s = some_of (closer_of v (events h)) some in
    let r = found_at (closer_by v) (events h) 0 s.0 s.1 in
    let w : MemEvent = r.1 in
    let e = entry_at h r.0 w r.2 in
    (s.0, r.0, e.0, e.1, e.2 ∙ closer_is v s.0 w r.3)

-- what was closed stays closed
pub closed_still : (v m n : ℕ) (h : List MemEntry) → m ≤ n → is_some (closer_of v (events (take m h))) ≡ true → is_some (closer_of v (events (take n h))) ≡ true
closed_still v m n h le some =
    let c = close_place v (take m h) some in
    let at = from_take h m c.1 c.2 c.3 in
    closed_by v c.0 c.1 (take n h) c.2 (in_take h n c.1 c.2 (let l = at.1 in omega arith) at.0) c.4

pub none_there : (xs : List MemEntry) (j : ℕ) (e : MemEntry) → xs ≡ [] → slice_get xs j ≡ Some e → ⊥
none_there [] zero e n at = cc
none_there [] (suc j) e n at = cc
none_there (x ∷ xs) j e n at = cc n

-- ---- one release

-- a buffer is released at one place alone
pub one_release : (h : List MemEntry) (v p q : ℕ) (e f : MemEntry) → all_with_before comes_before_release (events h) ≡ true → slice_get h p ≡ Some e → slice_get h q ≡ Some f → e.what ≡ Release v → f.what ≡ Release v → p ≡ q
one_release h v p q e f last at bt we wf = at_split (nat_lt p q) (nat_lt q p) refl refl
  where
    none_before : (p q : ℕ) (e f : MemEntry) → slice_get h p ≡ Some e → slice_get h q ≡ Some f → e.what ≡ Release v → f.what ≡ Release v → p < q → ⊥
    none_before p q e f at bt we wf lt =
        let t : comes_before_release (take q (events h)) f.what ≡ true = with_before_at comes_before_release (events h) q f.what last (event_at h q f bt) in
        let u : comes_before_release (take q (events h)) (Release v) ≡ true = ap (comes_before_release (take q (events h))) (sym wf) ∙ t in
        let r : is_release_of v e.what ≡ true = ap (is_release_of v) we ∙ eq-eqb v v refl in
        let there : list_any (is_release_of v) (take q (events h)) ≡ true = any_here (is_release_of v) (take q (events h)) p e.what (in_take (events h) q p e.what lt (event_at h p e at)) r in
        let z : false ≡ true = ap not (sym there) ∙ u in
        cc

    at_split : (b c : Bool) → nat_lt p q ≡ b → nat_lt q p ≡ c → p ≡ q
    at_split true c x y = absurd (none_before p q e f at bt we wf (ltb-true p q x))
    at_split false true x y = absurd (none_before q p f e bt at wf we (ltb-true q p y))
    at_split false false x y = let a = ltb-false p q x in let b = ltb-false q p y in omega arith

-- ---- what a taking left

pub record IsCloseLeft (number i v : ℕ) (left : List MemEntry) (m : ℕ) : Type 0 where
  pub second : m ≡ 1
  pub both : left ≡ record { hand = number; what = mem.Close i v } ∷ record { hand = number; what = Release v } ∷ []

single_none : (x : MemEntry) (v m : ℕ) (e : MemEntry) → is_release_of v x.what ≡ false → slice_get (x ∷ []) m ≡ Some e → is_release_of v e.what ≡ true → ⊥
single_none x v zero e none at is = let same : x ≡ e = cc in let z : true ≡ false = sym is ∙ (ap (λ (y : MemEntry). is_release_of v y.what) (sym same) ∙ none) in cc
single_none x v (suc m) e none at is = cc

release_left : (vd : Verdict) (o : Option Opcode) (i id hand : ℕ) (waits : Bool) (number v m : ℕ) (e : MemEntry) → slice_get (under number (made_under vd (made_for o i id hand waits))) m ≡ Some e
    → is_release_of v e.what ≡ true → IsCloseLeft number i v (under number (made_under vd (made_for o i id hand waits))) m
release_left (Refused s) o i id hand waits number v zero e at is = absurd (cc)
release_left (Refused s) o i id hand waits number v (suc m) e at is = absurd (cc)
release_left Accepted None i id hand waits number v zero e at is = absurd (cc)
release_left Accepted None i id hand waits number v (suc m) e at is = absurd (cc)
release_left Accepted (Some Flush) i id hand waits number v zero e at is = absurd (cc)
release_left Accepted (Some Flush) i id hand waits number v (suc m) e at is = absurd (cc)
release_left Accepted (Some Trim) i id hand waits number v zero e at is = absurd (cc)
release_left Accepted (Some Trim) i id hand waits number v (suc m) e at is = absurd (cc)
release_left Accepted (Some Read) i id hand waits number v m e at is = absurd (single_none (record { hand = number; what = Pin i id hand }) v m e refl at is)
release_left Accepted (Some Write) i id hand waits number v m e at is = absurd (single_none (record { hand = number; what = Pin i id hand }) v m e refl at is)
release_left Accepted (Some Close) i id hand true number v m e at is = absurd (single_none (record { hand = number; what = mem.Close i id }) v m e refl at is)
release_left Accepted (Some Close) i id hand false number v zero e at is =
    let same : record { hand = number; what = mem.Close i id } ≡ e = ap (λ (o : Option MemEntry). unwrap_or o e) at in
    absurd (let z : false ≡ true = ap (λ (y : MemEntry). is_release_of v y.what) same ∙ is in cc)
release_left Accepted (Some Close) i id hand false number v (suc zero) e at is =
    let same : record { hand = number; what = Release id } ≡ e = ap (λ (o : Option MemEntry). unwrap_or o e) at in
    let t : (id == v) ≡ true = ap (λ (y : MemEntry). is_release_of v y.what) same ∙ is in
    let w : id ≡ v = eqb-true id v t in
    record {
      second = refl;
      both = ap (λ n. record { hand = number; what = mem.Close i n } ∷ record { hand = number; what = Release n } ∷ []) w;
    }
release_left Accepted (Some Close) i id hand false number v (suc (suc m)) e at is = absurd (cc)

-- ---- the admissions' releases

module _ (part : Range) (number : ℕ) (h : List MemEntry) (ts : List Taking) (a : AreTaken part number h ts) where
  -- an entry of the admissions is one that a taking left
  pub own_left : (n : ℕ) (e : MemEntry) → slice_get h n ≡ Some e → e.hand ≡ number → (k : ℕ) × (u : Taking) × (m : ℕ) × (slice_get ts k ≡ Some u) × (slice_get (left_by number u) m ≡ Some e)
  own_left n e at own =
      let r = in_filter (λ (x : MemEntry). x.hand == number) h n e at (eq-eqb e.hand number own) in
      in_flat (left_by number) ts r.0 e (ap (λ l. slice_get l r.0) (sym a.left) ∙ r.1)

  -- what a taking left stands right behind what it was judged on
  pub left_at : (k : ℕ) (u : Taking) (m : ℕ) (e : MemEntry) → slice_get ts k ≡ Some u → slice_get (left_by number u) m ≡ Some e → slice_get h (u.seen + m) ≡ Some e
  left_at k u m e at is = from_part h u.seen (length (made u)) m e (left_by number u) (a.judged k u at).left is

  -- the admissions release a buffer right after they close it
  pub record IsReleaseTaken (v n : ℕ) : Type 0 where
    pub k : ℕ
    pub taking : Taking
    pub at : slice_get ts k ≡ Some taking
    pub close : slice_get h taking.seen ≡ Some (record { hand = number; what = mem.Close (place_of taking) v })
    pub place : n ≡ taking.seen + 1

  module _ (last : all_with_before comes_before_release (events h) ≡ true) where
    pub release_taken : (n v : ℕ) (e : MemEntry) → slice_get h n ≡ Some e → e.hand ≡ number → e.what ≡ Release v → IsReleaseTaken v n
    release_taken n v e at own what =
        let r = own_left n e at own in
        let u : Taking = r.1 in let k : ℕ = r.0 in
        let is : is_release_of v e.what ≡ true = ap (is_release_of v) what ∙ eq-eqb v v refl in
        let c = release_left u.verdict (opcode (request_in u)) (place_of u) (request_in u).vmoid u.hand u.waits number v r.2 e r.4 is in
        let first : slice_get (left_by number u) 0 ≡ Some (record { hand = number; what = mem.Close (place_of u) v }) = ap (λ l. slice_get l 0) c.both in
        let second : slice_get (left_by number u) 1 ≡ Some (record { hand = number; what = Release v }) = ap (λ l. slice_get l 1) c.both in
        let z : u.seen + 0 ≡ u.seen = omega arith in
        record {
          k = k;
          taking = u;
          at = r.3;
          close = ap (slice_get h) (sym z) ∙ left_at k u 0 (record { hand = number; what = mem.Close (place_of u) v }) r.3 first;
          place = one_release h v n (u.seen + 1) e (record { hand = number; what = Release v }) last at (left_at k u 1 (record { hand = number; what = Release v }) r.3 second) what refl;
        }

  -- ---- all releases

  module _ (client : ℕ) (is_next : number ≡ client + 1) (others : (n : ℕ) → number < n → entries_of (λ (e : MemEntry). e.hand) n h ≡ []) (due : ReleaseClosed client h)
      (last : all_with_before comes_before_release (events h) ≡ true) where
    none_other : (n : ℕ) (e : MemEntry) → slice_get h n ≡ Some e → number < e.hand → ⊥
    none_other n e at more =
        let r = in_filter (λ (x : MemEntry). x.hand == e.hand) h n e at (eq-eqb e.hand e.hand refl) in
        none_there (entries_of (λ (x : MemEntry). x.hand) e.hand h) r.0 e (others e.hand more) r.1

    -- a release is the client's, or of a buffer that was closed before
    pub released_closed : (n v : ℕ) (e : MemEntry) → slice_get h n ≡ Some e → e.what ≡ Release v → (e.hand ≡ client) ⊎ (is_some (closer_of v (events (take n h))) ≡ true)
    released_closed n v e at what = step (nat_lt e.hand client) (nat_lt client e.hand) (nat_lt number e.hand) refl refl refl
      where
        step : (b c d : Bool) → nat_lt e.hand client ≡ b → nat_lt client e.hand ≡ c → nat_lt number e.hand ≡ d → (e.hand ≡ client) ⊎ (is_some (closer_of v (events (take n h))) ≡ true)
        step true c d x y z = inr (due n v e at (ltb-true e.hand client x) what)
        step false false d x y z = inl (let p = ltb-false e.hand client x in let q = ltb-false client e.hand y in omega arith)
        step false true true x y z = absurd (none_other n e at (ltb-true number e.hand z))
        step false true false x y z =
            let own : e.hand ≡ number = let p = ltb-true client e.hand y in let q = ltb-false number e.hand z in omega arith in
            let r = release_taken last n v e at own what in
            let lt : r.taking.seen < n = let q = r.place in omega arith in
            inr (closed_by v (place_of r.taking) r.taking.seen (take n h) (record { hand = number; what = mem.Close (place_of r.taking) v }) (in_take h n r.taking.seen (record { hand = number; what = mem.Close (place_of r.taking) v }) lt r.close) refl)
