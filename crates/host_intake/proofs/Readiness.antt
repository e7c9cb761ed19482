-- The buffer of a record that was accepted is ready to be pinned or closed.
use Rattle.std.proofs.Common.{◌≡◌, ◌≢◌, ◌⊎◌, inl, inr, ℕ, zero, suc, ◌+◌, ◌≤◌, ◌<◌, ◌==◌, Bool, true, false, cond, List, [], ◌∷◌, ◌++◌, length, filter, filter_map, Option, Some, None, MatchOption, refl, sym, ap, subst, ◌∙◌, arith, length-append}
use Rattle.std.specs.Prelude.{slice_get, flat_map, unwrap_or}
use Rattle.std.specs.Bool.{then_some}
use Rattle.std.specs.List.{list_all, cons_option}
use Rattle.std.specs.Option.{is_some, option_map_or}
use Rattle.std.proofs.lemmas.Bool.{leb-true, eqb-true}
use Rattle.std.proofs.lemmas.Bool.Decides.{eqb_tells}
use Rattle.std.proofs.lemmas.List.{map-append}
use Rattle.std.proofs.lemmas.List.Elements.{filter-append}
use Rattle.std.proofs.lemmas.Option.{slice_get_within}
use Rattle.host_block.specs.declared.range.Range.{Range}
use Rattle.host_model.specs.{MemEntry, MemEvent, Attach, Fill, Show, Pin, Lift, Land, Done, Release, Accepted, Refused, count, is_pin}
use Rattle.host_model.specs.declared.memory.MemEvent.TheVariants as mem
use Rattle.host_model.specs.declared.verdict.Verdict.{Verdict}
use Rattle.host_record.specs.{Opcode, Read, Write, Flush, Trim, Close, opcode}
use Rattle.host_memory.specs.{closer_by, closer_of, is_before_close, is_released, pages_for, standing_in, attachment_of, is_numbered, is_pin_for, events}
use Rattle.host_log.specs.{entries_of}
use Rattle.host_intake.specs.{Taking, place_of, request_in, AreTaken, IsPastJudging, left_by, made, made_for, made_under, under, IsPinReady}
use Rattle.host_intake.proofs.Judging.{hand_of}
use Rattle.host_log.proofs.Bools.{and_left, and_right}

-- ---- elements and tests

pub all_at : {A : Type 0} (p : A → Bool) (xs : List A) → list_all p xs ≡ true → (n : ℕ) (x : A) → slice_get xs n ≡ Some x → p x ≡ true
all_at p [] h zero x e = absurd (cc)
all_at p [] h (suc n) x e = absurd (cc)
all_at p (y ∷ ys) h zero x e = subst (λ z. p z ≡ true) (ap (λ o. unwrap_or o y) e) (and_left (p y) (list_all p ys) h)
all_at p (y ∷ ys) h (suc n) x e = all_at p ys (and_right (p y) (list_all p ys) h) n x e

none_counted : (p : MemEvent → Bool) (w : List MemEntry) → ((n : ℕ) (e : MemEntry) → slice_get w n ≡ Some e → p e.what ≡ false) → count p (events w) ≡ 0
none_counted p [] h = refl
none_counted p (e ∷ es) h = ap (λ b. length (cond b (e.what ∷ filter p (events es)) (filter p (events es)))) (h 0 e refl) ∙ none_counted p es (λ n x at. h (suc n) x at)

-- where the first entry of a kind stands
pub first_found : (f : MemEvent → Option ℕ) (w : List MemEntry) (j : ℕ) → slice_get (filter_map f (events w)) 0 ≡ Some j → (n : ℕ) × (e : MemEntry) × (slice_get w n ≡ Some e) × (f e.what ≡ Some j)
first_found f [] j h = absurd (cc)
first_found f (e ∷ es) j h = step (f e.what) refl h (λ g. first_found f es j g)
  where
    step : (o : Option ℕ) → f e.what ≡ o → slice_get (cons_option o (filter_map f (events es))) 0 ≡ Some j
        → (slice_get (filter_map f (events es)) 0 ≡ Some j → (n : ℕ) × (x : MemEntry) × (slice_get es n ≡ Some x) × (f x.what ≡ Some j))
        → (n : ℕ) × (x : MemEntry) × (slice_get (e ∷ es) n ≡ Some x) × (f x.what ≡ Some j)
    step None is h more = let r = more h in (suc r.0, r.1, r.2, r.3)
    step (Some i) is h more = (0, e, refl, is ∙ h)

-- ---- the entries of the admissions

module _ (part : Range) (client number : ℕ) (whole : List MemEntry) (ts : List Taking) (k : AreTaken part number whole ts) (numbered : list_all (is_numbered client number) whole ≡ true) where
  taken_before : (n j : ℕ) → MatchOption (slice_get ts j) ⊥ (λ t. t.seen ≤ n) → j < length ts
  taken_before n j m = step (slice_get ts j) refl m
    where
      step : (o : Option Taking) → slice_get ts j ≡ o → MatchOption o ⊥ (λ t. t.seen ≤ n) → j < length ts
      step None e m = absurd m
      step (Some t) e m = slice_get_within ts j t e

  -- a pin and a close are of records that were taken
  past_at : (n : ℕ) (e : MemEntry) → slice_get whole n ≡ Some e → e.hand ≡ number → IsPastJudging ts n e.what
  past_at n e at own = k.order n e at own

  numbered_at : (n : ℕ) (e : MemEntry) → slice_get whole n ≡ Some e → is_numbered client number e ≡ true
  numbered_at n e at = all_at (is_numbered client number) whole numbered n e at

  no_pin : (n : ℕ) (h : ℕ) (what : MemEvent) → slice_get whole n ≡ Some (record { hand = h; what = what }) → is_pin_for (length ts) what ≡ false
  no_pin n h (Pin index id by) at = step (eqb_tells (length ts) index)
    where
      own : h ≡ number
      own = eqb-true h number (numbered_at n (record { hand = h; what = Pin index id by }) at)

      step : (((length ts == index) ≡ true) × (length ts ≡ index)) ⊎ (((length ts == index) ≡ false) × (length ts ≢ index)) → (length ts == index) ≡ false
      step (inl s) = absurd (let b = taken_before n index (past_at n (record { hand = h; what = Pin index id by }) at own) in let e = s.1 in omega arith)
      step (inr s) = s.0
  no_pin n h _ at = refl

  some_of : (b : Bool) (i j : ℕ) → then_some b i ≡ Some j → i ≡ j
  some_of true i j e = ap (λ (o : Option ℕ). unwrap_or o i) e
  some_of false i j e = absurd (cc)

  closer_before : (v n h j : ℕ) (what : MemEvent) → slice_get whole n ≡ Some (record { hand = h; what = what }) → closer_by v what ≡ Some j → j < length ts
  closer_before v n h j (mem.Close index id) at by =
      let own : h ≡ number = eqb-true h number (numbered_at n (record { hand = h; what = mem.Close index id }) at) in
      let b = taken_before n index (past_at n (record { hand = h; what = mem.Close index id }) at own) in
      let e = some_of (id == v) index j by in omega arith
  closer_before v n h j _ at by = absurd (cc)

  -- no later record has closed a buffer that stands for the next one
  unclosed : (v : ℕ) → is_some (standing_in v (length ts) (events whole)) ≡ true → closer_of v (events whole) ≡ None
  unclosed v stands = step (closer_of v (events whole)) refl (before (is_released v (events whole)) (is_before_close (length ts) (closer_of v (events whole))) (option_map_or (pages_for (length ts)) (attachment_of v (events whole)) None) stands)
    where
      before : (b c : Bool) (o : Option ℕ) → is_some (cond b None (cond c o None)) ≡ true → c ≡ true
      before true c o e = absurd (cc)
      before false true o e = refl
      before false false o e = absurd (cc)

      step : (o : Option ℕ) → closer_of v (events whole) ≡ o → is_before_close (length ts) o ≡ true → o ≡ None
      step None is h = refl
      step (Some j) is h = absurd (
          let f = first_found (closer_by v) whole j is in
          let b = closer_before v f.0 f.1.hand j f.1.what f.2 f.3 in let le = leb-true (length ts) j h in omega arith)

  -- ---- how many pins there are

  own_step : (e : MemEntry) (b c : Bool) (l m : List MemEvent) (xs : List MemEntry) → is_pin e.what ≡ b → (e.hand == number) ≡ c → (b ≡ true → c ≡ true) → length l ≡ count is_pin (events xs)
      → length (cond b (e.what ∷ l) l) ≡ count is_pin (events (cond c (e ∷ xs) xs))
  own_step e true true l m xs p q imp h = ap suc h ∙ ap (λ b. length (cond b (e.what ∷ filter is_pin (events xs)) (filter is_pin (events xs)))) (sym p)
  own_step e true false l m xs p q imp h = absurd (let z : false ≡ true = imp refl in cc)
  own_step e false true l m xs p q imp h = h ∙ ap (λ b. length (cond b (e.what ∷ filter is_pin (events xs)) (filter is_pin (events xs)))) (sym p)
  own_step e false false l m xs p q imp h = h

  pin_owned : (h : ℕ) (what : MemEvent) → is_numbered client number (record { hand = h; what = what }) ≡ true → is_pin what ≡ true → (h == number) ≡ true
  pin_owned h (Pin index id by) n p = n
  pin_owned h (Attach id pages from) n p = absurd (cc)
  pin_owned h (Fill id block cnt byte) n p = absurd (cc)
  pin_owned h (Show id block cnt) n p = absurd (cc)
  pin_owned h (Lift index j id block bytes) n p = absurd (cc)
  pin_owned h (Land index j id block bytes) n p = absurd (cc)
  pin_owned h (Done index id) n p = absurd (cc)
  pin_owned h (mem.Close index id) n p = absurd (cc)
  pin_owned h (Release id) n p = absurd (cc)

  pins_owned : (w : List MemEntry) → list_all (is_numbered client number) w ≡ true → count is_pin (events w) ≡ count is_pin (events (entries_of hand_of number w))
  pins_owned [] n = refl
  pins_owned (e ∷ es) n =
      own_step e (is_pin e.what) (e.hand == number) (filter is_pin (events es)) [] (entries_of hand_of number es) refl refl
      (pin_owned e.hand e.what (and_left (is_numbered client number e) (list_all (is_numbered client number) es) n))
      (pins_owned es (and_right (is_numbered client number e) (list_all (is_numbered client number) es) n))

  one_made : (v : Verdict) (o : Option Opcode) (i id hand : ℕ) (waits : Bool) → count is_pin (made_under v (made_for o i id hand waits)) ≤ 1
  one_made (Refused s) o i id hand waits = omega arith
  one_made Accepted None i id hand waits = omega arith
  one_made Accepted (Some Read) i id hand waits = omega arith
  one_made Accepted (Some Write) i id hand waits = omega arith
  one_made Accepted (Some Flush) i id hand waits = omega arith
  one_made Accepted (Some Trim) i id hand waits = omega arith
  one_made Accepted (Some Close) i id hand true = omega arith
  one_made Accepted (Some Close) i id hand false = omega arith

  events_under : (es : List MemEvent) → events (under number es) ≡ es
  events_under [] = refl
  events_under (e ∷ es) = ap (λ l. e ∷ l) (events_under es)

  pins_left_by : (us : List Taking) → count is_pin (events (flat_map (left_by number) us)) ≤ length us
  pins_left_by [] = omega arith
  pins_left_by (u ∷ us) =
      let a : count is_pin (events (left_by number u ++ flat_map (left_by number) us)) ≡ count is_pin (events (left_by number u)) + count is_pin (events (flat_map (left_by number) us)) =
      ap (λ l. count is_pin l) (map-append (λ (e : MemEntry). e.what) (left_by number u) (flat_map (left_by number) us))
      ∙ (ap length (filter-append is_pin (events (left_by number u)) (events (flat_map (left_by number) us))) ∙ length-append (filter is_pin (events (left_by number u))) (filter is_pin (events (flat_map (left_by number) us)))) in
      let b : count is_pin (events (left_by number u)) ≡ count is_pin (made u) = ap (λ l. count is_pin l) (events_under (made u)) in
      let one = one_made u.verdict (opcode (request_in u)) (place_of u) (request_in u).vmoid u.hand u.waits in let r = pins_left_by us in omega arith

  pub ready : (records v : ℕ) → length ts < records → is_some (standing_in v (length ts) (events whole)) ≡ true → IsPinReady (events whole) records (length ts) v
  ready records v few stands = record {
    room = let a = pins_owned whole numbered in let b = ap (λ (w : List MemEntry). count is_pin (events w)) k.left in let c = pins_left_by ts in omega arith;
    stands = stands;
    open_still = unclosed v stands;
    first = none_counted (is_pin_for (length ts)) whole (λ n e at. no_pin n e.hand e.what at);
  }
