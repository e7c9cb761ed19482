-- Each record that was taken ended once, and its row has how it ended.
use Rattle.std.proofs.Common.{◌≡◌, ℕ, zero, suc, ◌+◌, ◌<◌, ◌≤◌, Bool, true, false, not, nat_eq, cond, List, [], ◌∷◌, length, filter, map, get_or, Some, refl, sym, ap, ◌∙◌, arith}
use Rattle.std.specs.Prelude.{find}
use Rattle.std.specs.List.{list_any, slice_get}
use Rattle.std.specs.Option.{option_map, option_map_or}
use Rattle.std.proofs.lemmas.Bool.{eq-eqb}
use Rattle.std.proofs.lemmas.List.{length-map}
use Rattle.std.proofs.lemmas.List.FromFn.{length-range_with_len}
use Rattle.std.proofs.lemmas.Option.{get_or_from_slice_get, slice_get-map}
use Rattle.host_block.proofs.Places.{any_at}
use Rattle.host_intake.specs.{Landing, Taking, is_landing_of, place_of, AreLanded, is_open, outcome_in, row_in}
use Rattle.host_intake.proofs.Admitting.{taken_at}
use Rattle.host_model.specs.{TakenRow, Refused, below, count, row_at}
use Rattle.host_record.specs.declared.status.Status.TheVariants as status
use Rattle.host_session.specs.{times}
use Rattle.host_session.proofs.Counting.{count-map}
use Rattle.host_session.proofs.Times.{StandsOnce, as_many_pass, count_split, range_once, times-filter}
use Rattle.session_law.proofs.Lending.{eq_flip}
use Rattle.session_law.proofs.Sums.{bit, count_one, counted_here}

abbrev pub indexes : List Landing → List ℕ
indexes ls = map (λ (l : Landing). l.index) ls

-- ---- found where it stands

pub find_here : {A : Type 0} (p : A → Bool) (xs : List A) (n : ℕ) (x : A) → slice_get xs n ≡ Some x → p x ≡ true → count p xs ≤ 1 → find p xs ≡ Some x
find_here p [] zero x at is few = absurd (cc)
find_here p [] (suc n) x at is few = absurd (cc)
find_here p (y ∷ ys) zero x at is few =
    let same : y ≡ x = cc in
    ap (λ b. cond b (Some y) (find p ys)) (ap p same ∙ is) ∙ ap Some same
find_here p (y ∷ ys) (suc n) x at is few = step (p y) (count_one p y ys) (λ f. find_here p ys n x at is f)
  where
    step : (b : Bool) → count p (y ∷ ys) ≡ bit b + count p ys → (count p ys ≤ 1 → find p ys ≡ Some x) → cond b (Some y) (find p ys) ≡ Some x
    step true c more = absurd (let one = counted_here p ys n x at is in omega (arith, c, few, one))
    step false c more = more (omega (arith, c, few))

-- ---- each ends once

module _ (ts : List Taking) (ls : List Landing) (landed : AreLanded ts ls) where
  n : ℕ
  n = length ts

  landed_below : List ℕ
  landed_below = filter (λ i. list_any (is_landing_of i) ls) (below (length ts))

  count_landed : length landed_below ≡ length ls
  unfolding landed_below
  count_landed =
      let split : count (λ i. list_any (is_landing_of i) ls) (below (length ts)) + count (λ i. not (list_any (is_landing_of i) ls)) (below (length ts)) ≡ length (below (length ts)) = count_split (λ i. list_any (is_landing_of i) ls) (below (length ts)) in
      let once : length ls + count (is_open ls) (below (length ts)) ≡ length ts = landed.once in
      omega (arith, split, once, length-range_with_len 0 (length ts))

  among : (z : ℕ) → 0 < times z landed_below → 0 < times z (indexes ls)
  unfolding landed_below
  among z h =
      let f : times z (filter (λ i. list_any (is_landing_of i) ls) (below (length ts))) ≡ cond (list_any (is_landing_of z) ls) (times z (below (length ts))) 0 = times-filter (λ i. list_any (is_landing_of i) ls) z (below (length ts)) in
      step (list_any (is_landing_of z) ls) refl (omega (arith, f, h))
    where
      step : (b : Bool) → list_any (is_landing_of z) ls ≡ b → 0 < cond b (times z (below (length ts))) 0 → 0 < times z (indexes ls)
      step false e g = absurd (omega (arith, g))
      step true e g =
          let r = any_at (is_landing_of z) ls e in
          let l : Landing = r.1 in
          let there : slice_get (indexes ls) r.0 ≡ Some l.index = slice_get-map (λ (x : Landing). x.index) ls r.0 ∙ ap (option_map (λ (x : Landing). x.index)) r.2 in
          let is : nat_eq z l.index ≡ true = sym (eq_flip l.index z) ∙ r.3 in
          let c = counted_here (nat_eq z) (indexes ls) r.0 l.index there is in omega (arith, c)

  stands : StandsOnce landed_below (indexes ls)
  unfolding landed_below
  stands = record {
    once = λ z. let f = times-filter (λ i. list_any (is_landing_of i) ls) z (below (length ts)) in
        few (list_any (is_landing_of z) ls) (times z (filter (λ i. list_any (is_landing_of i) ls) (below (length ts)))) (times z (below (length ts))) f (range_once z 0 (length ts));
    among = among;
  }
    where
      few : (b : Bool) (m k : ℕ) → m ≡ cond b k 0 → k ≤ 1 → m ≤ 1
      few true m k e h = omega (arith, e, h)
      few false m k e h = omega (arith, e)

  pub landed_once : (z : ℕ) → times z (indexes ls) ≤ 1
  landed_once z =
      let enough : length (indexes ls) ≤ length landed_below = let a = length-map ls (λ (l : Landing). l.index) in omega (arith, a, count_landed) in
      let same : count (nat_eq z) landed_below ≡ count (nat_eq z) (indexes ls) = as_many_pass (nat_eq z) landed_below (indexes ls) stands enough in
      let one : times z landed_below ≤ 1 = stands.once z in
      omega (arith, same, one)

  pub landings_once : (z : ℕ) → count (is_landing_of z) ls ≤ 1
  landings_once z =
      let a : count (nat_eq z) (indexes ls) ≡ count (λ (l : Landing). nat_eq z l.index) ls = count-map (nat_eq z) (λ (l : Landing). l.index) ls in
      let b : count (λ (l : Landing). nat_eq z l.index) ls ≡ count (is_landing_of z) ls = same_count (λ (l : Landing). nat_eq z l.index) (is_landing_of z) (λ l. sym (eq_flip l.index z)) ls in
      let c = landed_once z in
      omega (arith, a, b, c)
    where
      same_count : (p q : Landing → Bool) → ((l : Landing) → p l ≡ q l) → (xs : List Landing) → count p xs ≡ count q xs
      same_count p q e [] = refl
      same_count p q e (x ∷ xs) = omega (arith, count_one p x xs, count_one q x xs, ap bit (e x), same_count p q e xs)

  -- the landing of a record is the one found
  pub found_landing : (k : ℕ) (l : Landing) → slice_get ls k ≡ Some l → find (is_landing_of l.index) ls ≡ Some l
  found_landing k l at = find_here (is_landing_of l.index) ls k l at (eq-eqb l.index l.index refl) (landings_once l.index)

  pub outcome_is : (k : ℕ) (l : Landing) → slice_get ls k ≡ Some l → outcome_in ls l.index ≡ l.end.outcome
  outcome_is k l at = ap (λ o. option_map_or (λ (x : Landing). x.end.outcome) o status.Ok) (found_landing k l at)

  pub landing_taken : (k : ℕ) (l : Landing) → slice_get ls k ≡ Some l → l.index < length ts
  landing_taken k l at = taken_at ts ls landed.by_taker k l at

  -- the row of a record has how it ended
  pub row_outcome : (i : ℕ) (t : Taking) → slice_get ts i ≡ Some t → place_of t ≡ i → (row_at (map (row_in ls) ts) i).outcome ≡ outcome_in ls i
  row_outcome i t at place =
      let e : get_or (map (row_in ls) ts) i (record { verdict = Refused status.Io; outcome = status.Io }) ≡ row_in ls t =
      get_or_from_slice_get (map (row_in ls) ts) i (row_in ls t) (record { verdict = Refused status.Io; outcome = status.Io }) (slice_get-map (row_in ls) ts i ∙ ap (option_map (row_in ls)) at) in
      ap (λ (r : TakenRow). r.outcome) e ∙ ap (outcome_in ls) place
