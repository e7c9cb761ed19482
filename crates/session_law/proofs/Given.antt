-- The pages that a client attached, buffer by buffer.
use Rattle.std.proofs.Common.{◌≡◌, ℕ, suc, ◌+◌, ◌==◌, Bool, true, false, cond, List, [], ◌∷◌, ◌++◌, filter_map, length, take, Option, Some, None, refl, sym, ap, ◌∙◌, arith, append_assoc, eq-eqb}
use Rattle.std.specs.Prelude.{sum_by, unwrap_or}
use Rattle.std.specs.List.{cons_option, range_with_len, slice_get}
use Rattle.std.specs.Option.{option_map_or}
use Rattle.std.proofs.lemmas.Bool.{eqb-true}
use Rattle.std.proofs.lemmas.List.Elements.{filter_map-append}
use Rattle.std.proofs.lemmas.List.Sums.{sum_by-cons}
use Rattle.host_block.proofs.Places.{range_at, within}
use Rattle.host_model.specs.{Event, Attached, NotAttached, Filled, Shown, Sent, Received, Drained, Aborted, given, given_id, pages_given, pages_of}
use Rattle.session_law.proofs.Places.{has_found}
use Rattle.host_log.proofs.Places.{stands_append, get_middle}
use Rattle.session_law.specs.{attached_by}

-- ---- lists

pub none_found : {A B : Type 0} (f : A → Option B) (xs : List A) → ((n : ℕ) (x : A) → slice_get xs n ≡ Some x → f x ≡ None) → filter_map f xs ≡ []
none_found f [] h = refl
none_found f (x ∷ xs) h = ap (λ o. cons_option o (filter_map f xs)) (h 0 x refl) ∙ none_found f xs (λ n y at. h (suc n) y at)

-- ---- events

none_attached : (e : Event) → given_id e ≡ None → attached_by e ≡ 0
none_attached (Attached pages id) h = absurd (cc)
none_attached _ h = refl

attached_is : (e : Event) (id : ℕ) → given_id e ≡ Some id → e ≡ Attached (attached_by e) id
attached_is (Attached pages i) id h = let same : i ≡ id = ap (λ (o : Option ℕ). unwrap_or o i) h in ap (Attached pages) same
attached_is (NotAttached pages cause) id h = absurd (cc)
attached_is (Filled i block count byte done) id h = absurd (cc)
attached_is (Shown i block count done bytes) id h = absurd (cc)
attached_is (Sent index bytes) id h = absurd (cc)
attached_is (Received bytes) id h = absurd (cc)
attached_is Drained id h = absurd (cc)
attached_is Aborted id h = absurd (cc)

pages_none : (id : ℕ) (e : Event) → (given_id e ≡ Some id → ⊥) → pages_of id e ≡ None
pages_none id (Attached pages i) h = step (i == id) refl
  where
    step : (b : Bool) → (i == id) ≡ b → cond b (Some pages) None ≡ None
    step true e = absurd (h (ap Some (eqb-true i id e)))
    step false e = refl
pages_none id _ h = refl

-- ---- the log

-- each buffer is given once, so its pages are those of the event that gave it
module _ (log : List Event) (ids : given log ≡ range_with_len 1 (length (given log))) where
  abbrev pub pages_in_log : ℕ → ℕ
  pages_in_log v = option_map_or (λ (k : ℕ). k) (pages_given v log) 0

  numbered : (k id : ℕ) → slice_get (given log) k ≡ Some id → id ≡ 1 + k
  numbered k id at =
      let lt = within (given log) k id at in
      let is : slice_get (given log) k ≡ Some (1 + k) = ap (λ l. slice_get l k) ids ∙ range_at 1 (length (given log)) k lt in
      ap (λ (o : Option ℕ). unwrap_or o 0) (sym at ∙ is)

  pages_there : (before : List Event) (e : Event) (after : List Event) (id : ℕ) → before ++ e ∷ after ≡ log → given_id e ≡ Some id → pages_in_log id ≡ attached_by e
  pages_there before e after id all is =
      let split : given log ≡ given before ++ cons_option (given_id e) (given after) = ap given (sym all) ∙ filter_map-append given_id before (e ∷ after) in
      let whole : given log ≡ given before ++ id ∷ given after = split ∙ ap (λ o. given before ++ cons_option o (given after)) is in
      let here : slice_get (given log) (length (given before)) ≡ Some id = ap (λ l. slice_get l (length (given before))) whole ∙ get_middle (given before) id (given after) in
      let number = numbered (length (given before)) id here in
      let none : filter_map (pages_of id) before ≡ [] = none_found (pages_of id) before (λ n y at. pages_none id y (λ same.
      let j : ℕ = length (filter_map given_id (take n before)) in
      let first : slice_get (given before) j ≡ Some id = has_found given_id before n y id at same in
      let lt = within (given before) j id first in
      let again = numbered j id (ap (λ l. slice_get l j) whole ∙ stands_append (given before) (id ∷ given after) j id first) in
      omega (arith, number, again, lt))) in
      let own : pages_of id e ≡ Some (attached_by e) = ap (pages_of id) (attached_is e id is) ∙ ap (λ b. cond b (Some (attached_by e)) None) (eq-eqb id id refl) in
      let told : filter_map (pages_of id) log ≡ attached_by e ∷ filter_map (pages_of id) after =
      ap (filter_map (pages_of id)) (sym all) ∙ (filter_map-append (pages_of id) before (e ∷ after)
      ∙ (ap (λ l. l ++ cons_option (pages_of id e) (filter_map (pages_of id) after)) none ∙ ap (λ o. cons_option o (filter_map (pages_of id) after)) own)) in
      ap (λ (l : List ℕ). option_map_or (λ (k : ℕ). k) (slice_get l 0) 0) told

  given_from : (before after : List Event) → before ++ after ≡ log → sum_by attached_by after ≡ sum_by pages_in_log (given after)
  given_from before [] all = refl
  given_from before (e ∷ after) all = step (given_id e) refl (given_from (before ++ e ∷ []) after (append_assoc before (e ∷ []) after ∙ all))
    where
      step : (o : Option ℕ) → given_id e ≡ o → sum_by attached_by after ≡ sum_by pages_in_log (given after) → sum_by attached_by (e ∷ after) ≡ sum_by pages_in_log (cons_option o (given after))
      step None is r = let z = none_attached e is in omega (arith, sum_by-cons attached_by e after, z, r)
      step (Some id) is r = let p = pages_there before e after id all is in omega (arith, sum_by-cons attached_by e after, sum_by-cons pages_in_log id (given after), p, r)

  pub given_sum : sum_by attached_by log ≡ sum_by pages_in_log (given log)
  given_sum = given_from [] log refl
