-- What a hand knows of the intake's history, as it grows.
use Rattle.std.proofs.Common.{◌≡◌, ℕ, ◌≤◌, Bool, true, false, not, ◌==◌, cond, List, [], ◌∷◌, ◌++◌, length, filter_map, Option, Some, None, refl, sym, ap, ap₂, subst, ◌∙◌, arith, length-append, eq-eqb}
use Rattle.std.specs.Prelude.{MatchOption}
use Rattle.std.specs.List.{cons_option, list_all, slice_get}
use Rattle.std.proofs.lemmas.List.Elements.{filter_map-append}
use mathlib.Core.List.{IsPrefix}
use Rattle.host_model.specs.{MemEntry, Step, map_after, map_with_before, index_of}
use Rattle.host_rings.specs.{Slip}
use Rattle.host_log.specs.{entries_of, HasAdded}
use Rattle.host_intake.specs.{IntakeEntry, Took, Landed, Passed, Turned, Taking, landing_of, landings, maker_of, taking_of, takings, is_passed, kept_slips}
use Rattle.host_log.proofs.Bools.{and_left, and_right}
use Rattle.host_hand.specs.{own_landings, own_takings, IsMoveTaken, IsPastTaking, IsStepTaken, IsTakenBy}
use Rattle.host_session.specs.{handed_by, slip_by, slip_in}
use Rattle.host_log.proofs.Growing.{own_rest}
use Rattle.host_log.proofs.Places.{stands_append}
use Rattle.host_session.proofs.Snoc.{map_after-append}

-- ---- records that were taken

-- a record that was taken stands in each longer history
pub taken_longer : (es more : List IntakeEntry) (i : ℕ) (t : Taking) → IsPrefix es more → slice_get (takings es) i ≡ Some t → slice_get (takings more) i ≡ Some t
taken_longer es more i t b at = ap (λ l. slice_get (takings l) i) (sym b.1) ∙ (ap (λ l. slice_get l i) (filter_map-append taking_of es b.0) ∙ stands_append (takings es) (takings b.0) i t at)

pub takings_more : (es more : List IntakeEntry) → IsPrefix es more → length (takings es) ≤ length (takings more)
takings_more es more b = omega (arith, ap (λ l. length (takings l)) b.1, ap length (filter_map-append taking_of es b.0), length-append (takings es) (takings b.0))

pub taken_by_longer : (es more : List IntakeEntry) (n i : ℕ) (t : Taking) → IsPrefix es more → IsTakenBy es n i t → IsTakenBy more n i t
taken_by_longer es more n i t b k = record { stands = taken_longer es more i t b k.stands; by = k.by; accepted = k.accepted; waits = k.waits }

pub step_taken_longer : (es more : List IntakeEntry) (n p : ℕ) (step : Step) → IsPrefix es more → IsStepTaken es n p step → IsStepTaken more n p step
step_taken_longer es more n p step b (t, k, le) = (t, taken_by_longer es more n step.index t b k, le)

pub move_taken_longer : (es more : List IntakeEntry) (n p : ℕ) (e : MemEntry) → IsPrefix es more → IsMoveTaken es n p e → IsMoveTaken more n p e
move_taken_longer es more n p e b = at (index_of e.what)
  where
    at : (o : Option ℕ) → MatchOption o (Unit {0}) (λ i. (t : Taking) × IsTakenBy es n i t × IsPastTaking p t) → MatchOption o (Unit {0}) (λ i. (t : Taking) × IsTakenBy more n i t × IsPastTaking p t)
    at None k = tt
    at (Some i) (t, k, past) = (t, taken_by_longer es more n i t b k, past)

-- whose taking says so, in each longer history
pub taking_longer : (P : Taking → Type 0) (es more : List IntakeEntry) (i : ℕ) → IsPrefix es more → MatchOption (slice_get (takings es) i) ⊥ P → MatchOption (slice_get (takings more) i) ⊥ P
taking_longer P es more i b = at (slice_get (takings es) i) refl
  where
    at : (o : Option Taking) → slice_get (takings es) i ≡ o → MatchOption o ⊥ P → MatchOption (slice_get (takings more) i) ⊥ P
    at None is m = absurd m
    at (Some t) is m = subst (λ (o : Option Taking). MatchOption o ⊥ P) (sym (taken_longer es more i t b is)) m

-- ---- the hand's own records

pub own_takings_added : (n : ℕ) (added old new : List IntakeEntry) → HasAdded maker_of n added old new → own_takings n new ≡ own_takings n old ++ takings added
own_takings_added n added old new a = ap takings a.own ∙ filter_map-append taking_of (entries_of maker_of n old) added

pub own_landings_added : (n : ℕ) (added old new : List IntakeEntry) → HasAdded maker_of n added old new → own_landings n new ≡ own_landings n old ++ landings added
own_landings_added n added old new a = ap landings a.own ∙ filter_map-append landing_of (entries_of maker_of n old) added

-- ---- the answers that it handed on

pub map_with_before_append : {A B : Type 0} (f : List A → A → Option B) (xs ys : List A) → map_with_before f (xs ++ ys) ≡ map_with_before f xs ++ map_after f xs ys
map_with_before_append f xs ys = map_after-append f [] xs ys

-- the answer that an entry tells to be handed on, whatever stood before
abbrev pub slip_now : IntakeEntry → Option Slip
slip_now (Landed hand index end answer false) = answer
slip_now _ = None

abbrev pub is_no_pass : IntakeEntry → Bool
is_no_pass e = not (is_passed e)

slip_same : (before : List IntakeEntry) (e : IntakeEntry) → is_no_pass e ≡ true → slip_in before e ≡ slip_now e
slip_same before (Took hand envelope verdict waits seen) h = refl
slip_same before (Landed hand index end answer true) h = refl
slip_same before (Landed hand index end answer false) h = refl
slip_same before (Passed hand) h = absurd (cc h)
slip_same before (Turned hand phase) h = refl

pub handed_rest : (n : ℕ) (before rest : List IntakeEntry) → list_all is_no_pass (entries_of maker_of n rest) ≡ true → map_after (slip_by n) before rest ≡ filter_map slip_now (entries_of maker_of n rest)
handed_rest n before [] h = refl
handed_rest n before (e ∷ rest) h = at (maker_of e == n) h (handed_rest n (before ++ e ∷ []) rest)
  where
    at : (m : Bool) → list_all is_no_pass (cond m (e ∷ entries_of maker_of n rest) (entries_of maker_of n rest)) ≡ true
        → (list_all is_no_pass (entries_of maker_of n rest) ≡ true → map_after (slip_by n) (before ++ e ∷ []) rest ≡ filter_map slip_now (entries_of maker_of n rest))
        → cons_option (cond m (slip_in before e) None) (map_after (slip_by n) (before ++ e ∷ []) rest) ≡ filter_map slip_now (cond m (e ∷ entries_of maker_of n rest) (entries_of maker_of n rest))
    at true all ih = ap₂ cons_option (slip_same before e (and_left (is_no_pass e) (list_all is_no_pass (entries_of maker_of n rest)) all)) (ih (and_right (is_no_pass e) (list_all is_no_pass (entries_of maker_of n rest)) all))
    at false all ih = ih all

pub handed_added : (n : ℕ) (added old new : List IntakeEntry) → HasAdded maker_of n added old new → list_all is_no_pass added ≡ true → handed_by n new ≡ handed_by n old ++ filter_map slip_now added
handed_added n added old new a none =
    let own : entries_of maker_of n a.begins.0 ≡ added = own_rest maker_of n added old new a.begins a.own in
    ap (handed_by n) (sym a.begins.1) ∙ (map_with_before_append (slip_by n) old a.begins.0 ∙ ap (λ l. handed_by n old ++ l) (handed_rest n old a.begins.0 (ap (list_all is_no_pass) own ∙ none) ∙ ap (filter_map slip_now) own))

-- the oldest kept answer was handed on
pub handed_passed : (n : ℕ) (es : List IntakeEntry) (slip : Slip) → slice_get (kept_slips es) 0 ≡ Some slip → handed_by n (es ++ Passed n ∷ []) ≡ handed_by n es ++ slip ∷ []
handed_passed n es slip oldest = map_with_before_append (slip_by n) es (Passed n ∷ []) ∙ ap (λ l. handed_by n es ++ l) (ap (λ b. cons_option (cond b (slip_in es (Passed n)) None) []) (eq-eqb n n refl) ∙ ap (λ o. cons_option o []) oldest)
