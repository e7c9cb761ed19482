-- The whole history of a session's intake: once the client has closed it, nothing is taken and nothing ends any more.
use Rattle.std.proofs.Common.{◌≡◌, ℕ, ◌+◌, ◌≤◌, Bool, true, false, not, cond, IsTrue, List, [], ◌∷◌, ◌++◌, length, filter, filter_map, drop, Option, Some, None, refl, sym, ap, ◌∙◌, arith, append_assoc, append-nil, length-append, length-drop}
use Rattle.std.specs.List.{list_any}
use Rattle.std.proofs.lemmas.List.Elements.{filter-append, filter_map-append}
use Rattle.host_intake.specs.{IntakeEntry, Took, Landed, Passed, Turned, Phase, Running, Closed, landing_of, landings, taking_of, takings, is_shut, is_taken_open, flights_in, is_aborted_phase, is_passed, kept_by, kept_slips, phase_in, turn_of, turns, was_aborted}
use Rattle.host_model.specs.{all_after, all_with_before, count, last}
use Rattle.host_model.proofs.ListTests.{both}
use Rattle.host_record.specs.{Finish}
use Rattle.host_rings.specs.{Slip}
use Rattle.host_session.specs.{turns_made}
use Rattle.host_session.proofs.Snoc.{found_none}
use Rattle.host_log.proofs.Places.{nil_of, nothing_more}

-- who has closed a session has turned it to closed last
pub closed_last : (f : Option Finish) (b : Bool) → (f ≡ None → b ≡ false) → b ≡ true → last Running (turns_made f b) ≡ Closed
closed_last None b first e = absurd (cc (sym e ∙ first refl))
closed_last (Some how) true first e = refl
closed_last (Some how) false first e = absurd (cc e)

-- what passes with what stands before it, passes at the end of a list
passed_after : {A : Type 0} (test : List A → A → Bool) (before xs ys : List A) → all_after test before (xs ++ ys) ≡ true → all_after test (before ++ xs) ys ≡ true
passed_after test before [] ys e = ap (λ l. all_after test l ys) (append-nil before) ∙ e
passed_after test before (x ∷ xs) ys e =
    ap (λ l. all_after test l ys) (sym (append_assoc before (x ∷ []) xs))
    ∙ passed_after test (before ++ x ∷ []) xs ys (both (test before x) (all_after test (before ++ x ∷ []) (xs ++ ys)) e).1

-- nothing is taken once the session is closed
none_taken : (before rest : List IntakeEntry) → phase_in before ≡ Closed → turns rest ≡ [] → all_after is_taken_open before rest ≡ true → takings rest ≡ []
none_taken before [] closed none before_close = refl
none_taken before (Took hand envelope verdict waits seen ∷ rest) closed none before_close =
    let t : IsTrue (is_taken_open before (Took hand envelope verdict waits seen)) = (both (is_taken_open before (Took hand envelope verdict waits seen)) (all_after is_taken_open (before ++ Took hand envelope verdict waits seen ∷ []) rest) before_close).0 in
    absurd (cc (sym t ∙ ap (λ (ph : Phase). not (is_shut ph)) closed))
none_taken before (Landed hand index end answer kept ∷ rest) closed none before_close =
    none_taken (before ++ Landed hand index end answer kept ∷ []) rest (ap (last Running) (found_none turn_of before (Landed hand index end answer kept) refl) ∙ closed) none before_close
none_taken before (Passed hand ∷ rest) closed none before_close =
    none_taken (before ++ Passed hand ∷ []) rest (ap (last Running) (found_none turn_of before (Passed hand) refl) ∙ closed) none before_close
none_taken before (Turned hand phase ∷ rest) closed none before_close = absurd (cc none)

-- where nothing ended, no answer is kept
none_kept : (rest : List IntakeEntry) → landings rest ≡ [] → filter_map kept_by rest ≡ []
none_kept [] none = refl
none_kept (Took hand envelope verdict waits seen ∷ rest) none = none_kept rest none
none_kept (Landed hand index end answer kept ∷ rest) none = absurd (cc none)
none_kept (Passed hand ∷ rest) none = none_kept rest none
none_kept (Turned hand phase ∷ rest) none = none_kept rest none

fewer_kept : (b : Bool) (m n : ℕ) (l : List Slip) → m ≤ n → length (cond b [] (drop m l)) ≡ 0 → length (cond b [] (drop n l)) ≡ 0
fewer_kept true m n l le e = refl
fewer_kept false m n l le e = omega (arith, le, e, length-drop m l, length-drop n l)

module _ (seen rest es : List IntakeEntry) (whole : seen ++ rest ≡ es) (same : turns es ≡ turns seen) (closed : phase_in seen ≡ Closed) (before_close : IsTrue (all_with_before is_taken_open es)) where
  no_turns : turns rest ≡ []
  no_turns = nothing_more (turns seen) (turns rest) (sym (filter_map-append turn_of seen rest) ∙ (ap turns whole ∙ same))

  no_takings : takings rest ≡ []
  no_takings = none_taken seen rest closed no_turns (passed_after is_taken_open [] seen rest (ap (all_with_before is_taken_open) whole ∙ before_close))

  pub takings_still : takings es ≡ takings seen
  takings_still = ap takings (sym whole) ∙ (filter_map-append taking_of seen rest ∙ (ap (λ l. takings seen ++ l) no_takings ∙ append-nil (takings seen)))

  module _ (over : length (landings es) ≡ length (takings es)) (landed : flights_in seen ≡ 0) where
    no_landings : landings rest ≡ []
    no_landings =
        let l : landings es ≡ landings seen ++ landings rest = ap landings (sym whole) ∙ filter_map-append landing_of seen rest in
        nil_of (landings rest) (omega (arith, over, landed, ap length takings_still, ap length l, length-append (landings seen) (landings rest)))

    pub landed_still : flights_in es ≡ 0
    landed_still = omega (arith, over)

    pub passed_still : length (kept_slips seen) ≡ 0 → length (kept_slips es) ≡ 0
    passed_still none =
        let k : filter_map kept_by es ≡ filter_map kept_by seen = ap (filter_map kept_by) (sym whole) ∙ (filter_map-append kept_by seen rest ∙ (ap (λ l. filter_map kept_by seen ++ l) (none_kept rest no_landings) ∙ append-nil (filter_map kept_by seen))) in
        let c : count is_passed es ≡ count is_passed seen + count is_passed rest = ap (count is_passed) (sym whole) ∙ (ap length (filter-append is_passed seen rest) ∙ length-append (filter is_passed seen) (filter is_passed rest)) in
        let t : was_aborted es ≡ was_aborted seen = ap (λ (ps : List Phase). list_any is_aborted_phase ps) same in
        ap (λ b. length (cond b [] (drop (count is_passed es) (filter_map kept_by es)))) t
        ∙ (ap (λ l. length (cond (was_aborted seen) [] (drop (count is_passed es) l))) k
        ∙ fewer_kept (was_aborted seen) (count is_passed seen) (count is_passed es) (filter_map kept_by seen) (omega (arith, c)) none)
