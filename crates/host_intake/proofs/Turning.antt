-- What an intake keeps beside its history, once an answer was handed on or the session was turned.
use Rattle.std.proofs.Common.{◌≡◌, ℕ, ◌+◌, ◌≤◌, ◌<◌, Bool, true, false, cond, List, [], ◌∷◌, ◌++◌, length, filter_map, map, drop, refl, sym, ap, subst, ◌∙◌, arith, length-append}
use Rattle.std.specs.List.{list_any, list_all}
use Rattle.std.proofs.lemmas.List.{drop-drop, length-drop}
use Rattle.std.proofs.lemmas.List.Folds.{list_any-append}
use Rattle.host_block.specs.{WithRoom}
use Rattle.host_group.specs.{greatest}
use Rattle.host_model.specs.{all_with_before, below, count, last}
use Rattle.host_model.proofs.Growth.{all_with_before-push}
use Rattle.host_model.proofs.ListTests.{and-from}
use Rattle.host_rings.specs.{Slip}
use Rattle.host_memory.proofs.Pushed.{filter_map_skip, filter_map_add, count_skip, count_add, last_snoc}
use Rattle.host_intake.specs.{IntakeEntry, Passed, Turned, Phase, Running, Closed, Taking, Landing, taking_of, landing_of, takings, landings, place_of, IsLedger, is_before, is_course, is_taken_open, is_open, flights_in, turn_of, turns, kept_by, is_passed, kept_slips, phase_in, was_aborted, is_aborted_phase, seen_of}
use Rattle.host_intake.proofs.Pushing.{kept_few}
use Rattle.host_intake.proofs.Ledgering.{course_few, phase_from, room_for, ended_few}
use Rattle.host_log.proofs.Bools.{or_off, or_on}

-- ---- an answer was handed on

pub pass_step : (aborted : Bool) (p : ℕ) (ks : List Slip) → 0 < length (cond aborted [] (drop p ks)) → (p + 1 ≤ length ks) × (cond aborted [] (drop (p + 1) ks) ≡ drop 1 (cond aborted [] (drop p ks)))
pass_step true p ks h = absurd (omega arith)
pass_step false p ks h = let n = length-drop p ks in (omega arith, sym (drop-drop 1 p ks))

module _ (room : ℕ) (l : WithRoom IntakeEntry) (phase : Phase) (flights : ℕ) (kept : List Slip) (front : ℕ) (k : IsLedger room l phase flights kept front) where
  module _ (some : 0 < length (kept_slips l.items)) where
    pub room_passed : length l.items < l.room
    room_passed =
        let p = (pass_step (was_aborted l.items) (count is_passed l.items) (filter_map kept_by l.items) some).0 in
        let few = k.few in let e = ended_few room l phase flights kept front k in let q = kept_few l.items in let t = course_few (turns l.items) k.course in
        room_for room l phase flights kept front k (omega arith)

    pub ledger_passed : (hand : ℕ) → IsLedger room (record l { items = l.items ++ Passed hand ∷ [] }) phase flights (drop 1 kept) front
    ledger_passed hand =
        let es = l.items in let e = Passed hand in
        let ts : takings (es ++ e ∷ []) ≡ takings es = filter_map_skip taking_of es e refl in
        let ls : landings (es ++ e ∷ []) ≡ landings es = filter_map_skip landing_of es e refl in
        let ps : turns (es ++ e ∷ []) ≡ turns es = filter_map_skip turn_of es e refl in
        let ph : phase_in (es ++ e ∷ []) ≡ phase_in es = phase_from es (es ++ e ∷ []) ps in
        let passed : count is_passed (es ++ e ∷ []) ≡ count is_passed es + 1 = count_add is_passed es e refl in
        let slips : filter_map kept_by (es ++ e ∷ []) ≡ filter_map kept_by es = filter_map_skip kept_by es e refl in
        let step = pass_step (was_aborted es) (count is_passed es) (filter_map kept_by es) some in
        let few = step.0 in let less = length-drop 1 kept in let lm = k.limit in
        record {
          has_room = k.has_room;
          few = subst (λ (z : List Taking). length z ≤ room) (sym ts) k.few;
          indexes = subst (λ (z : List Taking). map place_of z ≡ below (length z)) (sym ts) k.indexes;
          once = subst (λ (z : List Landing). length z + count (is_open z) (below (length (takings (es ++ e ∷ [])))) ≡ length (takings (es ++ e ∷ []))) (sym ls)
              (subst (λ (z : List Taking). length (landings es) + count (is_open (landings es)) (below (length z)) ≡ length z) (sym ts) k.once);
          within = subst (λ (z : List Landing). list_all (is_before (length (takings (es ++ e ∷ [])))) z ≡ true) (sym ls)
              (subst (λ (z : List Taking). list_all (is_before (length z)) (landings es) ≡ true) (sym ts) k.within);
          course = subst (λ (z : List Phase). is_course z ≡ true) (sym ps) k.course;
          passed = subst (λ (z : List Slip). count is_passed (es ++ e ∷ []) ≤ length z) (sym slips) (omega arith);
          phase_is = k.phase_is ∙ sym ph;
          over = λ c. k.over (sym ph ∙ c);
          before_close = all_with_before-push is_taken_open es e ∙ and-from (all_with_before is_taken_open es) (is_taken_open es e) k.before_close refl;
          flights_are = subst (λ (z : List Landing). flights + length z ≡ length (takings (es ++ e ∷ []))) (sym ls) (subst (λ (z : List Taking). flights + length (landings es) ≡ length z) (sym ts) k.flights_are);
          kept_are = ap (λ (z : List Slip). drop 1 z) k.kept_are ∙ (sym step.1
              ∙ (ap (λ n. cond (was_aborted es) [] (drop n (filter_map kept_by es))) (sym passed)
              ∙ (ap (λ z. cond (was_aborted es) [] (drop (count is_passed (es ++ e ∷ [])) z)) (sym slips)
              ∙ ap (λ (a : List Phase). cond (list_any is_aborted_phase a) [] (drop (count is_passed (es ++ e ∷ [])) (filter_map kept_by (es ++ e ∷ [])))) (sym ps))));
          limit = omega arith;
          front_is = subst (λ (z : List Taking). front ≡ greatest (map seen_of z)) (sym ts) k.front_is;
        }

  -- ---- the session was turned

  module _ (p : Phase) (course : is_course (turns l.items ++ p ∷ []) ≡ true) where
    pub room_turned : length l.items < l.room
    room_turned =
        let q = kept_few l.items in let t = course_few (turns l.items ++ p ∷ []) course in let n = length-append (turns l.items) (p ∷ []) in
        let few = k.few in let e = ended_few room l phase flights kept front k in let s = k.passed in
        room_for room l phase flights kept front k (omega arith)

    pub ledger_turned : (hand : ℕ) (slips : List Slip) → (p ≡ Closed → flights ≡ 0) → length slips ≤ length kept
        → slips ≡ cond (list_any is_aborted_phase (turns l.items ++ p ∷ [])) [] (drop (count is_passed l.items) (filter_map kept_by l.items))
        → IsLedger room (record l { items = l.items ++ Turned hand p ∷ [] }) p flights slips front
    ledger_turned hand slips shut fewer are =
        let es = l.items in let e = Turned hand p in
        let ts : takings (es ++ e ∷ []) ≡ takings es = filter_map_skip taking_of es e refl in
        let ls : landings (es ++ e ∷ []) ≡ landings es = filter_map_skip landing_of es e refl in
        let ps : turns (es ++ e ∷ []) ≡ turns es ++ p ∷ [] = filter_map_add turn_of es e p refl in
        let ph : phase_in (es ++ e ∷ []) ≡ p = ap (λ (z : List Phase). last Running z) ps ∙ last_snoc Running (turns es) p in
        let passed : count is_passed (es ++ e ∷ []) ≡ count is_passed es = count_skip is_passed es e refl in
        let answers : filter_map kept_by (es ++ e ∷ []) ≡ filter_map kept_by es = filter_map_skip kept_by es e refl in
        let lm = k.limit in
        record {
          has_room = k.has_room;
          few = subst (λ (z : List Taking). length z ≤ room) (sym ts) k.few;
          indexes = subst (λ (z : List Taking). map place_of z ≡ below (length z)) (sym ts) k.indexes;
          once = subst (λ (z : List Landing). length z + count (is_open z) (below (length (takings (es ++ e ∷ [])))) ≡ length (takings (es ++ e ∷ []))) (sym ls)
              (subst (λ (z : List Taking). length (landings es) + count (is_open (landings es)) (below (length z)) ≡ length z) (sym ts) k.once);
          within = subst (λ (z : List Landing). list_all (is_before (length (takings (es ++ e ∷ [])))) z ≡ true) (sym ls)
              (subst (λ (z : List Taking). list_all (is_before (length z)) (landings es) ≡ true) (sym ts) k.within);
          course = subst (λ (z : List Phase). is_course z ≡ true) (sym ps) course;
          passed = subst (λ (z : ℕ). z ≤ length (filter_map kept_by (es ++ e ∷ []))) (sym passed) (subst (λ (z : List Slip). count is_passed es ≤ length z) (sym answers) k.passed);
          phase_is = sym ph;
          over = λ c. shut (sym ph ∙ c);
          before_close = all_with_before-push is_taken_open es e ∙ and-from (all_with_before is_taken_open es) (is_taken_open es e) k.before_close refl;
          flights_are = subst (λ (z : List Landing). flights + length z ≡ length (takings (es ++ e ∷ []))) (sym ls) (subst (λ (z : List Taking). flights + length (landings es) ≡ length z) (sym ts) k.flights_are);
          kept_are = are ∙ (ap (λ (a : List Phase). cond (list_any is_aborted_phase a) [] (drop (count is_passed es) (filter_map kept_by es))) (sym ps)
              ∙ (ap (λ n. cond (was_aborted (es ++ e ∷ [])) [] (drop n (filter_map kept_by es))) (sym passed) ∙ ap (λ z. cond (was_aborted (es ++ e ∷ [])) [] (drop (count is_passed (es ++ e ∷ [])) z)) (sym answers)));
          limit = omega arith;
          front_is = subst (λ (z : List Taking). front ≡ greatest (map seen_of z)) (sym ts) k.front_is;
        }

    -- it was turned to another phase than aborted
    pub ledger_goes_on : (hand : ℕ) → (p ≡ Closed → flights_in l.items ≡ 0) → is_aborted_phase p ≡ false → IsLedger room (record l { items = l.items ++ Turned hand p ∷ [] }) p flights kept front
    ledger_goes_on hand shut other =
        let f = k.flights_are in
        ledger_turned hand kept (λ c. let z = shut c in omega arith) (omega arith)
        (k.kept_are ∙ ap (λ b. cond b [] (drop (count is_passed l.items) (filter_map kept_by l.items))) (sym (list_any-append is_aborted_phase (turns l.items) (p ∷ []) ∙ or_off (was_aborted l.items) (is_aborted_phase p) other)))

    -- it was aborted
    pub ledger_aborted : (hand : ℕ) → (p ≡ Closed → ⊥) → is_aborted_phase p ≡ true → IsLedger room (record l { items = l.items ++ Turned hand p ∷ [] }) p flights [] front
    ledger_aborted hand other aborts =
        ledger_turned hand [] (λ c. absurd (other c)) (omega arith)
        (ap (λ b. cond b [] (drop (count is_passed l.items) (filter_map kept_by l.items))) (sym (list_any-append is_aborted_phase (turns l.items) (p ∷ []) ∙ or_on (was_aborted l.items) (is_aborted_phase p) aborts)))
