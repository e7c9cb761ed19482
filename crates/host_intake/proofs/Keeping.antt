-- What is true of an intake stays true where no record was taken and none ended.
use Rattle.std.proofs.Common.{◌≡◌, ℕ, ◌+◌, ◌-◌, ◌≤◌, ◌<◌, ◌==◌, true, false, ◌&&◌, ◌||◌, cond, List, [], ◌∷◌, ◌++◌, length, filter_map, map, take, drop, Option, None, MatchOption, refl, sym, ap, subst, ◌∙◌, arith, eq-eqb}
use Rattle.std.specs.List.{list_any}
use Rattle.std.proofs.lemmas.List.Folds.{list_any-append, list_all-append}
use Rattle.std.proofs.lemmas.List.{length-drop}
use Rattle.host_group.specs.{seat_cells}
use Rattle.host_model.specs.{count, last}
use Rattle.host_rings.specs.{Envelope, Slip, TakerState}
use Rattle.host_turn.specs.{number, seen_by}
use Rattle.host_memory.proofs.Pushed.{filter_map_skip, filter_map_add, count_skip, count_add, last_snoc}
use Rattle.host_intake.specs.{IntakeEntry, Passed, Turned, Phase, Running, Closed, Taking, Landing, taking_of, landing_of, takings, landings, envelope_of, IsIntake, ArePopped, AreTurned, is_turned_below, is_course, AreLanded, AreInCells, IntakeState, AreTaken, flights_in, turn_of, turns, kept_by, is_passed, kept_slips, phase_in, was_aborted, is_aborted_phase, AreWaiting}
use Rattle.host_memory.specs.{listed}
use Rattle.host_intake.proofs.Ledgering.{phase_from}
use Rattle.host_intake.proofs.Turning.{pass_step}
use Rattle.host_log.proofs.Bools.{or_off, or_on}

-- the held envelope and the taker, where the same records were taken
pub popped_from : (room : ℕ) (es fs : List IntakeEntry) (held : Option Envelope) (taker : TakerState) → takings fs ≡ takings es → was_aborted fs ≡ was_aborted es → ArePopped room es held taker → ArePopped room fs held taker
popped_from room es fs held taker ts ab p = record {
  taken = subst (λ (z : List Taking). take (length z) taker.taken ≡ map envelope_of z) (sym ts) p.taken;
  left = λ a. subst (λ (z : List Taking). drop (length z) taker.taken ≡ listed held) (sym ts) (p.left (sym ab ∙ a));
  dropped = λ a. p.dropped (sym ab ∙ a);
  next = subst (λ (z : List Taking). MatchOption held (Unit {0}) (λ e. e.index ≡ length z)) (sym ts) p.next;
  one = subst (λ (z : List Taking). length taker.taken ≤ length z + 1) (sym ts) p.one;
  records = p.records;
  in_room = p.in_room;
  fits = p.fits;
}

module _ (s : IntakeState) (k : IsIntake s) where
  -- no record was taken, and none ended
  intake_from : (fs : List IntakeEntry) (held : Option Envelope) → takings fs ≡ takings s.entries → landings fs ≡ landings s.entries → ArePopped s.room fs held s.taker → AreTurned (number s.memory_seat) fs
      → flights_in fs + length (kept_slips fs) ≤ 64 → IsIntake (record s { entries = fs; held = held })
  intake_from fs held ts ls popped turned limit = record {
    popped = popped;
    resting = k.resting;
    taken = subst (λ (z : List Taking). AreTaken s.part (number s.memory_seat) (seen_by s.memory_seat) z) (sym ts) k.taken;
    landed = subst (λ (z : List Landing). AreLanded (takings fs) z) (sym ls) (subst (λ (z : List Taking). AreLanded z (landings s.entries)) (sym ts) k.landed);
    cells = subst (λ (z : List Landing). AreInCells (takings fs) z s.cell_seat) (sym ls) (subst (λ (z : List Taking). AreInCells z (landings s.entries) s.cell_seat) (sym ts) k.cells);
    waiting = subst (λ (z : List Landing). AreWaiting (seat_cells s.cell_seat) (takings fs) z s.waiting) (sym ls)
        (subst (λ (z : List Taking). AreWaiting (seat_cells s.cell_seat) z (landings s.entries) s.waiting) (sym ts) k.waiting);
    turned = turned;
    limit = limit;
  }

  flights_from : (fs : List IntakeEntry) → takings fs ≡ takings s.entries → landings fs ≡ landings s.entries → flights_in fs ≡ flights_in s.entries
  flights_from fs ts ls = ap (λ (z : List Taking). length z - length (landings fs)) ts ∙ ap (λ (z : List Landing). length (takings s.entries) - length z) ls

  -- an answer was handed on
  pub intake_passed : (hand : ℕ) → 0 < length (kept_slips s.entries) → IsIntake (record s { entries = s.entries ++ Passed hand ∷ [] })
  intake_passed hand some =
      let es = s.entries in let e = Passed hand in let fs = es ++ e ∷ [] in
      let ts : takings fs ≡ takings es = filter_map_skip taking_of es e refl in
      let ls : landings fs ≡ landings es = filter_map_skip landing_of es e refl in
      let ps : turns fs ≡ turns es = filter_map_skip turn_of es e refl in
      let ph : phase_in fs ≡ phase_in es = phase_from es fs ps in
      let slips : kept_slips fs ≡ drop 1 (kept_slips es) =
      ap (λ (a : List Phase). cond (list_any is_aborted_phase a) [] (drop (count is_passed fs) (filter_map kept_by fs))) ps
      ∙ (ap (λ n. cond (was_aborted es) [] (drop n (filter_map kept_by fs))) (count_add is_passed es e refl)
      ∙ (ap (λ (z : List Slip). cond (was_aborted es) [] (drop (count is_passed es + 1) z)) (filter_map_skip kept_by es e refl)
      ∙ (pass_step (was_aborted es) (count is_passed es) (filter_map kept_by es) some).1)) in
      let fewer : length (kept_slips fs) ≤ length (kept_slips es) = let a = ap length slips in let b = length-drop 1 (kept_slips es) in omega arith in
      let limit = k.limit in let f = flights_from fs ts ls in
      intake_from fs s.held ts ls (popped_from s.room es fs s.held s.taker ts (ap (λ (a : List Phase). list_any is_aborted_phase a) ps) k.popped)
      (record {
        by_client = list_all-append (is_turned_below (number s.memory_seat)) es (e ∷ []) ∙ ap (λ b. b && true) k.turned.by_client;
        course = subst (λ (z : List Phase). is_course z ≡ true) (sym ps) k.turned.course;
        over = λ c. subst (λ (z : List Landing). length z ≡ length (takings fs)) (sym ls) (subst (λ (z : List Taking). length (landings es) ≡ length z) (sym ts) (k.turned.over (sym ph ∙ c)));
      }) (omega arith)

  -- the session was turned
  module _ (p : Phase) (course : is_course (turns s.entries ++ p ∷ []) ≡ true) (hand : ℕ) (client : hand + 1 ≡ number s.memory_seat) (shut : p ≡ Closed → flights_in s.entries ≡ 0) where
    turned_so : AreTurned (number s.memory_seat) (s.entries ++ Turned hand p ∷ [])
    turned_so =
        let es = s.entries in let e = Turned hand p in let fs = es ++ e ∷ [] in
        let ts : takings fs ≡ takings es = filter_map_skip taking_of es e refl in
        let ls : landings fs ≡ landings es = filter_map_skip landing_of es e refl in
        let ps : turns fs ≡ turns es ++ p ∷ [] = filter_map_add turn_of es e p refl in
        let ph : phase_in fs ≡ p = ap (λ (z : List Phase). last Running z) ps ∙ last_snoc Running (turns es) p in
        let once = k.landed.once in
        record {
          by_client = list_all-append (is_turned_below (number s.memory_seat)) es (e ∷ []) ∙ (ap (λ b. b && ((hand + 1 == number s.memory_seat) && true)) k.turned.by_client ∙ ap (λ b. b && true) (eq-eqb (hand + 1) (number s.memory_seat) client));
          course = subst (λ (z : List Phase). is_course z ≡ true) (sym ps) course;
          over = λ c. subst (λ (z : List Landing). length z ≡ length (takings fs)) (sym ls) (subst (λ (z : List Taking). length (landings es) ≡ length z) (sym ts) (let z = shut (sym ph ∙ c) in omega arith));
        }

    slips_so : kept_slips (s.entries ++ Turned hand p ∷ []) ≡ cond (was_aborted s.entries || (is_aborted_phase p || false)) [] (drop (count is_passed s.entries) (filter_map kept_by s.entries))
    slips_so =
        let es = s.entries in let e = Turned hand p in let fs = es ++ e ∷ [] in
        ap (λ (a : List Phase). cond (list_any is_aborted_phase a) [] (drop (count is_passed fs) (filter_map kept_by fs))) (filter_map_add turn_of es e p refl)
        ∙ (ap (λ b. cond b [] (drop (count is_passed fs) (filter_map kept_by fs))) (list_any-append is_aborted_phase (turns es) (p ∷ []))
        ∙ (ap (λ n. cond (was_aborted es || (is_aborted_phase p || false)) [] (drop n (filter_map kept_by fs))) (count_skip is_passed es e refl)
        ∙ ap (λ (z : List Slip). cond (was_aborted es || (is_aborted_phase p || false)) [] (drop (count is_passed es) z)) (filter_map_skip kept_by es e refl)))

    -- to another phase than aborted
    pub intake_turned : is_aborted_phase p ≡ false → IsIntake (record s { entries = s.entries ++ Turned hand p ∷ [] })
    intake_turned other =
        let es = s.entries in let e = Turned hand p in let fs = es ++ e ∷ [] in
        let ts : takings fs ≡ takings es = filter_map_skip taking_of es e refl in
        let ls : landings fs ≡ landings es = filter_map_skip landing_of es e refl in
        let ab : was_aborted fs ≡ was_aborted es = ap (λ (a : List Phase). list_any is_aborted_phase a) (filter_map_add turn_of es e p refl) ∙ (list_any-append is_aborted_phase (turns es) (p ∷ []) ∙ or_off (was_aborted es) (is_aborted_phase p) other) in
        let slips : kept_slips fs ≡ kept_slips es = slips_so ∙ ap (λ b. cond b [] (drop (count is_passed es) (filter_map kept_by es))) (or_off (was_aborted es) (is_aborted_phase p) other) in
        let same = ap length slips in let f = flights_from fs ts ls in let limit = k.limit in
        intake_from fs s.held ts ls (popped_from s.room es fs s.held s.taker ts ab k.popped) turned_so (omega arith)

    -- nothing is kept after an abort
    pub none_kept : is_aborted_phase p ≡ true → kept_slips (s.entries ++ Turned hand p ∷ []) ≡ []
    none_kept aborts = slips_so ∙ ap (λ b. cond b [] (drop (count is_passed s.entries) (filter_map kept_by s.entries))) (or_on (was_aborted s.entries) (is_aborted_phase p) aborts)

    -- to aborted: what was held is dropped
    pub intake_aborted : is_aborted_phase p ≡ true → IsIntake (record s { entries = s.entries ++ Turned hand p ∷ []; held = None })
    intake_aborted aborts =
        let es = s.entries in let e = Turned hand p in let fs = es ++ e ∷ [] in
        let ts : takings fs ≡ takings es = filter_map_skip taking_of es e refl in
        let ls : landings fs ≡ landings es = filter_map_skip landing_of es e refl in
        let ab : was_aborted fs ≡ true = ap (λ (a : List Phase). list_any is_aborted_phase a) (filter_map_add turn_of es e p refl) ∙ (list_any-append is_aborted_phase (turns es) (p ∷ []) ∙ or_on (was_aborted es) (is_aborted_phase p) aborts) in
        let same = ap length (none_kept aborts) in let f = flights_from fs ts ls in let limit = k.limit in
        let q = k.popped in
        intake_from fs None ts ls
        (record {
          taken = subst (λ (z : List Taking). take (length z) s.taker.taken ≡ map envelope_of z) (sym ts) q.taken;
          left = λ a. absurd (let n : false ≡ true = sym a ∙ ab in cc);
          dropped = λ a. refl;
          next = tt;
          one = subst (λ (z : List Taking). length s.taker.taken ≤ length z + 1) (sym ts) q.one;
          records = q.records;
          in_room = q.in_room;
          fits = q.fits;
        }) turned_so (omega arith)
