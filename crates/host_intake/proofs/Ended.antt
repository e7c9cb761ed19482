-- An intake in which a record ended.
use Rattle.std.proofs.Common.{◌≡◌, ℕ, suc, ◌+◌, ◌≤◌, Bool, true, false, ◌&&◌, cond, List, [], ◌∷◌, ◌++◌, length, filter, Option, Some, None, refl, sym, ap, subst, ◌∙◌, arith}
use Rattle.std.specs.List.{list_any}
use Rattle.std.proofs.lemmas.List.Folds.{list_all-append}
use Rattle.atomic_table.specs.Seated.{TableId}
use Rattle.host_model.specs.{below, count, request_at}
use Rattle.host_group.specs.{CellSeat, Row, IsAdmittingOf, IsNoneOut, seat_cells, admitted, back, next, row}
use Rattle.host_memory.proofs.Pushed.{filter_map_skip, filter_map_add}
use Rattle.host_rings.specs.{Slip}
use Rattle.host_turn.specs.{number, seen_by}
use Rattle.host_intake.specs.{Landed, Phase, Closed, RecordEnd, answer_owed, row_slip, AreSettled, Taking, Landing, taking_of, landing_of, takings, landings, requests_of, IsIntake, is_turned_below, is_course, AreInCells, AreLanded, IsAnswered, backs, is_member_at, is_right_out, is_lander, landing_ending, row_ending, IntakeState, AreTaken, flights_in, is_aborted_phase, is_flying, is_open, kept_slips, turn_of, turns, phase_in, AreWaiting, is_waiting_at}
use Rattle.host_intake.proofs.Membering.{member_index, count_members}
use Rattle.host_intake.proofs.Keeping.{popped_from}
use Rattle.host_intake.proofs.Landing.{landed_more, waiting_more, cells_lone, cells_member, less_ended}
use Rattle.host_intake.proofs.Ledgering.{phase_from}

abbrev pub landing_for : ℕ → ℕ → RecordEnd → Option Slip → Bool → Landing
landing_for hand i end answer kept = record { hand = hand; index = i; end = end; answer = answer; kept = kept }

module _ (s : IntakeState) (k : IsIntake s) (hand i : ℕ) (end : RecordEnd) (answer : Option Slip) (kept : Bool) (flying : is_flying i s.entries ≡ true) (none : list_any (is_waiting_at i) s.waiting ≡ false)
    (lander : is_lander hand i (takings s.entries) ≡ true) (limit : flights_in (s.entries ++ Landed hand i end answer kept ∷ []) + length (kept_slips (s.entries ++ Landed hand i end answer kept ∷ [])) ≤ 64) where
  intake_ended : (q : CellSeat) → seat_cells q ≡ seat_cells s.cell_seat → AreInCells (takings s.entries) (landings s.entries ++ landing_for hand i end answer kept ∷ []) q
      → IsAnswered (requests_of (takings s.entries)) (landing_for hand i end answer kept)
      → IsIntake (record s { entries = s.entries ++ Landed hand i end answer kept ∷ []; cell_seat = q })
  intake_ended q same cells answered =
      let es = s.entries in let e = Landed hand i end answer kept in let fs = es ++ e ∷ [] in
      let m = landing_for hand i end answer kept in
      let ts : takings fs ≡ takings es = filter_map_skip taking_of es e refl in
      let ls : landings fs ≡ landings es ++ m ∷ [] = filter_map_add landing_of es e m refl in
      let ps : turns fs ≡ turns es = filter_map_skip turn_of es e refl in
      let ph : phase_in fs ≡ phase_in es = phase_from es fs ps in
      record {
        popped = popped_from s.room es fs s.held s.taker ts (ap (λ (a : List Phase). list_any is_aborted_phase a) ps) k.popped;
        resting = k.resting;
        taken = subst (λ (z : List Taking). AreTaken s.part (number s.memory_seat) (seen_by s.memory_seat) z) (sym ts) k.taken;
        landed = subst (λ (z : List Landing). AreLanded (takings fs) z) (sym ls) (subst (λ (z : List Taking). AreLanded z (landings es ++ m ∷ [])) (sym ts) (landed_more (takings es) (landings es) m flying k.landed lander answered));
        cells = subst (λ (z : List Landing). AreInCells (takings fs) z q) (sym ls) (subst (λ (z : List Taking). AreInCells z (landings es ++ m ∷ []) q) (sym ts) cells);
        waiting = subst (λ (z : TableId). AreWaiting z (takings fs) (landings fs) s.waiting) (sym same)
            (subst (λ (z : List Landing). AreWaiting (seat_cells s.cell_seat) (takings fs) z s.waiting) (sym ls)
            (subst (λ (z : List Taking). AreWaiting (seat_cells s.cell_seat) z (landings es ++ m ∷ []) s.waiting) (sym ts) (waiting_more (takings es) (landings es) m flying (seat_cells s.cell_seat) s.waiting none k.waiting)));
        turned = record {
          by_client = list_all-append (is_turned_below (number s.memory_seat)) es (e ∷ []) ∙ ap (λ b. b && true) k.turned.by_client;
          course = subst (λ (z : List Phase). is_course z ≡ true) (sym ps) k.turned.course;
          over = λ c. absurd (let o = k.turned.over (sym ph ∙ c) in let l = less_ended (takings es) (landings es) m flying k.landed in omega arith);
        };
        limit = limit;
      }

  -- a lone record ended
  pub intake_landed_lone : AreSettled (seat_cells s.cell_seat) (requests_of (takings s.entries)) i end None → answer ≡ answer_owed (request_at (requests_of (takings s.entries)) i) i end None
      → IsIntake (record s { entries = s.entries ++ Landed hand i end answer kept ∷ [] })
  intake_landed_lone settled owed = intake_ended s.cell_seat refl (cells_lone (takings s.entries) (landings s.entries) (landing_for hand i end answer kept) flying s.cell_seat k.cells settled) (λ lone. owed)

  -- a member ended, and its right came back
  pub intake_landed_member : (right : CellSeat) → AreSettled (seat_cells s.cell_seat) (requests_of (takings s.entries)) i end (Some right) → answer ≡ row_slip (row right)
      → (q : CellSeat) → IsAdmittingOf (seat_cells s.cell_seat) q → admitted q ≡ admitted s.cell_seat → next q ≡ next s.cell_seat → back q ≡ row right ∷ back s.cell_seat
      → IsIntake (record s { entries = s.entries ++ Landed hand i end answer kept ∷ []; cell_seat = q })
  intake_landed_member right settled owed q resting same above came =
      let x = settled.1 in let at : (row right).member.index ≡ i = member_index (requests_of (takings s.entries)) i (row right).member x.member in
      let is : row_ending (row right) ≡ landing_ending (landing_for hand i end answer kept) =
      ap (λ n. (n, (record { outcome = (row right).status; device_front = (row right).device_front; memory_front = (row right).memory_front }, row_slip (row right)))) at
      ∙ (ap (λ o. (i, (record { outcome = o; device_front = (row right).device_front; memory_front = (row right).memory_front }, row_slip (row right)))) x.status
      ∙ (ap (λ n. (i, (record { outcome = end.outcome; device_front = n; memory_front = (row right).memory_front }, row_slip (row right)))) x.device_front
      ∙ (ap (λ n. (i, (record { outcome = end.outcome; device_front = end.device_front; memory_front = n }, row_slip (row right)))) x.memory_front
      ∙ ap (λ (a : Option Slip). (i, (end, a))) (sym owed)))) in
      intake_ended q resting.0
      (cells_member (takings s.entries) (landings s.entries) (landing_for hand i end answer kept) flying s.cell_seat k.cells settled.0 q (row right)
      (subst (λ (z : TableId). IsAdmittingOf z q) (sym resting.0) resting) same above came is x.member at)
      (λ lone. absurd (let n : false ≡ true = sym lone ∙ settled.0 in cc))

-- ---- a closed session has nothing in flight

pub count_bound : (p q : ℕ → Bool) (ns : List ℕ) → count (λ j. p j && q j) ns ≤ count q ns
count_bound p q [] = omega arith
count_bound p q (n ∷ ns) = step (p n) (q n) n (filter (λ j. p j && q j) ns) (filter q ns) (count_bound p q ns)
  where
    step : (a b : Bool) (n : ℕ) (l m : List ℕ) → length l ≤ length m → length (cond (a && b) (n ∷ l) l) ≤ length (cond b (n ∷ m) m)
    step true true n l m h = omega arith
    step true false n l m h = h
    step false true n l m h = omega arith
    step false false n l m h = h

-- the rights that are out are those that were given and didn't come back
pub rights_out : (ts : List Taking) (ls : List Landing) (q : CellSeat) → AreInCells ts ls q → length (back q) + count (is_right_out (requests_of ts) ls) (below (length ts)) ≡ length (admitted q)
rights_out ts ls q k =
    let o = k.out (λ i. true) in let a = ap length k.told in let b = count_members ts in let c = all_back (back q) in omega arith
  where
    all_back : (l : List Row) → backs (λ i. true) l ≡ length l
    all_back [] = refl
    all_back (r ∷ l) = ap suc (all_back l)

pub none_out : (s : IntakeState) → IsIntake s → phase_in s.entries ≡ Closed → IsNoneOut s.cell_seat
none_out s k shut =
    let over = k.turned.over shut in let once = k.landed.once in let out = rights_out (takings s.entries) (landings s.entries) s.cell_seat k.cells in
    let few = count_bound (is_member_at (requests_of (takings s.entries))) (is_open (landings s.entries)) (below (length (takings s.entries))) in
    omega arith
