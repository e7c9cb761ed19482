-- The record that is held is taken.
use Rattle.std.proofs.Common.{◌≡◌, ℕ, zero, suc, ◌+◌, ◌≤◌, ◌<◌, true, false, ◌&&◌, cond, List, [], ◌∷◌, ◌++◌, length, map, take, drop, Option, Some, None, MatchOption, refl, sym, ap, subst, ◌∙◌, arith, length-append}
use Rattle.std.specs.List.{list_all}
use Rattle.std.proofs.lemmas.List.{map-append, take-append-drop}
use Rattle.std.proofs.lemmas.List.Folds.{list_all-append}
use Rattle.atomic_table.specs.Seated.{TableId}
use Rattle.host_record.specs.declared.request.Request.{Request}
use Rattle.host_record.specs.{is_last}
use Rattle.host_model.specs.{closings, is_member, below, count}
use Rattle.host_group.specs.{Cells, CellSeat, Member, Row, IsAdmittingOf, IsFewerOut, IsRightOf, cells_id, seat_cells, admitted, back, member, next, row, fresh_row}
use Rattle.host_group.specs.Views as cell
use Rattle.host_memory.proofs.Pushed.{filter_map_skip, filter_map_add, count_skip}
use Rattle.host_rings.specs.{Envelope}
use Rattle.host_turn.specs.{number, seen_by}
use Rattle.host_intake.specs.{Phase, Waiting, IsMemberAdmitted, IsOpen, taking_entry, Taking, Landing, taking_of, landing_of, takings, landings, envelope_of, place_of, request_in, requests_of, IsIntake, ArePopped, IsResting, is_turned_below, is_course, AreInCells, AreLanded, is_member_at, member_at, HasRight, IntakeState, MemorySeat, AreTaken, flights_in, is_open, is_passed, kept_by, kept_slips, phase_in, turn_of, turns, was_aborted, AreWaiting}
use Rattle.host_intake.proofs.Admitting.{cells_taken_lone, cells_taken_member, landed_taken, member_new}
use Rattle.host_intake.proofs.Ended.{count_bound, rights_out}
use Rattle.host_intake.proofs.Ledgering.{kept_from, phase_from}
use Rattle.host_intake.proofs.Membering.{closings_same}
use Rattle.host_intake.proofs.Popping.{not_aborted, not_closed, popped_count}

module _ (s : IntakeState) (k : IsIntake s) (e : Envelope) (held : s.held ≡ Some e) (goes : IsOpen s) where
  -- ---- what holds before

  pub index_next : e.index ≡ length (takings s.entries)
  index_next = subst (λ (o : Option Envelope). MatchOption o (Unit {0}) (λ e. e.index ≡ length (takings s.entries))) held k.popped.next

  aborted_not : was_aborted s.entries ≡ false
  aborted_not = not_aborted s.entries k.turned.course goes.0

  popped_held : ArePopped s.room s.entries (Some e) s.taker
  popped_held = subst (λ (o : Option Envelope). ArePopped s.room s.entries o s.taker) held k.popped

  popped_one : length s.taker.taken ≡ length (takings s.entries) + 1
  popped_one = popped_count s.room s.entries s.taker (Some e) popped_held aborted_not

  pub room_next : length (takings s.entries) < s.room
  room_next = let a = popped_one in let b = popped_held.records in let c = popped_held.in_room in omega arith

  pub index_fits : (next s.cell_seat ≤ e.index) × (e.index < 4294967295)
  index_fits = let a = k.cells.above in let i = index_next in let r = room_next in let f = popped_held.fits in (omega arith, omega arith)

  pub flights_few : count (is_open (landings s.entries)) (below (length (takings s.entries))) ≡ flights_in s.entries
  flights_few = let o = k.landed.once in omega arith

  pub fewer_out : IsFewerOut s.cell_seat 64
  fewer_out =
      let a = rights_out (takings s.entries) (landings s.entries) s.cell_seat k.cells in
      let b = count_bound (is_member_at (requests_of (takings s.entries))) (is_open (landings s.entries)) (below (length (takings s.entries))) in
      let f = flights_few in let l = goes.1 in omega arith

  -- ---- what holds after

  module _ (t : Taking) (of : t.envelope ≡ e) where
    placed : place_of t ≡ length (takings s.entries)
    placed = ap (λ (z : Envelope). z.index) of ∙ index_next

    popped_is : s.taker.taken ≡ map envelope_of (takings s.entries ++ t ∷ [])
    popped_is =
        sym (take-append-drop (length (takings s.entries)) s.taker.taken)
        ∙ (ap (λ (l : List Envelope). take (length (takings s.entries)) s.taker.taken ++ l) (popped_held.left aborted_not)
        ∙ (ap (λ (l : List Envelope). l ++ e ∷ []) popped_held.taken ∙ (ap (λ (z : Envelope). map envelope_of (takings s.entries) ++ z ∷ []) (sym of) ∙ sym (map-append envelope_of (takings s.entries) (t ∷ [])))))

    take_whole : {A : Type 0} (n : ℕ) (xs : List A) → length xs ≡ n → take n xs ≡ xs
    take_whole zero [] h = refl
    take_whole zero (x ∷ xs) h = absurd (omega arith)
    take_whole (suc n) [] h = absurd (omega arith)
    take_whole (suc n) (x ∷ xs) h = ap (λ l. x ∷ l) (take_whole n xs (omega arith))

    drop_whole : {A : Type 0} (n : ℕ) (xs : List A) → length xs ≡ n → drop n xs ≡ []
    drop_whole zero [] h = refl
    drop_whole zero (x ∷ xs) h = absurd (omega arith)
    drop_whole (suc n) [] h = absurd (omega arith)
    drop_whole (suc n) (x ∷ xs) h = drop_whole n xs (omega arith)

    pub intake_taken : (m : MemorySeat) (q : CellSeat) (ws : List Waiting) → IsResting s.room m → number m ≡ number s.memory_seat → AreTaken s.part (number s.memory_seat) (seen_by m) (takings s.entries ++ t ∷ [])
        → seat_cells q ≡ seat_cells s.cell_seat → AreInCells (takings s.entries ++ t ∷ []) (landings s.entries) q → AreWaiting (seat_cells s.cell_seat) (takings s.entries ++ t ∷ []) (landings s.entries) ws
        → IsIntake (record s { entries = s.entries ++ taking_entry t ∷ []; held = None; waiting = ws; memory_seat = m; cell_seat = q })
    intake_taken m q ws resting same taken cells in_cells waiting =
        let es = s.entries in let x = taking_entry t in let fs = es ++ x ∷ [] in
        let ts : takings fs ≡ takings es ++ t ∷ [] = filter_map_add taking_of es x t refl in
        let ls : landings fs ≡ landings es = filter_map_skip landing_of es x refl in
        let ps : turns fs ≡ turns es = filter_map_skip turn_of es x refl in
        let ph : phase_in fs ≡ phase_in es = phase_from es fs ps in
        let n : length (takings es ++ t ∷ []) ≡ length (takings es) + 1 = length-append (takings es) (t ∷ []) in
        let one = popped_one in
        let slips : kept_slips fs ≡ kept_slips es = kept_from es fs ps (count_skip is_passed es x refl) (filter_map_skip kept_by es x refl) in
        let nl = ap length ts in let ll = ap length ls in let sl = ap length slips in let lm = goes.1 in
        record {
          popped = record {
            taken = subst (λ (z : List Taking). take (length z) s.taker.taken ≡ map envelope_of z) (sym ts) (take_whole (length (takings es ++ t ∷ [])) s.taker.taken (omega arith) ∙ popped_is);
            left = λ a. subst (λ (z : List Taking). drop (length z) s.taker.taken ≡ []) (sym ts) (drop_whole (length (takings es ++ t ∷ [])) s.taker.taken (omega arith));
            dropped = λ a. refl;
            next = tt;
            one = omega arith;
            records = popped_held.records;
            in_room = popped_held.in_room;
            fits = popped_held.fits;
          };
          resting = resting;
          taken = subst (λ (z : List Taking). AreTaken s.part (number m) (seen_by m) z) (sym ts) (subst (λ (i : ℕ). AreTaken s.part i (seen_by m) (takings es ++ t ∷ [])) (sym same) taken);
          landed = subst (λ (z : List Landing). AreLanded (takings fs) z) (sym ls) (subst (λ (z : List Taking). AreLanded z (landings es)) (sym ts) (landed_taken (takings es) (landings es) t k.landed));
          cells = subst (λ (z : List Landing). AreInCells (takings fs) z q) (sym ls) (subst (λ (z : List Taking). AreInCells z (landings es) q) (sym ts) in_cells);
          waiting = subst (λ (z : TableId). AreWaiting z (takings fs) (landings fs) ws) (sym cells)
              (subst (λ (z : List Landing). AreWaiting (seat_cells s.cell_seat) (takings fs) z ws) (sym ls) (subst (λ (z : List Taking). AreWaiting (seat_cells s.cell_seat) z (landings es) ws) (sym ts) waiting));
          turned = record {
            by_client = subst (λ (i : ℕ). list_all (is_turned_below i) fs ≡ true) (sym same) (list_all-append (is_turned_below (number s.memory_seat)) es (x ∷ []) ∙ ap (λ b. b && true) k.turned.by_client);
            course = subst (λ (z : List Phase). is_course z ≡ true) (sym ps) k.turned.course;
            over = λ c. absurd (not_closed es goes.0 (sym ph ∙ c));
          };
          limit = omega arith;
        }

    -- ---- the right of the record

    module _ (cells : Cells) (q : CellSeat) (r : Request) (named : r ≡ request_in t) where
      pub right_given : (right : Option CellSeat) → IsMemberAdmitted cells s.cell_seat q r e.index right → HasRight (cells_id cells) (takings s.entries ++ t ∷ []) t right
      right_given None m = subst (λ (z : Request). is_member z ≡ false) named m.0
      right_given (Some p) m =
          let mem : is_member (request_in t) ≡ true = subst (λ (z : Request). is_member z ≡ true) named m.0 in
          let g = (request_in t).group in
          let fresh : row p ≡ fresh_row (member g (cell.members_closing g (admitted s.cell_seat)) e.index (request_in t).reqid (is_last (request_in t))) =
          subst (λ (z : Request). row p ≡ fresh_row (member z.group (cell.members_closing z.group (admitted s.cell_seat)) e.index z.reqid (is_last z))) named m.2 in
          let is : (row p).member ≡ member g (cell.members_closing g (admitted s.cell_seat)) e.index (request_in t).reqid (is_last (request_in t)) = ap (λ (z : Row). z.member) fresh in (
            mem,
            record {
              right_of = subst (λ (z : Request). IsRightOf (cells_id cells) z.group p) named m.1;
              unused = fresh ∙ ap fresh_row (sym is);
              member = ap (λ i. member_at (requests_of (takings s.entries ++ t ∷ [])) i) placed ∙ (member_new (takings s.entries) t
                  ∙ (ap (λ b. cond b (Some (member g (closings g (requests_of (takings s.entries))) (length (takings s.entries)) (request_in t).reqid (is_last (request_in t)))) None) mem
                  ∙ (ap (λ n. Some (member g n (length (takings s.entries)) (request_in t).reqid (is_last (request_in t)))) (sym (ap (λ l. cell.members_closing g l) k.cells.told ∙ closings_same g (requests_of (takings s.entries))))
                  ∙ (ap (λ n. Some (member g (cell.members_closing g (admitted s.cell_seat)) n (request_in t).reqid (is_last (request_in t)))) (sym index_next) ∙ ap (λ (w : Member). Some w) (sym is)))));
            },
          )

      pub cells_given : (right : Option CellSeat) → IsMemberAdmitted cells s.cell_seat q r e.index right → IsAdmittingOf (seat_cells q) q → back q ≡ back s.cell_seat → AreInCells (takings s.entries ++ t ∷ []) (landings s.entries) q
      cells_given None m resting came =
          subst (λ (z : CellSeat). AreInCells (takings s.entries ++ t ∷ []) (landings s.entries) z) (sym m.1)
          (cells_taken_lone (takings s.entries) (landings s.entries) t k.landed s.cell_seat k.cells (subst (λ (z : Request). is_member z ≡ false) named m.0))
      cells_given (Some p) m resting came =
          cells_taken_member (takings s.entries) (landings s.entries) t k.landed s.cell_seat k.cells (subst (λ (z : Request). is_member z ≡ true) named m.0) q resting came (m.4 ∙ ap (λ i. i + 1) index_next)
          (subst (λ (i : ℕ). admitted q ≡ admitted s.cell_seat ++ member (request_in t).group (cell.members_closing (request_in t).group (admitted s.cell_seat)) i (request_in t).reqid (is_last (request_in t)) ∷ []) index_next
          (subst (λ (z : Request). admitted q ≡ admitted s.cell_seat ++ member z.group (cell.members_closing z.group (admitted s.cell_seat)) e.index z.reqid (is_last z) ∷ []) named m.3))
