use Rattle.std.proofs.Common.{◌≡◌, ◌+◌, ◌≤◌, true, false, length, Option, Some, sym, subst}
use Rattle.std.specs.List.{list_any}
use Rattle.atomic_table.specs.Seated.{TableId}
use Rattle.host_model.specs.{request_at}
use Rattle.host_group.specs.{CellSeat, cells_id, seat_cells, IsAdmittingOf}
use Rattle.host_intake.specs.{answer_owed, AreSettled, requests_of, takings, intake_state, IsIntake, LedgerState, is_lander, IntakeState, flights_in, is_flying, kept_slips, is_waiting_at}
use Rattle.host_intake.proofs.Ended.{intake_landed_lone, intake_landed_member}
use Rattle.host_intake.proofs.intake.Intake.landed.Goals as goal

pub invariant_of-self : goal.invariant_of-self
invariant_of-self c = let a = c.self.inside in let s = intake_state a in let i = c.args.index in
    let flying = subst (λ (s : IntakeState). is_flying i s.entries ≡ true) (sym c.self.view_is) c.requires.flight in
    let none = subst (λ (s : IntakeState). list_any (is_waiting_at i) s.waiting ≡ false) (sym c.self.view_is) c.requires.waits in
    let lander = subst (λ (s : IntakeState). is_lander c.args.hand i (takings s.entries) ≡ true) (sym c.self.view_is) c.requires.hand in
    let cells : seat_cells a.cell_seat ≡ cells_id c.args.cells.now = subst (λ (s : IntakeState). seat_cells s.cell_seat ≡ cells_id c.args.cells.now) (sym c.self.view_is) c.requires.cells in
    let limit = subst (λ (z : LedgerState). flights_in z.entries + length (kept_slips z.entries) ≤ 64) c.land.ensures.entry c.land.ensures.limit in
    let settled = subst (λ (z : TableId). AreSettled z (requests_of (takings s.entries)) i c.args.end (Some c.in-Some.right)) (sym cells)
    (subst (λ (z : Option CellSeat). AreSettled (cells_id c.args.cells.now) (requests_of (takings s.entries)) i c.args.end z) c.in-Some.is
    (subst (λ (s : IntakeState). AreSettled (cells_id c.args.cells.now) (requests_of (takings s.entries)) i c.args.end c.args.right) (sym c.self.view_is) c.requires.right)) in
    let owed = subst (λ (z : Option CellSeat). c.args.answer ≡ answer_owed (request_at (requests_of (takings s.entries)) i) i c.args.end z) c.in-Some.is
    (subst (λ (s : IntakeState). c.args.answer ≡ answer_owed (request_at (requests_of (takings s.entries)) i) i c.args.end c.args.right) (sym c.self.view_is) c.requires.answer) in
    let joined = c.join_right.ensures.seat in (
      subst (λ (z : LedgerState). IsIntake (record s { room = z.room; keeps = z.keeps; entries = z.entries; cell_seat = c.join_right.new.seat })) (sym c.land.ensures.entry)
          (intake_landed_member s c.self.invariant.0 c.args.hand i c.args.end c.args.answer c.args.kept flying none lander limit c.in-Some.right settled owed c.join_right.new.seat
          (subst (λ (z : TableId). IsAdmittingOf z c.join_right.new.seat) (sym cells) joined.0) joined.1 joined.2 c.join_right.ensures.back),
      c.self.invariant.1,
    )

pub invariant_of-self-in_default : goal.invariant_of-self-in_default
invariant_of-self-in_default c = let a = c.self.inside in let s = intake_state a in let i = c.args.index in
    let flying = subst (λ (s : IntakeState). is_flying i s.entries ≡ true) (sym c.self.view_is) c.requires.flight in
    let none = subst (λ (s : IntakeState). list_any (is_waiting_at i) s.waiting ≡ false) (sym c.self.view_is) c.requires.waits in
    let lander = subst (λ (s : IntakeState). is_lander c.args.hand i (takings s.entries) ≡ true) (sym c.self.view_is) c.requires.hand in
    let limit = subst (λ (z : LedgerState). flights_in z.entries + length (kept_slips z.entries) ≤ 64) c.land.ensures.entry c.land.ensures.limit in
    let settled = subst (λ (z : Option CellSeat). AreSettled (seat_cells s.cell_seat) (requests_of (takings s.entries)) i c.args.end z) c.in_default.is
    (subst (λ (z : TableId). AreSettled z (requests_of (takings s.entries)) i c.args.end c.args.right) (sym (subst (λ (s : IntakeState). seat_cells s.cell_seat ≡ cells_id c.args.cells.now) (sym c.self.view_is) c.requires.cells))
    (subst (λ (s : IntakeState). AreSettled (cells_id c.args.cells.now) (requests_of (takings s.entries)) i c.args.end c.args.right) (sym c.self.view_is) c.requires.right)) in
    let owed = subst (λ (z : Option CellSeat). c.args.answer ≡ answer_owed (request_at (requests_of (takings s.entries)) i) i c.args.end z) c.in_default.is
    (subst (λ (s : IntakeState). c.args.answer ≡ answer_owed (request_at (requests_of (takings s.entries)) i) i c.args.end c.args.right) (sym c.self.view_is) c.requires.answer) in (
      subst (λ (z : LedgerState). IsIntake (record s { room = z.room; keeps = z.keeps; entries = z.entries })) (sym c.land.ensures.entry)
          (intake_landed_lone s c.self.invariant.0 c.args.hand i c.args.end c.args.answer c.args.kept flying none lander limit settled owed),
      c.self.invariant.1,
    )
