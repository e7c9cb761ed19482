use Rattle.std.proofs.Common.{◌≡◌, ◌+◌, true, refl, sym, subst}
use Rattle.host_turn.specs.{number}
use Rattle.host_intake.specs.{Closed, intake_state, IsIntake, LedgerState, IntakeState, flights_in, is_ending, phase_in, turns}
use Rattle.host_intake.proofs.Keeping.{intake_turned}
use Rattle.host_intake.proofs.Courses.{course_shut}
use Rattle.host_intake.proofs.intake.Intake.shut.Goals as goal

pub turn-requires : goal.turn-requires
turn-requires c = let a = c.self.inside in let k = c.self.invariant.0 in
    let ends = subst (λ (s : IntakeState). is_ending (phase_in s.entries) ≡ true) (sym c.self.view_is) c.requires.phase in
    let none = subst (λ (s : IntakeState). flights_in s.entries ≡ 0) (sym c.self.view_is) c.requires.none.0 in
    record { course = course_shut (turns a.ledger.entries) k.turned.course ends; over = λ e. none; other = refl }

pub invariant_of-self : goal.invariant_of-self
invariant_of-self c = let a = c.self.inside in let k = c.self.invariant.0 in
    let ends = subst (λ (s : IntakeState). is_ending (phase_in s.entries) ≡ true) (sym c.self.view_is) c.requires.phase in
    let none = subst (λ (s : IntakeState). flights_in s.entries ≡ 0) (sym c.self.view_is) c.requires.none.0 in
    let client = subst (λ (s : IntakeState). c.args.hand + 1 ≡ number s.memory_seat) (sym c.self.view_is) c.requires.client in (
      subst (λ (z : LedgerState). IsIntake (record (intake_state a) { room = z.room; keeps = z.keeps; entries = z.entries })) (sym c.turn.ensures)
          (intake_turned (intake_state a) k Closed (course_shut (turns a.ledger.entries) k.turned.course ends) c.args.hand client (λ e. none) refl),
      c.self.invariant.1,
    )
