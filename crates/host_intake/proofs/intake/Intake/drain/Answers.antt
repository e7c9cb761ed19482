use Rattle.std.proofs.Common.{◌≡◌, ◌+◌, refl, sym, subst}
use Rattle.host_turn.specs.{number}
use Rattle.host_intake.specs.{Running, Draining, Closed, intake_state, IsIntake, LedgerState, IntakeState, phase_in, turns}
use Rattle.host_intake.proofs.Keeping.{intake_turned}
use Rattle.host_intake.proofs.Courses.{course_begun}
use Rattle.host_intake.proofs.intake.Intake.drain.Goals as goal

unshut : Draining ≡ Closed → ⊥
unshut e = cc

pub turn-requires : goal.turn-requires
turn-requires c = let a = c.self.inside in let k = c.self.invariant.0 in let runs = subst (λ (s : IntakeState). phase_in s.entries ≡ Running) (sym c.self.view_is) c.requires.phase in
    let course = course_begun (turns a.ledger.entries) Draining k.turned.course runs refl in
    record { course = course; over = λ e. absurd (unshut e); other = refl }

pub invariant_of-self : goal.invariant_of-self
invariant_of-self c = let a = c.self.inside in let k = c.self.invariant.0 in let runs = subst (λ (s : IntakeState). phase_in s.entries ≡ Running) (sym c.self.view_is) c.requires.phase in
    let course = course_begun (turns a.ledger.entries) Draining k.turned.course runs refl in
    let client = subst (λ (s : IntakeState). c.args.hand + 1 ≡ number s.memory_seat) (sym c.self.view_is) c.requires.client in (
      subst (λ (z : LedgerState). IsIntake (record (intake_state a) { room = z.room; keeps = z.keeps; entries = z.entries })) (sym c.turn.ensures)
          (intake_turned (intake_state a) k Draining course c.args.hand client (λ e. absurd (unshut e)) refl),
      c.self.invariant.1,
    )
