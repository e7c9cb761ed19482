use Rattle.std.proofs.Common.{◌≡◌, ◌+◌, None, refl, sym, ap, subst, ◌∙◌}
use Rattle.host_turn.specs.{number}
use Rattle.host_intake.specs.{Running, Aborted, Closed, intake_state, IsIntake, LedgerState, IntakeState, kept_slips, phase_in, turns}
use Rattle.host_intake.proofs.Keeping.{intake_aborted, none_kept}
use Rattle.host_intake.proofs.Courses.{course_begun}
use Rattle.host_intake.proofs.intake.Intake.abort.Goals as goal

unshut : Aborted ≡ Closed → ⊥
unshut e = cc

pub abort-requires : goal.abort-requires
abort-requires c = let a = c.self.inside in let k = c.self.invariant.0 in let runs = subst (λ (s : IntakeState). phase_in s.entries ≡ Running) (sym c.self.view_is) c.requires.phase in
    let course = course_begun (turns a.ledger.entries) Aborted k.turned.course runs refl in
    course

pub invariant_of-self : goal.invariant_of-self
invariant_of-self c = let a = c.self.inside in let k = c.self.invariant.0 in let runs = subst (λ (s : IntakeState). phase_in s.entries ≡ Running) (sym c.self.view_is) c.requires.phase in
    let course = course_begun (turns a.ledger.entries) Aborted k.turned.course runs refl in
    let client = subst (λ (s : IntakeState). c.args.hand + 1 ≡ number s.memory_seat) (sym c.self.view_is) c.requires.client in (
      subst (λ (z : LedgerState). IsIntake (record (intake_state a) { room = z.room; keeps = z.keeps; entries = z.entries; held = None })) (sym c.abort.ensures)
          (intake_aborted (intake_state a) k Aborted course c.args.hand client (λ e. absurd (unshut e)) refl),
      c.self.invariant.1,
    )

pub returns-clause-kept : goal.returns-clause-kept
returns-clause-kept c = let a = c.self.inside in let k = c.self.invariant.0 in let runs = subst (λ (s : IntakeState). phase_in s.entries ≡ Running) (sym c.self.view_is) c.requires.phase in
    let course = course_begun (turns a.ledger.entries) Aborted k.turned.course runs refl in
    let client = subst (λ (s : IntakeState). c.args.hand + 1 ≡ number s.memory_seat) (sym c.self.view_is) c.requires.client in
    ap (λ (z : LedgerState). kept_slips z.entries) c.abort.ensures ∙ none_kept (intake_state a) k Aborted course c.args.hand client (λ e. absurd (unshut e)) refl
