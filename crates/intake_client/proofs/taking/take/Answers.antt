use Rattle.std.proofs.Common.{sym, ◌∙◌}
use Rattle.host_intake.specs.declared.admission.Admission.TheVariants as answer
use Rattle.intake_client.proofs.Takings.{admitted_taken, keeps_flying, refused_taken}
use Rattle.intake_client.proofs.taking.take.Goals as goal

pub returns-then-waits-clause-keeps : goal.returns-then-waits-clause-keeps
returns-then-waits-clause-keeps g c = λ f m. keeps_flying c.args.hand c.args.intake.now c.admit_next.new.self c.admit_next.new.seat c.admit_next.ensures.plan (answer.Admitted c.in-Admitted.envelope c.in-Admitted.pages c.in-Admitted.right) c.in-Admitted.ensures.answer f m

pub returns-in-Refused-clause-taken : goal.returns-in-Refused-clause-taken
returns-in-Refused-clause-taken g c =
    refused_taken c.args.hand c.args.intake.now c.admit_next.new.self c.admit_next.new.seat c.admit_next.ensures.plan c.vouch.ensures c.in-Refused.envelope c.in-Refused.status c.in-Refused.right c.in-Refused.ensures.answer

pub returns-in-Refused-clause-keeps : goal.returns-in-Refused-clause-keeps
returns-in-Refused-clause-keeps g c = λ f m. keeps_flying c.args.hand c.args.intake.now c.admit_next.new.self c.admit_next.new.seat c.admit_next.ensures.plan (answer.Refused c.in-Refused.envelope c.in-Refused.status c.in-Refused.right) c.in-Refused.ensures.answer f m

pub returns-else-waits-clause-taken : goal.returns-else-waits-clause-taken
returns-else-waits-clause-taken g c =
    admitted_taken c.args.hand c.args.intake.now c.admit_next.new.self c.admit_next.new.seat c.admit_next.ensures.plan c.vouch.ensures c.in-Admitted.envelope c.in-Admitted.pages c.in-Admitted.right c.in-Admitted.ensures.answer (sym c.waits.ensures ∙ c.if-waits.false)

pub returns-else-waits-clause-keeps : goal.returns-else-waits-clause-keeps
returns-else-waits-clause-keeps g c = λ f m. keeps_flying c.args.hand c.args.intake.now c.admit_next.new.self c.admit_next.new.seat c.admit_next.ensures.plan (answer.Admitted c.in-Admitted.envelope c.in-Admitted.pages c.in-Admitted.right) c.in-Admitted.ensures.answer f m
