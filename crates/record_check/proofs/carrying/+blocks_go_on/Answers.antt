use Rattle.std.proofs.Common.{arith, sym, ◌∙◌}
use Rattle.record_check.proofs.CarryLemmas.{and_else, and_if, and_off, first_made}
use Rattle.record_check.proofs.carrying.+blocks_go_on.Goals as goal

pub returns-then-not-is_asked : goal.returns-then-not-is_asked
returns-then-not-is_asked t c =
    and_off _ _ (sym c.is_asked.ensures ∙ c.if-not-is_asked.true)
    ∙ sym (first_made c.args.kind c.args.part.now c.args.r.now c.args.forced c.args.k c.args.steps.now c.step-item.result (omega arith) c.in-len1-up.len_at_least c.step-item.is)

pub returns-then-step : goal.returns-then-step
returns-then-step t c =
    c.are_none.ensures
    ∙ and_if _ _ _ _ (sym c.is_asked.ensures ∙ c.if-not-is_asked.false) c.if-step.true
    ∙ sym (first_made c.args.kind c.args.part.now c.args.r.now c.args.forced c.args.k c.args.steps.now c.step-item.result (omega arith) c.in-len1-up.len_at_least c.step-item.is)

pub returns-else-step : goal.returns-else-step
returns-else-step t c =
    c.blocks_go_on.ensures
    ∙ and_else _ _ _ _ (sym c.is_asked.ensures ∙ c.if-not-is_asked.false) c.if-step.false
    ∙ sym (first_made c.args.kind c.args.part.now c.args.r.now c.args.forced c.args.k c.args.steps.now c.step-item.result (omega arith) c.in-len1-up.len_at_least c.step-item.is)
