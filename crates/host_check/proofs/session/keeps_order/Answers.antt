use Rattle.std.proofs.Common.{◌↔◌, IsTrue, ap, subst, sym, ◌∙◌}
use Rattle.host_model.specs.{given_before, requests, KeepsOrder, verdicts_on}
use Rattle.host_check.specs.{is_order_kept}
use Rattle.record_check.specs.{session_with}
use Rattle.host_check.proofs.OrderLemmas.{order_is_tested}
use Rattle.host_check.proofs.session.keeps_order.Goals as goal

pub returns : goal.returns
returns c =
    subst (λ b. IsTrue b ↔ KeepsOrder (session_with c.args.size c.args.part.now c.args.log.now c.args.rows.now c.args.history.now c.args.steps.now c.args.finish))
    (sym (
    c.in_ok-kept.ensures
    ∙ ap (λ rs. is_order_kept rs c.deref-3.result.now c.args.log.now c.args.rows.now c.args.steps.now c.args.history.now) (c.deref-2.ensures.value ∙ c.in-Ok.ensures)
    ∙ ap (λ vs. is_order_kept (requests c.args.log.now) vs c.args.log.now c.args.rows.now c.args.steps.now c.args.history.now)
    (c.deref-3.ensures.value ∙ c.in-Ok-verdicts_of.ensures ∙ ap (λ rs. verdicts_on rs (given_before c.args.log.now) c.args.part.now c.sent_count.result) (c.deref.ensures.value ∙ c.in-Ok.ensures)
    ∙ ap (verdicts_on (requests c.args.log.now) (given_before c.args.log.now) c.args.part.now) c.sent_count.ensures)
    ))
    (order_is_tested (session_with c.args.size c.args.part.now c.args.log.now c.args.rows.now c.args.history.now c.args.steps.now c.args.finish))
