use Rattle.std.proofs.Common.{length, ap, ◌∙◌}
use Rattle.host_model.specs.{all_with_before, given_before, requests, verdicts_on}
use Rattle.buffer_check.specs.{is_used_by}
use Rattle.buffer_check.proofs.session.are_used_rightly.Goals as goal

pub returns : goal.returns
returns c =
    c.in_ok-used.ensures
    ∙ ap (λ rs. all_with_before (is_used_by rs c.deref-3.result.now (length c.args.rows.now) c.args.history.now) c.args.log.now) (c.deref-2.ensures.value ∙ c.in-Ok.ensures)
    ∙ ap (λ vs. all_with_before (is_used_by (requests c.args.log.now) vs (length c.args.rows.now) c.args.history.now) c.args.log.now)
    (c.deref-3.ensures.value ∙ c.in-Ok-verdicts_of.ensures ∙ ap (λ rs. verdicts_on rs (given_before c.args.log.now) c.args.part.now c.sent_count.result) (c.deref.ensures.value ∙ c.in-Ok.ensures)
    ∙ ap (verdicts_on (requests c.args.log.now) (given_before c.args.log.now) c.args.part.now) c.sent_count.ensures)
