use Rattle.std.proofs.Common.{None, ap, cond, ◌∙◌}
use Rattle.host_model.specs.{given_before, is_closed, judged}
use Rattle.record_check.proofs.verdicts.verdict_next.Goals as goal

pub returns : goal.returns
returns c =
    c.on.ensures
    ∙ ap (λ pages. judged c.args.part.now pages c.request-r.result) c.pages_for.ensures
    ∙ ap (λ r. judged c.args.part.now (cond (is_closed r.vmoid c.args.rs.now c.args.earlier.now) None (given_before c.args.log.now c.args.i r.vmoid)) r) c.request-r.ensures
