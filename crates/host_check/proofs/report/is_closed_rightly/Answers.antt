use Rattle.std.proofs.Common.{◌↔◌, ◌≡◌, ◌++◌, IsTrue, filter, subst}
use Rattle.host_report.specs.{closing_steps, is_of_sessions}
use Rattle.host_check.proofs.report.is_closed_rightly.Goals as goal

pub returns : goal.returns
returns c =
    subst (λ n. IsTrue c.in_ok-closed.closed ↔ (c.args.report.now.steps.items ≡ filter (is_of_sessions n) c.args.report.now.steps.items ++ closing_steps c.args.report.now.closing)) c.len-n.ensures
    (subst (λ steps. IsTrue c.in_ok-closed.closed ↔ (steps ≡ filter (is_of_sessions c.len-n.result) steps ++ closing_steps c.args.report.now.closing)) c.as_slice.ensures c.in_ok-closed.ensures)
