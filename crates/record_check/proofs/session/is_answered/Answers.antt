use Rattle.record_check.specs.{session_with}
use Rattle.record_check.proofs.SessionLemmas.{answered_is}
use Rattle.record_check.proofs.session.is_answered.Goals as goal

pub returns : goal.returns
returns c =
    answered_is (session_with c.args.size c.args.part.now c.args.log.now c.args.rows.now c.args.history.now c.args.steps.now c.args.finish) _ _
    c.in_ok-always.ensures c.in_ok-exact.ensures
