use Rattle.record_check.specs.{session_with}
use Rattle.record_check.proofs.SessionLemmas.{taken_is}
use Rattle.record_check.proofs.session.is_taken_in_order.Goals as goal

pub returns : goal.returns
returns c =
    taken_is (session_with c.args.size c.args.part.now c.args.log.now c.args.rows.now c.args.history.now c.args.steps.now c.args.finish) _ _ _ _ _ _
    c.in_ok-numbered.ensures c.are_few-few.ensures c.in_ok-judged.ensures c.ends_as_finished-ends.ensures c.are_all_taken-taken.ensures c.all_lack_ids_rightly-ids.ensures
