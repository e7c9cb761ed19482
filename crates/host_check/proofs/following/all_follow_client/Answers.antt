use Rattle.host_check.specs.{client_by}
use Rattle.record_check.proofs.GroupLemmas.{below_step}
use Rattle.host_check.proofs.following.all_follow_client.Goals as goal

pub loop-i-preserved : goal.loop-i-preserved
loop-i-preserved c = below_step (client_by c.args.rs.now c.args.verdicts.now c.args.log.now c.args.history.now) c.loop-i.i c.loop-i.all _ c.loop-i.invariant c.in_ok-here.ensures
