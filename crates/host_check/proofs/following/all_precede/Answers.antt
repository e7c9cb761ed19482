use Rattle.host_check.specs.{precedes_by}
use Rattle.record_check.proofs.GroupLemmas.{below_step}
use Rattle.host_check.proofs.following.all_precede.Goals as goal

pub loop-n-preserved : goal.loop-n-preserved
loop-n-preserved c = below_step (precedes_by c.args.log.now c.args.history.now c.args.had.now c.args.entries_r.now) c.loop-n.n c.loop-n.all _ c.loop-n.invariant c.in_ok-here.ensures
