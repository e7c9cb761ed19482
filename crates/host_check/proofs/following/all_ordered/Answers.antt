use Rattle.host_check.specs.{is_ordered_by}
use Rattle.record_check.proofs.GroupLemmas.{below_step}
use Rattle.host_check.proofs.following.all_ordered.Goals as goal

pub loop-r-preserved : goal.loop-r-preserved
loop-r-preserved c = below_step (is_ordered_by c.args.rs.now c.args.verdicts.now c.args.log.now c.args.rows.now c.args.steps.now c.args.history.now) c.loop-r.r c.loop-r.all _ c.loop-r.invariant c.in_ok-here.ensures
