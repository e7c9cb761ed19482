use Rattle.buffer_check.specs.{is_used_by}
use Rattle.record_check.proofs.BeforeLemmas.{before_step}
use Rattle.buffer_check.proofs.used.all_used_rightly.Goals as goal

pub loop-i-preserved : goal.loop-i-preserved
loop-i-preserved c =
    before_step (is_used_by c.args.rs.now c.args.verdicts.now c.args.n c.args.history.now) c.args.log.now c.loop-i.i c.index-log-i.result c.loop-i.all _
    c.loop-i-test.true c.index-log-i.is c.loop-i.invariant c.in_ok-here.ensures
