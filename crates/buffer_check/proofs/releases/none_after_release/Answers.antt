use Rattle.host_model.specs.{comes_before_release}
use Rattle.record_check.proofs.BeforeLemmas.{before_step}
use Rattle.buffer_check.proofs.releases.none_after_release.Goals as goal

pub loop-i-preserved : goal.loop-i-preserved
loop-i-preserved c =
    before_step comes_before_release c.args.history.now c.loop-i.i c.index-history-i.result c.loop-i.all c.is_not_released-here.result c.loop-i-test.true c.index-history-i.is c.loop-i.invariant c.is_not_released-here.ensures
