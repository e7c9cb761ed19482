use Rattle.host_model.specs.{pins_before_close}
use Rattle.record_check.proofs.BeforeLemmas.{before_step}
use Rattle.buffer_check.proofs.releases.all_pin_rightly.Goals as goal

pub loop-i-preserved : goal.loop-i-preserved
loop-i-preserved c =
    before_step pins_before_close c.args.history.now c.loop-i.i c.index-history-i.result c.loop-i.all c.pins_rightly-here.result c.loop-i-test.true c.index-history-i.is c.loop-i.invariant c.pins_rightly-here.ensures
