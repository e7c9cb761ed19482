use Rattle.host_model.specs.{lifts_page}
use Rattle.record_check.proofs.BeforeLemmas.{before_step}
use Rattle.buffer_check.proofs.pages.lifts_are_right.Goals as goal

pub loop-i-preserved : goal.loop-i-preserved
loop-i-preserved c =
    before_step (lifts_page c.args.size) c.args.history.now c.loop-i.i c.index-history-i.result c.loop-i.all _ c.loop-i-test.true c.index-history-i.is c.loop-i.invariant c.in_ok-here.ensures
