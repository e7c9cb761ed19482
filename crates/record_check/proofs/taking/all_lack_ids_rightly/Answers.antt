use Rattle.host_model.specs.{runs_out_rightly}
use Rattle.record_check.proofs.BeforeLemmas.{before_step}
use Rattle.record_check.proofs.taking.all_lack_ids_rightly.Goals as goal

pub loop-i-preserved : goal.loop-i-preserved
loop-i-preserved c =
    before_step runs_out_rightly c.args.log.now c.loop-i.i c.index-log-i.result c.loop-i.all c.lacks_ids_rightly-here.result
    c.loop-i-test.true c.index-log-i.is c.loop-i.invariant c.lacks_ids_rightly-here.ensures
