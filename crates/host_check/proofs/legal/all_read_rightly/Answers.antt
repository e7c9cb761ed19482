use Rattle.host_check.proofs.LegalLemmas.{legal_step}
use Rattle.host_check.proofs.legal.all_read_rightly.Goals as goal

pub loop-i-preserved : goal.loop-i-preserved
loop-i-preserved c =
    legal_step c.args.image.now c.args.steps.now c.loop-i.i c.index-steps-i.result c.loop-i.all _ c.loop-i-test.true c.index-steps-i.is c.loop-i.invariant c.in_ok-here.ensures
