use Rattle.host_script.proofs.Generated.{sessions_more}
use Rattle.host_script.proofs.generator.generate.Goals as goal

pub loop-index-preserved : goal.loop-index-preserved
loop-index-preserved c = sessions_more _ _ _ _ _ _ _ _ _ c.loop-index-test.true c.in_ok-append.ensures.ok c.in_ok-session.ensures.plan c.in_ok-session.ensures.state c.loop-index.invariant
