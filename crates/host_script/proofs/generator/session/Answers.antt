use Rattle.host_script.proofs.Generated.{state_more, lines_more}
use Rattle.host_script.proofs.generator.session.Goals as goal

pub loop-n-preserved : goal.loop-n-preserved
loop-n-preserved c = record {
  state = state_more _ _ _ _ _ c.loop-n-test.true c.in_ok-add_request.ensures.state c.loop-n.invariant.state;
  lines = lines_more _ _ _ _ _ _ _ c.loop-n-test.true c.in_ok-add_request.ensures.lines c.in_ok-add_request.ensures.state c.loop-n.invariant.lines;
}
