use Rattle.std.proofs.Common.{ap}
use Rattle.host_rings.specs.{AnswerView}
use Rattle.host_rings.proofs.AnswerMoves.{pushes, finds_full}
use Rattle.host_rings.proofs.slip_sender.SlipSender.push.Goals as goal

pub push_as-requires-clause-rule : goal.push_as-requires-clause-rule
push_as-requires-clause-rule g c = let may = ap (λ (v : AnswerView). v.pushes) c.self.invariant.1 in (pushes _ _ _ _ may, finds_full _ _ may)
