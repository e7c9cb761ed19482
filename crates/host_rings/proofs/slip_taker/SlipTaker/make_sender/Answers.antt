use Rattle.std.proofs.Common.{ap}
use Rattle.host_rings.specs.{AnswerView}
use Rattle.host_rings.proofs.AnswerMoves.{makes}
use Rattle.host_rings.proofs.slip_taker.SlipTaker.make_sender.Goals as goal

pub another-pass-requires-clause-rule : goal.another-pass-requires-clause-rule
another-pass-requires-clause-rule c = makes _ _ (ap (λ (v : AnswerView). v.pops) c.self.invariant.1)
