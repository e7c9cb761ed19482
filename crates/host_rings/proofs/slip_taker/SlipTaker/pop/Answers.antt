use Rattle.std.proofs.Common.{ap}
use Rattle.host_rings.specs.{AnswerView}
use Rattle.host_rings.proofs.AnswerMoves.{pops, finds_none}
use Rattle.host_rings.proofs.slip_taker.SlipTaker.pop.Goals as goal

pub pop_as-requires-clause-rule : goal.pop_as-requires-clause-rule
pop_as-requires-clause-rule g c = let may = ap (λ (v : AnswerView). v.pops) c.self.invariant.1 in (pops _ _ may, finds_none _ _ may)
