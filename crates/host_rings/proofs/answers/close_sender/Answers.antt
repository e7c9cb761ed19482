use Rattle.std.proofs.Common.{ap, ◌∙◌}
use Rattle.host_rings.specs.{AnswerView, SlipSenderState}
use Rattle.host_rings.proofs.AnswerMoves.{closes}
use Rattle.host_rings.proofs.answers.close_sender.Goals as goal

pub absorb-requires-clause-rule : goal.absorb-requires-clause-rule
absorb-requires-clause-rule c = closes _ _ _ _ c.requires.place.0 (ap (λ (v : AnswerView). v.pushes) c.sender.invariant.1) (ap (λ (s : SlipSenderState). s.number) c.sender.view_is ∙ c.requires.place.1)
