use Rattle.std.proofs.Common.{rules, length, ap, sym, ◌∙◌, ◌<◌, subst}
use Rattle.host_rings.specs.{SenderState}
use Rattle.host_rings.proofs.RequestMoves.{pushes, finds_full}
use Rattle.host_rings.proofs.sender.Sender.push.Goals as goal
use Rattle.host_rings.proofs.sender.Sender.push.Goals.{in-Ok, in-Err}

pub push_as-requires-clause-rule : goal.push_as-requires-clause-rule
push_as-requires-clause-rule g c = let v = c.self.view_is in (
  pushes _ _ _ _ c.self.invariant.1 c.self.invariant.2 (c.requires.index ∙ ap (λ (s : SenderState). length s.pushed) (sym v)) (subst (λ (s : SenderState). c.args.envelope.index < s.records) (sym v) c.requires.room),
  finds_full _ _ c.self.invariant.1,
)

pub returns : goal.returns
returns g c = elim c.match-push_as.branch [ in-Ok w ↦ rw (w.result-is, ← c.self.view_is) (search rules) | in-Err w ↦ rw (w.result-is, ← c.self.view_is) (search rules) ]
