use Rattle.std.proofs.Common.{ap}
use Rattle.host_rings.specs.{RequestView}
use Rattle.host_rings.proofs.RequestMoves.{opens}
use Rattle.host_rings.proofs.requests.open.Goals as goal

pub another-requires-clause-rule : goal.another-requires-clause-rule
another-requires-clause-rule g c = let f = c.requires.fresh in
    opens _ _ _ (ap (λ (v : RequestView). v.pushes) f) (ap (λ (v : RequestView). v.pops) f) (ap (λ (v : RequestView). v.pushed) f) (ap (λ (v : RequestView). v.taken) f)
