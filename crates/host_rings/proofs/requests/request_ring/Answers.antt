use Rattle.host_rings.proofs.RequestMoves.{begins}
use Rattle.host_rings.proofs.requests.request_ring.Goals as goal

pub ruled-requires-clause-rule : goal.ruled-requires-clause-rule
ruled-requires-clause-rule c = begins
