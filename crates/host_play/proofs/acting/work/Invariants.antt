use Rattle.host_play.proofs.Accounts.{WorksAlone}
use Rattle.host_play.proofs.acting.work.Given as goal

abbrev pub invariant-loop : goal.invariant-loop
invariant-loop g l = (goal.iterator-loop g).can_next l.iterator' × (goal.iterator-loop g).is_finite l.iterator' × WorksAlone l.server l.fn.hand l.hand
