use Rattle.std.proofs.Common.{map}
use Rattle.host_start.proofs.PlaceLemmas.{AreFirst}
use Rattle.host_start.proofs.places.find_places.Given as goal

abbrev pub invariant-loop-session : goal.invariant-loop-session
invariant-loop-session l = AreFirst l.parts (map (λ s. s.part) l.sessions) l.places.items l.session-index
