use Rattle.std.proofs.Common.{[], ◌∷◌, ◌++◌}
use Rattle.host_log.proofs.ghost_log.and_unmade.Given as goal

abbrev pub ghost-of : goal.ghost-of
ghost-of g a = a._first.now.value ++ g.N.Told.entry a._second.now ∷ []
