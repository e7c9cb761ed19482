use Rattle.host_log.proofs.ghost_log.listed.Given as goal

abbrev pub ghost-of : goal.ghost-of
ghost-of g a = g.L.Listing.entries a._first.now
