use Rattle.host_log.proofs.ghost_log.kept.Given as goal

abbrev pub ghost-of : goal.ghost-of
ghost-of g a = a._first.now.items
