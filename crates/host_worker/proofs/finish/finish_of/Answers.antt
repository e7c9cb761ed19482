use Rattle.std.proofs.Common.{sym, ◌∙◌}
use Rattle.host_worker.proofs.finish.finish_of.Goals as goal

pub unreachable-requires : goal.unreachable-requires
unreachable-requires c = absurd (cc (sym c.requires ∙ c.vouch.ensures.ended.first (sym c.told_end.ensures ∙ c.in-None.is)))
