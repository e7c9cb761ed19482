use Rattle.std.proofs.Common.{sym, ◌∙◌}
use Rattle.record_check.proofs.GroupLemmas.{owing_within}
use Rattle.host_check.proofs.order.was_had_by.Goals as goal

pub was_received-requires : goal.was_received-requires
was_received-requires c = owing_within c.args.rs.now c.args.r c.in-Some.o (sym c.owing_record_of.ensures ∙ c.in-Some.is)
