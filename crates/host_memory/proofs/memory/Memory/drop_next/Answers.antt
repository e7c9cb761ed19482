use Rattle.std.proofs.Common.{◌∙◌, sym}
use Rattle.host_memory.specs.{history}
use Rattle.host_memory.proofs.Remaining.{first_holds}
use Rattle.host_memory.proofs.memory.Memory.drop_next.Goals as goal

pub release-requires-clause-held : goal.release-requires-clause-held
release-requires-clause-held c = first_holds (history c.args.self.now) c.in_ok-id.id (sym c.first_held.ensures ∙ c.in_ok-id.was)
