use Rattle.host_group.proofs.cells.Cells.new.Goals as goal
use Rattle.host_group.proofs.Seating.{opens}

pub of_words-requires : goal.of_words-requires
of_words-requires c = opens
