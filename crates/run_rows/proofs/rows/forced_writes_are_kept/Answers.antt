use Rattle.run_rows.proofs.ForcedWrites.{forced_writes_are_kept}
use Rattle.run_rows.proofs.rows.forced_writes_are_kept.Goals as goal

pub returns : goal.returns
returns c = forced_writes_are_kept
