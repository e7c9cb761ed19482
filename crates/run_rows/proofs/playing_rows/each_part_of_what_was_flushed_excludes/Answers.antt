use Rattle.run_rows.proofs.Missing.{flushed_parts_exclude}
use Rattle.run_rows.proofs.playing_rows.each_part_of_what_was_flushed_excludes.Goals as goal

pub returns : goal.returns
returns c = flushed_parts_exclude
