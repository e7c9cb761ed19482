use Rattle.run_rows.proofs.PlayCrash.{crash_keeps_flushed}
use Rattle.run_rows.proofs.playing_rows.a_crash_keeps_what_was_flushed.Goals as goal

pub returns : goal.returns
returns c = crash_keeps_flushed
