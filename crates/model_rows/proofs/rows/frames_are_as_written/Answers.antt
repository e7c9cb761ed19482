use Rattle.model_rows.proofs.Frames.{frames_are_as_written}
use Rattle.model_rows.proofs.rows.frames_are_as_written.Goals as goal

pub returns : goal.returns
returns c = frames_are_as_written
