use Rattle.session_law.proofs.Buffers.{buffers_told}
use Rattle.session_law.proofs.laws.buffers_told.Goals as goal

pub returns : goal.returns
returns c = buffers_told
