use Rattle.host_io.proofs.CopyLemmas.{fresh_is_image_proof}
use Rattle.host_io.proofs.copy.fresh_is_image.Goals as goal

pub returns : goal.returns
returns c = fresh_is_image_proof
