use Rattle.model_rows.proofs.Scripts.{texts_are_scripts}
use Rattle.model_rows.proofs.rows.texts_are_scripts.Goals as goal

pub returns : goal.returns
returns c = texts_are_scripts
