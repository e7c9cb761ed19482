use Rattle.model_rows.proofs.RealisticScript.{realistic_script_is_played}
use Rattle.model_rows.proofs.rows.the_realistic_script_is_played.Goals as goal

pub returns : goal.returns
returns c = realistic_script_is_played
