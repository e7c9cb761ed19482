use Rattle.run_rows.proofs.BadScript.{bad_script_is_told}
use Rattle.run_rows.proofs.rows.a_bad_script_is_told.Goals as goal

pub returns : goal.returns
returns c = bad_script_is_told
