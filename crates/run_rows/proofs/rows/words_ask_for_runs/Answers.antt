use Rattle.run_rows.proofs.Words.{words_ask_for_runs}
use Rattle.run_rows.proofs.rows.words_ask_for_runs.Goals as goal

pub returns : goal.returns
returns c = words_ask_for_runs
