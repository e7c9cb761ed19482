use Rattle.model_rows.proofs.Words.{words_are_commands}
use Rattle.model_rows.proofs.rows.words_are_commands.Goals as goal

pub returns : goal.returns
returns c = words_are_commands
