use Rattle.model_rows.proofs.WordsOfTexts.{bytes_are_printed}
use Rattle.model_rows.proofs.rows.bytes_are_printed.Goals as goal

pub returns : goal.returns
returns c = bytes_are_printed
