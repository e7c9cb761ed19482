use Rattle.run_rows.proofs.TableTexts.{tables_have_their_text}
use Rattle.run_rows.proofs.rows.tables_have_their_text.Goals as goal

pub returns : goal.returns
returns c = tables_have_their_text
