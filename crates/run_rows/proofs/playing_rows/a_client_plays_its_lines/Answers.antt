use Rattle.run_rows.proofs.PlayLines.{plays_lines}
use Rattle.run_rows.proofs.playing_rows.a_client_plays_its_lines.Goals as goal

pub returns : goal.returns
returns c = plays_lines
