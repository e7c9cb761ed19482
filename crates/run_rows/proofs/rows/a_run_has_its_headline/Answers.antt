use Rattle.run_rows.proofs.Headline.{run_has_headline}
use Rattle.run_rows.proofs.rows.a_run_has_its_headline.Goals as goal

pub returns : goal.returns
returns c = run_has_headline
