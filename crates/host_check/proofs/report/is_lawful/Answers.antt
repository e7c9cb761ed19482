use Rattle.host_check.proofs.RunLemmas.{report_is}
use Rattle.host_check.proofs.report.is_lawful.Goals as goal

pub returns : goal.returns
returns c = report_is c.args.image.now c.args.report.now _ _ _ c.is_of_image-of_image.ensures c.in_ok-on_table.ensures c.in_ok-run.ensures
