use Rattle.std.proofs.Common.{nat_lt, ap, ◌∙◌}
use Rattle.host_report.specs.{pages_asked}
use Rattle.host_check.proofs.RunLemmas.{more_than}
use Rattle.host_check.proofs.frames.are_too_many.Goals as goal

pub returns : goal.returns
returns c = ap (nat_lt 4096) c.pages_of_run.ensures ∙ more_than (pages_asked c.args.sessions.now)
