use Rattle.std.proofs.Common.{◌↔◌, IsTrue, subst}
use Rattle.std.specs.List.{AllByRecursion}
use Rattle.host_part.specs.{IsRangeOf}
use Rattle.host_check.proofs.ImageLemmas.{table_is}
use Rattle.host_check.proofs.image.is_on_table.Goals as goal

pub returns : goal.returns
returns c =
    table_is c.args.image.now c.args.report.now c.args.table.now.which c.args.table.now.disk_id c.args.table.now.first_usable c.args.table.now.last_usable c.args.table.now.entries.items _ _
    c.requires.table c.is_same_header-which.ensures
    (subst (λ layout. IsTrue c.are_partitions-ranges.result ↔ AllByRecursion (λ s. IsRangeOf layout s.part s.range) c.args.report.now.sessions.items) c.in_ok-parts.ensures
    (subst (λ sessions. IsTrue c.are_partitions-ranges.result ↔ AllByRecursion (λ s. IsRangeOf c.in_ok-parts.parts s.part s.range) sessions) c.as_slice.ensures c.are_partitions-ranges.ensures))
