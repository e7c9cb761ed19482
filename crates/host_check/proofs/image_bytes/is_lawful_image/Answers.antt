use Rattle.std.proofs.Common.{subst}
use Rattle.host_io.specs.{image_of}
use Rattle.host_check.proofs.ImageBytesLemmas.{not_lawful}
use Rattle.host_check.specs.{HasNoTable, IsTableIn}
use Rattle.host_check.proofs.image_bytes.is_lawful_image.Goals as goal

pub returns : goal.returns
returns c =
    let none : HasNoTable (image_of c.args.report.now.size c.args.bytes.now) = subst (IsTableIn (image_of c.args.report.now.size c.args.bytes.now)) c.in-None.is c.in_ok-table.ensures in
    not_lawful (image_of c.args.report.now.size c.args.bytes.now) c.args.report.now none
