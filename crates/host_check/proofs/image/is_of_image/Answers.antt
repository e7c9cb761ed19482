use Rattle.std.proofs.Common.{◌↔◌, ◌==◌, ◌&&◌, IsTrue, nat_eq, length, ap, subst, sym, ◌∙◌}
use Rattle.std.specs.List.{list_all}
use Rattle.host_report.specs.{IsOfImage}
use Rattle.host_check.proofs.ImageLemmas.{image_is}
use Rattle.host_check.proofs.image.is_of_image.Goals as goal

pub returns : goal.returns
returns c =
    subst (λ b. IsTrue (nat_eq c.args.report.now.blocks (length c.args.image.now) && b) ↔ IsOfImage c.args.image.now c.args.report.now)
    (sym (c.have_size-sized.ensures ∙ ap (λ n. list_all (λ block. length block == n) c.args.image.now) c.bytes.ensures.value))
    (image_is c.args.image.now c.args.report.now)
