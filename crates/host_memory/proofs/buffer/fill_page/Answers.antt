use Rattle.std.proofs.Common.{◌∙◌, [], length, set, replicate, sym, ap}
use Rattle.std.proofs.lemmas.List.{length-replicate}
use Rattle.std.proofs.lemmas.Option.{get_or_from_slice_get}
use Rattle.host_frames.specs.{contents}
use Rattle.host_frames.proofs.LentPages.{contents_written}
use Rattle.host_memory.proofs.buffer.fill_page.Goals as goal

pub returns-clause-pages : goal.returns-clause-pages
returns-clause-pages c =
    let ps = c.args.pages.now in let i = c.args.block in
    let got = get_or_from_slice_get (contents ps) i c.page_mut.result.now [] c.page_mut.ensures.value in
    let is = c.fill_bytes.ensures in
    let long = ap length is ∙ (length-replicate (length c.page_mut.result.now) c.args.byte ∙ sym (ap length got)) in
    contents_written ps.1.1 i c.fill_bytes.new.page long ∙ ap (λ w. set (contents ps) i w) (is ∙ ap (λ w. replicate (length w) c.args.byte) (sym got))
