use Rattle.std.proofs.Common.{◌<◌, ◌∙◌, ℕ, List, length, map, Some, sym, ap, arith}
use Rattle.std.proofs.lemmas.List.{length-map}
use Rattle.host_frames.specs.{Page, seen_page, SeenPages, contents}
use Rattle.host_frames.proofs.LentPages.{page_read}
use Rattle.host_frames.proofs.pages.Pages.page.Goals as goal

pub returns : goal.returns
returns c = let xs = c.self.inside.all.items in let p : Page = c.index.result.now in
    let lt : c.args.i < length xs = (let l = length-map xs seen_page in let r = c.requires in let m = length-map (map seen_page xs) (λ (q : ℕ × List ℕ). q.1) in let v = ap (λ (z : SeenPages). length (contents z)) c.self.view_is in omega arith) in
    rw (← c.self.view_is) (page_read xs c.args.i p lt c.index.ensures ∙ ap Some (sym c.as_slice.ensures.value))
