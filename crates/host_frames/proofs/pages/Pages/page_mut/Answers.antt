use Rattle.std.proofs.Common.{◌<◌, ◌∙◌, ℕ, List, length, map, Some, sym, refl, ap, arith, vec_capacity}
use Rattle.std.proofs.lemmas.List.{length-map}
use Rattle.host_frames.specs.{Page, seen_page, badge_page_size, SeenPages, contents}
use Rattle.host_frames.proofs.LentPages.{page_written, page_read}
use Rattle.host_frames.proofs.BadgeLemmas.{whole_written}
use Rattle.host_frames.proofs.pages.Pages.page_mut.Goals as goal

pub invariant_of-self-lent : goal.invariant_of-self-lent
invariant_of-self-lent c = let xs = c.self.inside.all.items in let b = c.self.inside.badge in let p : Page = c.index_mut-page.result.now in
    let lt : c.args.i < length xs = (let l = length-map xs seen_page in let r = c.requires in let m = length-map (map seen_page xs) (λ (q : ℕ × List ℕ). q.1) in let v = ap (λ (z : SeenPages). length (contents z)) c.self.view_is in omega arith) in
    λ w. whole_written b.views b.table_id.words xs c.args.i p w lt c.index_mut-page.ensures.value c.self.invariant

pub returns : goal.returns
returns c = let xs = c.self.inside.all.items in let b = c.self.inside.badge in let p : Page = c.index_mut-page.result.now in let at = c.index_mut-page.ensures.value in
    let lt : c.args.i < length xs = (let l = length-map xs seen_page in let r = c.requires in let m = length-map (map seen_page xs) (λ (q : ℕ × List ℕ). q.1) in let v = ap (λ (z : SeenPages). length (contents z)) c.self.view_is in omega arith) in
    rw (← c.self.view_is) ((refl, λ w. ap (λ (l : List (ℕ × List ℕ)). ((b.table_id, badge_page_size b.views), (vec_capacity c.self.inside.all, l))) (page_written xs c.args.i p w lt at)), record { writes_back = tt; value = page_read xs c.args.i p lt at ∙ ap Some (sym c.lend.ensures.value) })
