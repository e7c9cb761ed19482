use Rattle.std.proofs.Common.{◌<◌, ◌≤◌, ◌∙◌, [], length, get_or, replicate, refl, ap, arith}
use Rattle.std.proofs.lemmas.List.{length-set}
use Rattle.host_frames.specs.{contents}
use Rattle.host_memory.proofs.Filling.{filled_more, filled_none}
use Rattle.host_memory.proofs.buffer.fill_pages.Goals as goal

pub loop-i-init : goal.loop-i-init
loop-i-init c = record { pool = refl; long = refl; pages = λ k. filled_none c.args.block c.args.byte k (contents c.args.pages.now) }

pub loop-i-preserved : goal.loop-i-preserved
loop-i-preserved c = let inv = c.loop-i.invariant in let i = c.loop-i.i in let qs = contents c.loop-i.pages in
    let is = c.fill_page.ensures.pages in
    let from : c.args.block ≤ i = omega arith in
    let lt : i < length qs = (let l = inv.long in omega arith) in
    record {
      pool = c.fill_page.ensures.pool ∙ inv.pool;
      long = ap length is ∙ (length-set qs i (replicate (length (get_or qs i [])) c.args.byte) ∙ inv.long);
      pages = λ k. ap (λ ps. get_or ps k []) is ∙ filled_more c.args.block i c.args.byte (contents c.args.pages.now) qs from lt inv.pages k;
    }
