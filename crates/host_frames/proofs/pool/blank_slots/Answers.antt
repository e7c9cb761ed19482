use Rattle.std.proofs.Common.{arith, refl, sym, subst, All}
use Rattle.std.specs.Prelude.{Some}
use Rattle.std.proofs.lemmas.List.Elements.{All-push}
use Rattle.host_frames.specs.{IsBlankSlot}
use Rattle.host_frames.proofs.pool.blank_slots.Goals as goal

pub loop-preserved : goal.loop-preserved
loop-preserved c = let inv = c.loop.invariant in let push = c.push_reserved.ensures in let p = c.in_ok-page.page in (
  (let l = push.len in let i = inv.0 in omega arith),
  (let l = push.capacity in let i = inv.1 in omega arith),
  subst (All (IsBlankSlot c.args.page_size)) (sym push.items) (All-push (IsBlankSlot c.args.page_size) c.loop.slots.items (Some p) inv.2 (p, refl, c.in_ok-page.ensures.items_if_clones_equal (λ y e. e))),
)
