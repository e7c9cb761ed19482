use Rattle.std.proofs.Common.{◌≡◌, ◌+◌, ◌∙◌, ℕ, ap, sym, arith, get_or, false, [], ◌∷◌}
use lib.ListN.{get_elem?}
use Rattle.std.specs.Slots.{slots_items, slots_filled, slots_len, slots_counts}
use Rattle.host_frames.specs.{pages_at_home}
use Rattle.host_frames.proofs.Closing.{home_more, home_some, home_none, home_most, flags_after}
use Rattle.host_frames.proofs.pool.count_home.Goals as goal
use Rattle.host_frames.proofs.pool.count_home.Goals.{then-is_some, else-is_some}

pub loop-i-preserved : goal.loop-i-preserved
loop-i-preserved c = let inv = c.loop-i.invariant in let old = c.loop-i.closed.slots in let new = c.take-page.new.self.slots in let i : ℕ = c.loop-i.i in let took = c.take-page.ensures in let n = c.slot_count-i-end.ensures in let lt = c.loop-i-test.true in let len = inv.3 in
    let counts = slots_counts old in
    let flags = flags_after (slots_filled old) i (slots_len old) counts.1 (omega arith) inv.0 inv.1 in
    let more = home_more (slots_items c.args.closed.now.slots) i c.take-page.result (ap (λ xs. get_elem? xs i) (sym inv.2) ∙ took.value) in
    let home : c.if-is_some.home ≡ c.loop-i.home + pages_at_home (c.take-page.result ∷ []) = elim c.if-is_some.branch [
      | then-is_some w ↦ (let one = home_some c.take-page.result (sym c.is_some.ensures ∙ w.if-is_some.true) in let is = w.home-is in omega arith)
      | else-is_some w ↦ (let none = home_none c.take-page.result (sym c.is_some.ensures ∙ w.if-is_some.false) in let is = w.home-is in omega arith)
    ] in let kept = took.others in (
      (λ k le b. ap (λ fs. get_or fs k false) kept.1 ∙ flags.0 k le (let same = kept.2 in omega arith)),
      (λ k b. ap (λ fs. get_or fs k false) kept.1 ∙ flags.1 k b),
      kept.0 ∙ inv.2,
      kept.2 ∙ inv.3,
      (let h = inv.4 in omega arith),
      (let le = home_most c.take-page.result in let h = inv.5 in omega arith),
    )
