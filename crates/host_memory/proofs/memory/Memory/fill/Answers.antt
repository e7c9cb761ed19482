use Rattle.std.proofs.Common.{◌≡◌, ◌+◌, ◌≤◌, ◌∙◌, [], ◌∷◌, ◌++◌, set, suc, false, sym, ap, subst, arith}
use Rattle.host_log.specs.{SwitchedLog}
use Rattle.host_frames.specs.{pool_id}
use Rattle.host_model.specs.{MemEntry, Fill}
use Rattle.host_memory.specs.{Buffer, used_room, is_released, IsMemoryKept, MemoryState, history, events}
use Rattle.host_memory.proofs.Filled.{blocks_within, kept_filled, unreleased}
use Rattle.host_memory.proofs.Finding.{found_at, found_blocks}
use Rattle.host_memory.proofs.memory.Memory.fill.Goals as goal

pub fill-requires-clause-blocks : goal.fill-requires-clause-blocks
fill-requires-clause-blocks c = let m = c.self.inside in let x = c.index_mut.result.now in let i = c.in-Some.place in let found = c.in-Some.ensures in let seen = ap (λ (s : MemoryState). history s) c.self.view_is in
    blocks_within x.pages c.args.block c.args.count
    (sym (found_blocks m.limits (pool_id m.pool.value) m.entries m.moves m.pins m.buffers.items c.self.invariant.0 (history c.args.self.now) seen i c.args.id x found.0 found.1 c.index_mut.ensures.value c.args.block c.args.count) ∙ found.2)

pub invariant_of-self : goal.invariant_of-self
invariant_of-self c = let m = c.self.inside in let x = c.index_mut.result.now in let i = c.in-Some.place in let found = c.in-Some.ensures in let seen = ap (λ (s : MemoryState). history s) c.self.view_is in let pool = pool_id m.pool.value in
    let at = found_at m.limits pool m.entries m.moves m.pins m.buffers.items c.self.invariant.0 (history c.args.self.now) seen i c.args.id x found.0 found.1 c.index_mut.ensures.value in
    let id : suc i ≡ c.args.id = (let e = found.0 in omega arith) in
    let still : is_released (suc i) (events m.entries.items) ≡ false =
    subst (λ h. is_released (suc i) h ≡ false) (sym seen) (subst (λ v. is_released v (history c.args.self.now) ≡ false) (sym id) (unreleased c.args.id (history c.args.self.now) c.args.block c.args.count found.2)) in
    let room : used_room (events m.entries.items) + 1 ≤ m.limits.room = subst (λ (s : MemoryState). used_room (history s) + 1 ≤ s.plan.limits.room) (sym c.self.view_is) c.requires in (
      subst (λ (z : SwitchedLog MemEntry). IsMemoryKept m.limits pool z m.moves m.pins (set m.buffers.items i c.fill.new.self)) (sym c.push.ensures)
          (subst (λ (y : Buffer). IsMemoryKept m.limits pool (record m.entries { items = m.entries.items ++ record { hand = m.limits.hands; what = Fill c.args.id c.args.block c.args.count c.args.byte } ∷ [] }) m.moves m.pins (set m.buffers.items i y)) (sym c.fill.ensures.same)
          (kept_filled m.limits pool m.entries m.moves m.pins m.buffers.items c.self.invariant.0 i x at still room c.args.id c.args.block c.args.count c.args.byte c.fill.new.self.pages id c.fill.ensures.outline c.fill.ensures.pages)),
      c.self.invariant.1,
      c.self.invariant.2,
      c.self.invariant.3,
      ap (λ (z : SwitchedLog MemEntry). z.kept) c.push.ensures ∙ c.self.invariant.4,
    )
