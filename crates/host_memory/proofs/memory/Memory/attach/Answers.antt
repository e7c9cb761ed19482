use Rattle.std.proofs.Common.{◌≡◌, ◌+◌, ◌<◌, ◌≤◌, List, [], ◌∷◌, ◌++◌, length, replicate, suc, sym, subst, arith, ◌∙◌, ap}
use Rattle.host_log.specs.{SwitchedLog}
use Rattle.host_frames.specs.{contents, pages_pool, pool_id}
use Rattle.host_model.specs.{MemEntry, Attach}
use Rattle.host_memory.specs.{Buffer, given_count, used_room, IsMemoryKept, MemoryState, history, block_size_of}
use Rattle.host_memory.proofs.Attached.{kept_attached}
use Rattle.host_memory.proofs.memory.Memory.attach.Goals as goal

pub invariant_of-self : goal.invariant_of-self
invariant_of-self c = let m = c.self.inside in let pool = pool_id m.pool.value in let ps = c.args.pages in let n = c.len-page_count.result in
    let room = subst (λ (s : MemoryState). used_room (history s) + 3 ≤ s.plan.limits.room) (sym c.self.view_is) c.requires.room in
    let ids = subst (λ (s : MemoryState). given_count (history s) < s.plan.limits.ids) (sym c.self.view_is) c.requires.ids in
    let of_pool = subst (λ (s : MemoryState). pages_pool ps ≡ s.plan.pool) (sym c.self.view_is) c.requires.pool in
    let blank = subst (λ (s : MemoryState). contents ps ≡ replicate (length (contents ps)) (replicate (block_size_of s) 0)) (sym c.self.view_is) c.requires.blank in
    let few : length m.buffers.items < m.limits.ids = (let given = c.self.invariant.0.told.given in omega arith) in
    let id : suc (length m.buffers.items) ≡ c.len.result + 1 = (let e = c.len.ensures in let ok = m.buffers.ok.0 in omega arith) in
    let kept = kept_attached m.limits pool m.entries m.moves m.pins m.buffers.items c.self.invariant.0 (c.len.result + 1) n c.args.from ps id c.len-page_count.ensures of_pool blank (let fits : n < 4294967296 = c.len-page_count.type_inv in omega arith) room few in (
      subst (λ (z : SwitchedLog MemEntry). IsMemoryKept m.limits pool z m.moves m.pins c.push_reserved.new.self.items) (sym c.push.ensures)
          (subst (λ (bs : List Buffer). IsMemoryKept m.limits pool (record m.entries { items = m.entries.items ++ record { hand = m.limits.hands; what = Attach (c.len.result + 1) n c.args.from } ∷ [] }) m.moves m.pins bs) (sym c.push_reserved.ensures.items) kept),
      (let same = c.push_reserved.ensures.capacity in let was = c.self.invariant.1 in omega arith),
      c.self.invariant.2,
      c.self.invariant.3,
      ap (λ (z : SwitchedLog MemEntry). z.kept) c.push.ensures ∙ c.self.invariant.4,
    )
