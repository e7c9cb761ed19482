use Rattle.std.proofs.Common.{◌≡◌, ◌+◌, ◌≤◌, ◌∙◌, [], ◌∷◌, ◌++◌, suc, Some, false, sym, ap, subst, arith, flat_map}
use Rattle.std.specs.List.{range_with_len}
use Rattle.host_log.specs.{SwitchedLog}
use Rattle.host_frames.specs.{pool_id}
use Rattle.host_model.specs.{MemEntry, Show, found_by, page_at}
use Rattle.host_memory.specs.{used_room, is_released, IsMemoryKept, page_held, MemoryState, history, events, block_size_of}
use Rattle.host_memory.proofs.Filled.{blocks_within, unreleased}
use Rattle.host_memory.proofs.Finding.{found_at, found_blocks, found_told}
use Rattle.host_memory.proofs.Landed.{kept_shown}
use Rattle.host_memory.proofs.Showing.{same_blocks}
use Rattle.host_memory.proofs.memory.Memory.show.Goals as goal

pub show-requires-clause-blocks : goal.show-requires-clause-blocks
show-requires-clause-blocks c = let m = c.self.inside in let x = c.index.result.now in let found = c.in-Some.ensures in let seen = ap (λ (s : MemoryState). history s) c.self.view_is in
    blocks_within x.pages c.args.block c.args.count
    (sym (found_blocks m.limits (pool_id m.pool.value) m.entries m.moves m.pins m.buffers.items c.self.invariant.0 (history c.args.self.now) seen c.in-Some.place c.args.id x found.0 found.1 c.index.ensures c.args.block c.args.count) ∙ found.2)

pub show-requires-clause-pages : goal.show-requires-clause-pages
show-requires-clause-pages c = let m = c.self.inside in let x = c.index.result.now in let found = c.in-Some.ensures in let seen = ap (λ (s : MemoryState). history s) c.self.view_is in
    let told = found_told m.limits (pool_id m.pool.value) m.entries m.moves m.pins m.buffers.items c.self.invariant.0 (history c.args.self.now) seen c.in-Some.place c.args.id x found.0 found.1 c.index.ensures in
    (λ k lt. told.long k lt ∙ sym c.bytes.ensures.value)

pub invariant_of-self : goal.invariant_of-self
invariant_of-self c = let m = c.self.inside in let x = c.index.result.now in let i = c.in-Some.place in let found = c.in-Some.ensures in let seen = ap (λ (s : MemoryState). history s) c.self.view_is in let pool = pool_id m.pool.value in
    let at = found_at m.limits pool m.entries m.moves m.pins m.buffers.items c.self.invariant.0 (history c.args.self.now) seen i c.args.id x found.0 found.1 c.index.ensures in
    let id : suc i ≡ c.args.id = (let e = found.0 in omega arith) in
    let still : is_released (suc i) (events m.entries.items) ≡ false =
    subst (λ h. is_released (suc i) h ≡ false) (sym seen) (subst (λ v. is_released v (history c.args.self.now) ≡ false) (sym id) (unreleased c.args.id (history c.args.self.now) c.args.block c.args.count found.2)) in
    let room : used_room (events m.entries.items) + 1 ≤ m.limits.room = subst (λ (s : MemoryState). used_room (history s) + 1 ≤ s.plan.limits.room) (sym c.self.view_is) c.requires.room in
    let kept = kept_shown m.limits pool m.entries m.moves m.pins m.buffers.items c.self.invariant.0 i x at still c.args.block c.args.count room in (
      subst (λ (z : SwitchedLog MemEntry). IsMemoryKept m.limits pool z m.moves m.pins m.buffers.items) (sym c.push.ensures)
          (subst (λ v. IsMemoryKept m.limits pool (record m.entries { items = m.entries.items ++ record { hand = m.limits.hands; what = Show v c.args.block c.args.count } ∷ [] }) m.moves m.pins m.buffers.items) id kept),
      c.self.invariant.1,
      c.self.invariant.2,
      c.self.invariant.3,
      ap (λ (z : SwitchedLog MemEntry). z.kept) c.push.ensures ∙ c.self.invariant.4,
    )

pub returns-clause-bytes : goal.returns-clause-bytes
returns-clause-bytes c = let m = c.self.inside in let x = c.index.result.now in let i = c.in-Some.place in let found = c.in-Some.ensures in let seen = ap (λ (s : MemoryState). history s) c.self.view_is in let h = events m.entries.items in
    let told = found_told m.limits (pool_id m.pool.value) m.entries m.moves m.pins m.buffers.items c.self.invariant.0 (history c.args.self.now) seen i c.args.id x found.0 found.1 c.index.ensures in
    let id : suc i ≡ c.args.id = (let e = found.0 in omega arith) in
    let within = blocks_within x.pages c.args.block c.args.count
    (sym (found_blocks m.limits (pool_id m.pool.value) m.entries m.moves m.pins m.buffers.items c.self.invariant.0 (history c.args.self.now) seen i c.args.id x found.0 found.1 c.index.ensures c.args.block c.args.count) ∙ found.2) in
    let same : flat_map (page_held x.pages) (range_with_len c.args.block c.args.count) ≡ flat_map (λ n. page_at m.limits.size h c.args.id n) (range_with_len c.args.block c.args.count) =
    same_blocks (page_held x.pages) (λ n. page_at m.limits.size h c.args.id n) c.args.block c.args.count (λ k lt. told.bytes k (omega arith) ∙ ap (λ v. page_at m.limits.size h v k) id) in
    (λ is. subst (λ (s : MemoryState). found_by (block_size_of s) (history s) (Show c.args.id c.args.block c.args.count) ≡ Some c.show.new.into) c.self.view_is
    (ap (λ l. Some l) (sym same ∙ sym c.show.ensures)))
