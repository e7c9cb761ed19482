use Rattle.std.proofs.Common.{◌≡◌, ◌≤◌, ◌-◌, ◌∙◌, [], ◌∷◌, ◌++◌, true, length, set, sym, ap, subst, arith}
use Rattle.host_memory.specs.{is_block_of, Buffer, IsMemoryKept, contents_held, is_pinned_by, MemoryState, history, block_size_of}
use Rattle.host_log.specs.{SwitchedLog}
use Rattle.host_frames.specs.{pool_id}
use Rattle.host_model.specs.{MemEntry, Land}
use Rattle.host_memory.proofs.Carrying.{pinned_given, pinned_within, pinned_suc, pinned_at, pinned_still, pinned_block, pinned_long, pinned_own}
use Rattle.host_memory.proofs.Landed.{kept_landed}
use Rattle.host_memory.proofs.memory.Memory.land.Goals as goal

pub overflow_sub-id : goal.overflow_sub-id
overflow_sub-id c = let m = c.self.inside in let pinned = subst (λ (s : MemoryState). is_pinned_by c.args.hand c.args.index c.args.id (history s) ≡ true) (sym c.self.view_is) c.requires.pinned in
    (pinned_given m.limits (pool_id m.pool.value) m.entries m.moves m.pins m.buffers.items c.self.invariant.0 c.args.hand c.args.index c.args.id pinned).0

pub index_mut-requires : goal.index_mut-requires
index_mut-requires c = let m = c.self.inside in let pinned = subst (λ (s : MemoryState). is_pinned_by c.args.hand c.args.index c.args.id (history s) ≡ true) (sym c.self.view_is) c.requires.pinned in
    let within = pinned_within m.limits (pool_id m.pool.value) m.entries m.moves m.pins m.buffers.items c.self.invariant.0 c.args.hand c.args.index c.args.id pinned in let n = m.buffers.ok.0 in omega arith

pub copy_in-requires-clause-block : goal.copy_in-requires-clause-block
copy_in-requires-clause-block c = let m = c.self.inside in let x = c.index_mut.result.now in
    let pinned = subst (λ (s : MemoryState). is_pinned_by c.args.hand c.args.index c.args.id (history s) ≡ true) (sym c.self.view_is) c.requires.pinned in
    let block = subst (λ (s : MemoryState). is_block_of c.args.id (history s) c.args.block ≡ true) (sym c.self.view_is) c.requires.block in
    pinned_block m.limits (pool_id m.pool.value) m.entries m.moves m.pins m.buffers.items c.self.invariant.0 c.args.hand c.args.index c.args.id pinned x c.index_mut.ensures.value c.args.block block

pub copy_in-requires-clause-long : goal.copy_in-requires-clause-long
copy_in-requires-clause-long c = let m = c.self.inside in let x = c.index_mut.result.now in
    let pinned = subst (λ (s : MemoryState). is_pinned_by c.args.hand c.args.index c.args.id (history s) ≡ true) (sym c.self.view_is) c.requires.pinned in
    let block = subst (λ (s : MemoryState). is_block_of c.args.id (history s) c.args.block ≡ true) (sym c.self.view_is) c.requires.block in
    let long = subst (λ (s : MemoryState). length c.args.keep ≡ block_size_of s) (sym c.self.view_is) c.requires.long in
    ap length c.as_slice.ensures
    ∙ (long ∙ sym (pinned_long m.limits (pool_id m.pool.value) m.entries m.moves m.pins m.buffers.items c.self.invariant.0 c.args.hand c.args.index c.args.id pinned x c.index_mut.ensures.value c.args.block block))

pub invariant_of-self : goal.invariant_of-self
invariant_of-self c = let m = c.self.inside in let x = c.index_mut.result.now in let pool = pool_id m.pool.value in let i = c.args.id - 1 in
    let pinned = subst (λ (s : MemoryState). is_pinned_by c.args.hand c.args.index c.args.id (history s) ≡ true) (sym c.self.view_is) c.requires.pinned in
    let block = subst (λ (s : MemoryState). is_block_of c.args.id (history s) c.args.block ≡ true) (sym c.self.view_is) c.requires.block in
    let long = subst (λ (s : MemoryState). length c.args.keep ≡ block_size_of s) (sym c.self.view_is) c.requires.long in
    let room = subst (λ (s : MemoryState). 1 ≤ s.moves) (sym c.self.view_is) c.requires.room in
    let at = pinned_at m.limits pool m.entries m.moves m.pins m.buffers.items c.self.invariant.0 c.args.hand c.args.index c.args.id pinned x c.index_mut.ensures.value in
    let still = pinned_still m.limits pool m.entries m.moves m.pins m.buffers.items c.self.invariant.0 c.args.hand c.args.index c.args.id pinned x c.index_mut.ensures.value in
    let lt = pinned_block m.limits pool m.entries m.moves m.pins m.buffers.items c.self.invariant.0 c.args.hand c.args.index c.args.id pinned x c.index_mut.ensures.value c.args.block block in
    let id = pinned_suc m.limits pool m.entries m.moves m.pins m.buffers.items c.self.invariant.0 c.args.hand c.args.index c.args.id pinned in
    let own = pinned_own m.limits pool m.entries m.moves m.pins m.buffers.items c.self.invariant.0 c.args.hand c.args.index c.args.id pinned in
    let put : contents_held c.copy_in.new.self.pages ≡ set (contents_held x.pages) c.args.block c.args.keep = c.copy_in.ensures.pages ∙ ap (λ w. set (contents_held x.pages) c.args.block w) c.as_slice.ensures in
    let kept = kept_landed m.limits pool m.entries m.moves m.pins m.buffers.items c.self.invariant.0 i x at still c.args.hand c.args.index c.args.k c.args.block c.args.keep c.copy_in.new.self.pages room own c.copy_in.ensures.outline put lt long in (
      subst (λ (z : SwitchedLog MemEntry). IsMemoryKept m.limits pool z (m.moves - 1) m.pins (set m.buffers.items i c.copy_in.new.self)) (sym c.push.ensures)
          (subst (λ (y : Buffer). IsMemoryKept m.limits pool (record m.entries { items = m.entries.items ++ record { hand = c.args.hand; what = Land c.args.index c.args.k c.args.id c.args.block c.args.keep } ∷ [] }) (m.moves - 1) m.pins (set m.buffers.items i y)) (sym c.copy_in.ensures.same)
          (subst (λ v. IsMemoryKept m.limits pool (record m.entries { items = m.entries.items ++ record { hand = c.args.hand; what = Land c.args.index c.args.k v c.args.block c.args.keep } ∷ [] }) (m.moves - 1) m.pins (set m.buffers.items i (record x { pages = c.copy_in.new.self.pages }))) id kept)),
      c.self.invariant.1,
      c.self.invariant.2,
      c.self.invariant.3,
      ap (λ (z : SwitchedLog MemEntry). z.kept) c.push.ensures ∙ c.self.invariant.4,
    )
