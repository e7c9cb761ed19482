use Rattle.std.proofs.Common.{◌≡◌, ◌≤◌, ◌-◌, ◌∙◌, [], ◌∷◌, ◌++◌, true, suc, length, sym, ap, subst, arith}
use Rattle.host_memory.specs.{is_block_of, IsMemoryKept, is_pinned_by, MemoryState, history, events, block_size_of}
use Rattle.host_log.specs.{SwitchedLog}
use Rattle.host_frames.specs.{pool_id}
use Rattle.host_model.specs.{MemEntry, Lift, page_at}
use Rattle.host_memory.proofs.Carrying.{pinned_given, pinned_within, pinned_suc, pinned_at, pinned_still, pinned_block, pinned_long, pinned_own, pinned_page}
use Rattle.host_memory.proofs.Landed.{kept_lifted}
use Rattle.host_memory.proofs.memory.Memory.lift.Goals as goal

pub overflow_sub-id : goal.overflow_sub-id
overflow_sub-id c = let m = c.self.inside in let pinned = subst (λ (s : MemoryState). is_pinned_by c.args.hand c.args.index c.args.id (history s) ≡ true) (sym c.self.view_is) c.requires.pinned in
    (pinned_given m.limits (pool_id m.pool.value) m.entries m.moves m.pins m.buffers.items c.self.invariant.0 c.args.hand c.args.index c.args.id pinned).0

pub index-requires : goal.index-requires
index-requires c = let m = c.self.inside in let pinned = subst (λ (s : MemoryState). is_pinned_by c.args.hand c.args.index c.args.id (history s) ≡ true) (sym c.self.view_is) c.requires.pinned in
    let within = pinned_within m.limits (pool_id m.pool.value) m.entries m.moves m.pins m.buffers.items c.self.invariant.0 c.args.hand c.args.index c.args.id pinned in let n = m.buffers.ok.0 in omega arith

pub page-requires : goal.page-requires
page-requires c = let m = c.self.inside in let x = c.index.result.now in
    let pinned = subst (λ (s : MemoryState). is_pinned_by c.args.hand c.args.index c.args.id (history s) ≡ true) (sym c.self.view_is) c.requires.pinned in
    let block = subst (λ (s : MemoryState). is_block_of c.args.id (history s) c.args.block ≡ true) (sym c.self.view_is) c.requires.block in
    pinned_block m.limits (pool_id m.pool.value) m.entries m.moves m.pins m.buffers.items c.self.invariant.0 c.args.hand c.args.index c.args.id pinned x c.index.ensures c.args.block block

pub invariant_of-self : goal.invariant_of-self
invariant_of-self c = let m = c.self.inside in let x = c.index.result.now in let pool = pool_id m.pool.value in let i = c.args.id - 1 in let keep = c.in_ok-bytes.bytes in
    let pinned = subst (λ (s : MemoryState). is_pinned_by c.args.hand c.args.index c.args.id (history s) ≡ true) (sym c.self.view_is) c.requires.pinned in
    let block = subst (λ (s : MemoryState). is_block_of c.args.id (history s) c.args.block ≡ true) (sym c.self.view_is) c.requires.block in
    let room = subst (λ (s : MemoryState). 1 ≤ s.moves) (sym c.self.view_is) c.requires.room in
    let at = pinned_at m.limits pool m.entries m.moves m.pins m.buffers.items c.self.invariant.0 c.args.hand c.args.index c.args.id pinned x c.index.ensures in
    let still = pinned_still m.limits pool m.entries m.moves m.pins m.buffers.items c.self.invariant.0 c.args.hand c.args.index c.args.id pinned x c.index.ensures in
    let id = pinned_suc m.limits pool m.entries m.moves m.pins m.buffers.items c.self.invariant.0 c.args.hand c.args.index c.args.id pinned in
    let own = pinned_own m.limits pool m.entries m.moves m.pins m.buffers.items c.self.invariant.0 c.args.hand c.args.index c.args.id pinned in
    let page = pinned_page m.limits pool m.entries m.moves m.pins m.buffers.items c.self.invariant.0 c.args.hand c.args.index c.args.id pinned x c.index.ensures c.args.block block in
    let is : keep ≡ page_at m.limits.size (events m.entries.items) (suc i) c.args.block =
    c.in_ok-bytes.ensures ∙ (c.in_ok-piece.ensures ∙ (c.page.ensures ∙ (page ∙ ap (λ v. page_at m.limits.size (events m.entries.items) v c.args.block) (sym id)))) in
    let kept = kept_lifted m.limits pool m.entries m.moves m.pins m.buffers.items c.self.invariant.0 i x at still c.args.hand c.args.index c.args.k c.args.block keep room own is in (
      subst (λ (z : SwitchedLog MemEntry). IsMemoryKept m.limits pool z (m.moves - 1) m.pins m.buffers.items) (sym c.push.ensures)
          (subst (λ v. IsMemoryKept m.limits pool (record m.entries { items = m.entries.items ++ record { hand = c.args.hand; what = Lift c.args.index c.args.k v c.args.block keep } ∷ [] }) (m.moves - 1) m.pins m.buffers.items) id kept),
      c.self.invariant.1,
      c.self.invariant.2,
      c.self.invariant.3,
      ap (λ (z : SwitchedLog MemEntry). z.kept) c.push.ensures ∙ c.self.invariant.4,
    )

pub returns-clause-bytes : goal.returns-clause-bytes
returns-clause-bytes c = let m = c.self.inside in let x = c.index.result.now in
    let pinned = subst (λ (s : MemoryState). is_pinned_by c.args.hand c.args.index c.args.id (history s) ≡ true) (sym c.self.view_is) c.requires.pinned in
    let block = subst (λ (s : MemoryState). is_block_of c.args.id (history s) c.args.block ≡ true) (sym c.self.view_is) c.requires.block in
    let page = pinned_page m.limits (pool_id m.pool.value) m.entries m.moves m.pins m.buffers.items c.self.invariant.0 c.args.hand c.args.index c.args.id pinned x c.index.ensures c.args.block block in
    let long = pinned_long m.limits (pool_id m.pool.value) m.entries m.moves m.pins m.buffers.items c.self.invariant.0 c.args.hand c.args.index c.args.id pinned x c.index.ensures c.args.block block in
    let held = c.in_ok-piece.ensures ∙ c.page.ensures in (
      subst (λ (s : MemoryState). c.in_ok-piece.piece ≡ page_at (block_size_of s) (history s) c.args.id c.args.block) c.self.view_is (held ∙ page),
      subst (λ (s : MemoryState). length c.in_ok-piece.piece ≡ block_size_of s) c.self.view_is (ap length held ∙ long),
    )
