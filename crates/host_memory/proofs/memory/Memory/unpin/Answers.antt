use Rattle.std.proofs.Common.{◌≡◌, ◌-◌, [], ◌∷◌, ◌++◌, true, set, sym, subst, arith, ◌∙◌, ap}
use Rattle.host_log.specs.{SwitchedLog}
use Rattle.host_frames.specs.{pool_id}
use Rattle.host_model.specs.{MemEntry, Done}
use Rattle.host_memory.specs.{holds_pages, IsMemoryKept, is_pinned_by, MemoryState, history, events}
use Rattle.host_memory.proofs.Carrying.{pinned_given, pinned_within, pinned_suc, pinned_at, pinned_some, pinned_still, pinned_holds}
use Rattle.host_memory.proofs.Unpinned.{done_fits, kept_unpinned, left_some}
use Rattle.host_memory.proofs.memory.Memory.unpin.Goals as goal

pub overflow_sub-id : goal.overflow_sub-id
overflow_sub-id c = let m = c.self.inside in let pinned = subst (λ (s : MemoryState). is_pinned_by c.args.hand c.args.index c.args.id (history s) ≡ true) (sym c.self.view_is) c.requires in
    (pinned_given m.limits (pool_id m.pool.value) m.entries m.moves m.pins m.buffers.items c.self.invariant.0 c.args.hand c.args.index c.args.id pinned).0

pub index_mut-requires : goal.index_mut-requires
index_mut-requires c = let m = c.self.inside in let pinned = subst (λ (s : MemoryState). is_pinned_by c.args.hand c.args.index c.args.id (history s) ≡ true) (sym c.self.view_is) c.requires in
    let within = pinned_within m.limits (pool_id m.pool.value) m.entries m.moves m.pins m.buffers.items c.self.invariant.0 c.args.hand c.args.index c.args.id pinned in let n = m.buffers.ok.0 in omega arith

pub overflow_sub-index_mut : goal.overflow_sub-index_mut
overflow_sub-index_mut c = let m = c.self.inside in let pinned = subst (λ (s : MemoryState). is_pinned_by c.args.hand c.args.index c.args.id (history s) ≡ true) (sym c.self.view_is) c.requires in
    pinned_some m.limits (pool_id m.pool.value) m.entries m.moves m.pins m.buffers.items c.self.invariant.0 c.args.hand c.args.index c.args.id pinned c.index_mut.result.now c.index_mut.ensures.value

pub overflow_sub-self : goal.overflow_sub-self
overflow_sub-self c = let m = c.self.inside in let x = c.index_mut.result.now in let pool = pool_id m.pool.value in let i = c.args.id - 1 in
    let pinned = subst (λ (s : MemoryState). is_pinned_by c.args.hand c.args.index c.args.id (history s) ≡ true) (sym c.self.view_is) c.requires in
    let at = pinned_at m.limits pool m.entries m.moves m.pins m.buffers.items c.self.invariant.0 c.args.hand c.args.index c.args.id pinned x c.index_mut.ensures.value in
    let still = pinned_still m.limits pool m.entries m.moves m.pins m.buffers.items c.self.invariant.0 c.args.hand c.args.index c.args.id pinned x c.index_mut.ensures.value in
    let id = pinned_suc m.limits pool m.entries m.moves m.pins m.buffers.items c.self.invariant.0 c.args.hand c.args.index c.args.id pinned in
    let here = subst (λ v. is_pinned_by c.args.hand c.args.index v (events m.entries.items) ≡ true) (sym id) pinned in
    left_some m.limits pool m.entries m.moves m.pins m.buffers.items c.self.invariant.0 c.args.hand c.args.index i x at still here

pub push-requires : goal.push-requires
push-requires c = let m = c.self.inside in let x = c.index_mut.result.now in let pool = pool_id m.pool.value in let i = c.args.id - 1 in
    let pinned = subst (λ (s : MemoryState). is_pinned_by c.args.hand c.args.index c.args.id (history s) ≡ true) (sym c.self.view_is) c.requires in
    let at = pinned_at m.limits pool m.entries m.moves m.pins m.buffers.items c.self.invariant.0 c.args.hand c.args.index c.args.id pinned x c.index_mut.ensures.value in
    let still = pinned_still m.limits pool m.entries m.moves m.pins m.buffers.items c.self.invariant.0 c.args.hand c.args.index c.args.id pinned x c.index_mut.ensures.value in
    let id = pinned_suc m.limits pool m.entries m.moves m.pins m.buffers.items c.self.invariant.0 c.args.hand c.args.index c.args.id pinned in
    let here = subst (λ v. is_pinned_by c.args.hand c.args.index v (events m.entries.items) ≡ true) (sym id) pinned in
    done_fits m.limits pool m.entries m.moves m.pins m.buffers.items c.self.invariant.0 c.args.hand c.args.index i x at still here

pub invariant_of-self : goal.invariant_of-self
invariant_of-self c = let m = c.self.inside in let x = c.index_mut.result.now in let pool = pool_id m.pool.value in let i = c.args.id - 1 in
    let pinned = subst (λ (s : MemoryState). is_pinned_by c.args.hand c.args.index c.args.id (history s) ≡ true) (sym c.self.view_is) c.requires in
    let at = pinned_at m.limits pool m.entries m.moves m.pins m.buffers.items c.self.invariant.0 c.args.hand c.args.index c.args.id pinned x c.index_mut.ensures.value in
    let still = pinned_still m.limits pool m.entries m.moves m.pins m.buffers.items c.self.invariant.0 c.args.hand c.args.index c.args.id pinned x c.index_mut.ensures.value in
    let id = pinned_suc m.limits pool m.entries m.moves m.pins m.buffers.items c.self.invariant.0 c.args.hand c.args.index c.args.id pinned in
    let here = subst (λ v. is_pinned_by c.args.hand c.args.index v (events m.entries.items) ≡ true) (sym id) pinned in
    let kept = kept_unpinned m.limits pool m.entries m.moves m.pins m.buffers.items c.self.invariant.0 c.args.hand c.args.index i x at still here in (
      subst (λ (z : SwitchedLog MemEntry). IsMemoryKept m.limits pool z m.moves (m.pins - 1) (set m.buffers.items i (record x { pins = x.pins - 1 }))) (sym c.push.ensures)
          (subst (λ v. IsMemoryKept m.limits pool (record m.entries { items = m.entries.items ++ record { hand = c.args.hand; what = Done c.args.index v } ∷ [] }) m.moves (m.pins - 1) (set m.buffers.items i (record x { pins = x.pins - 1 }))) id kept),
      c.self.invariant.1,
      c.self.invariant.2,
      c.self.invariant.3,
      ap (λ (z : SwitchedLog MemEntry). z.kept) c.push.ensures ∙ c.self.invariant.4,
    )

pub returns-clause-held : goal.returns-clause-held
returns-clause-held c = let m = c.self.inside in let x = c.index_mut.result.now in
    let pinned = subst (λ (s : MemoryState). is_pinned_by c.args.hand c.args.index c.args.id (history s) ≡ true) (sym c.self.view_is) c.requires in
    subst (λ (s : MemoryState). holds_pages c.args.id (history s) ≡ true) c.self.view_is
    (pinned_holds m.limits (pool_id m.pool.value) m.entries m.moves m.pins m.buffers.items c.self.invariant.0 c.args.hand c.args.index c.args.id pinned x c.index_mut.ensures.value)
