use Rattle.std.proofs.Common.{◌≡◌, ◌+◌, ◌-◌, ◌<◌, [], ◌∷◌, ◌++◌, None, true, suc, set, sym, subst, arith, ◌∙◌, ap}
use Rattle.std.specs.Option.{is_some}
use Rattle.host_log.specs.{SwitchedLog}
use Rattle.host_frames.specs.{pool_id}
use Rattle.host_model.specs.{MemEntry, Pin, count}
use Rattle.host_memory.specs.{pin_count, closer_of, standing_in, IsMemoryKept, is_pin_for, MemoryState, history, events}
use Rattle.host_memory.proofs.Pinned.{kept_pinned}
use Rattle.host_memory.proofs.Pinning.{left_few, pins_few}
use Rattle.host_memory.proofs.Standing.{stands_given, stands_within, stands_suc, stands_held, stands_at, stands_told, never_closed}
use Rattle.host_memory.proofs.memory.Memory.pin.Goals as goal

pub overflow_sub-id : goal.overflow_sub-id
overflow_sub-id c = let m = c.self.inside in let stands = subst (λ (s : MemoryState). is_some (standing_in c.args.id c.args.index (history s)) ≡ true) (sym c.self.view_is) c.requires.stands in
    (stands_given m.limits (pool_id m.pool.value) m.entries m.moves m.pins m.buffers.items c.self.invariant.0 c.args.id c.args.index stands).0

pub index_mut-requires : goal.index_mut-requires
index_mut-requires c = let m = c.self.inside in let stands = subst (λ (s : MemoryState). is_some (standing_in c.args.id c.args.index (history s)) ≡ true) (sym c.self.view_is) c.requires.stands in
    let within = stands_within m.limits (pool_id m.pool.value) m.entries m.moves m.pins m.buffers.items c.self.invariant.0 c.args.id c.args.index stands in let n = m.buffers.ok.0 in omega arith

pub overflow_add-self : goal.overflow_add-self
overflow_add-self c = let m = c.self.inside in let room = subst (λ (s : MemoryState). pin_count (history s) < s.plan.limits.records) (sym c.self.view_is) c.requires.room in
    let few = left_few (events m.entries.items) in let is = c.self.invariant.0.room.counted in let fits = c.self.ranges in omega arith

pub overflow_add-index_mut : goal.overflow_add-index_mut
overflow_add-index_mut c = let m = c.self.inside in let x = c.index_mut.result.now in let room = subst (λ (s : MemoryState). pin_count (history s) < s.plan.limits.records) (sym c.self.view_is) c.requires.room in
    let stands = subst (λ (s : MemoryState). is_some (standing_in c.args.id c.args.index (history s)) ≡ true) (sym c.self.view_is) c.requires.stands in
    let told = stands_told m.limits (pool_id m.pool.value) m.entries m.moves m.pins m.buffers.items c.self.invariant.0 c.args.id c.args.index stands x c.index_mut.ensures.value in
    let pinned = told.pinned in let some = pins_few (suc (c.args.id - 1)) (events m.entries.items) in
    let few = left_few (events m.entries.items) in let fits = c.self.ranges in omega arith

pub invariant_of-self : goal.invariant_of-self
invariant_of-self c = let m = c.self.inside in let x = c.index_mut.result.now in let pool = pool_id m.pool.value in let i = c.args.id - 1 in
    let room = subst (λ (s : MemoryState). pin_count (history s) < s.plan.limits.records) (sym c.self.view_is) c.requires.room in
    let stands = subst (λ (s : MemoryState). is_some (standing_in c.args.id c.args.index (history s)) ≡ true) (sym c.self.view_is) c.requires.stands in
    let unclosed = subst (λ (s : MemoryState). closer_of c.args.id (history s) ≡ None) (sym c.self.view_is) c.requires.open in
    let first = subst (λ (s : MemoryState). count (is_pin_for c.args.index) (history s) ≡ 0) (sym c.self.view_is) c.requires.first in
    let at = stands_at m.limits pool m.entries m.moves m.pins m.buffers.items c.self.invariant.0 c.args.id c.args.index stands x c.index_mut.ensures.value in
    let held = stands_held m.limits pool m.entries m.moves m.pins m.buffers.items c.self.invariant.0 c.args.id c.args.index stands in
    let never = never_closed m.limits pool m.entries m.moves m.pins m.buffers.items c.self.invariant.0 c.args.id c.args.index stands x c.index_mut.ensures.value unclosed in
    let id = stands_suc m.limits pool m.entries m.moves m.pins m.buffers.items c.self.invariant.0 c.args.id c.args.index stands in
    let kept = kept_pinned m.limits pool m.entries m.moves m.pins m.buffers.items c.self.invariant.0 c.args.index c.args.by i x at held never.1 first room in (
      subst (λ (z : SwitchedLog MemEntry). IsMemoryKept m.limits pool z m.moves (m.pins + 1) (set m.buffers.items i (record x { pins = x.pins + 1 }))) (sym c.push.ensures)
          (subst (λ v. IsMemoryKept m.limits pool (record m.entries { items = m.entries.items ++ record { hand = m.limits.hands + 1; what = Pin c.args.index v c.args.by } ∷ [] }) m.moves (m.pins + 1) (set m.buffers.items i (record x { pins = x.pins + 1 }))) id kept),
      c.self.invariant.1,
      c.self.invariant.2,
      c.self.invariant.3,
      ap (λ (z : SwitchedLog MemEntry). z.kept) c.push.ensures ∙ c.self.invariant.4,
    )
