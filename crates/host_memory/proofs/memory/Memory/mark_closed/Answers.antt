use Rattle.std.proofs.Common.{◌≡◌, ◌+◌, ◌-◌, [], ◌∷◌, ◌++◌, None, Some, true, set, sym, subst, arith, ◌∙◌, ap}
use Rattle.std.specs.Option.{is_some}
use Rattle.host_log.specs.{SwitchedLog}
use Rattle.host_frames.specs.{pool_id}
use Rattle.host_model.specs.{MemEntry}
use Rattle.host_model.specs.declared.memory.MemEvent.TheVariants as mem
use Rattle.host_memory.specs.{closer_of, standing_in, IsMemoryKept, MemoryState, history, admissions_of}
use Rattle.host_memory.proofs.Closed.{close_fits, kept_closed}
use Rattle.host_memory.proofs.Standing.{stands_given, stands_within, stands_suc, stands_held, stands_at, never_closed}
use Rattle.host_memory.proofs.memory.Memory.mark_closed.Goals as goal

pub overflow_sub-id : goal.overflow_sub-id
overflow_sub-id c = let m = c.self.inside in let stands = subst (λ (s : MemoryState). is_some (standing_in c.args.id c.args.index (history s)) ≡ true) (sym c.self.view_is) c.requires.stands in
    (stands_given m.limits (pool_id m.pool.value) m.entries m.moves m.pins m.buffers.items c.self.invariant.0 c.args.id c.args.index stands).0

pub index_mut-requires : goal.index_mut-requires
index_mut-requires c = let m = c.self.inside in let stands = subst (λ (s : MemoryState). is_some (standing_in c.args.id c.args.index (history s)) ≡ true) (sym c.self.view_is) c.requires.stands in
    let within = stands_within m.limits (pool_id m.pool.value) m.entries m.moves m.pins m.buffers.items c.self.invariant.0 c.args.id c.args.index stands in let n = m.buffers.ok.0 in omega arith

pub invariant_of-self : goal.invariant_of-self
invariant_of-self c = let m = c.self.inside in let x = c.index_mut.result.now in let pool = pool_id m.pool.value in let i = c.args.id - 1 in
    let stands = subst (λ (s : MemoryState). is_some (standing_in c.args.id c.args.index (history s)) ≡ true) (sym c.self.view_is) c.requires.stands in
    let unclosed = subst (λ (s : MemoryState). closer_of c.args.id (history s) ≡ None) (sym c.self.view_is) c.requires.open in
    let at = stands_at m.limits pool m.entries m.moves m.pins m.buffers.items c.self.invariant.0 c.args.id c.args.index stands x c.index_mut.ensures.value in
    let held = stands_held m.limits pool m.entries m.moves m.pins m.buffers.items c.self.invariant.0 c.args.id c.args.index stands in
    let never = never_closed m.limits pool m.entries m.moves m.pins m.buffers.items c.self.invariant.0 c.args.id c.args.index stands x c.index_mut.ensures.value unclosed in
    let id = stands_suc m.limits pool m.entries m.moves m.pins m.buffers.items c.self.invariant.0 c.args.id c.args.index stands in
    let number = subst (λ (s : MemoryState). c.args.hand ≡ admissions_of s) (sym c.self.view_is) c.requires.number in
    let kept = kept_closed m.limits pool m.entries m.moves m.pins m.buffers.items c.self.invariant.0 i x at held c.args.index never.0 in (
      subst (λ (z : SwitchedLog MemEntry). IsMemoryKept m.limits pool z m.moves m.pins (set m.buffers.items i (record x { closer = Some c.args.index }))) (sym c.push.ensures)
          (subst (λ n. IsMemoryKept m.limits pool (record m.entries { items = m.entries.items ++ record { hand = n; what = mem.Close c.args.index c.args.id } ∷ [] }) m.moves m.pins (set m.buffers.items i (record x { closer = Some c.args.index }))) (sym number)
          (subst (λ v. IsMemoryKept m.limits pool (record m.entries { items = m.entries.items ++ record { hand = m.limits.hands + 1; what = mem.Close c.args.index v } ∷ [] }) m.moves m.pins (set m.buffers.items i (record x { closer = Some c.args.index }))) id kept)),
      c.self.invariant.1,
      c.self.invariant.2,
      c.self.invariant.3,
      ap (λ (z : SwitchedLog MemEntry). z.kept) c.push.ensures ∙ c.self.invariant.4,
    )

pub push-requires : goal.push-requires
push-requires c = let m = c.self.inside in let x = c.index_mut.result.now in let pool = pool_id m.pool.value in let i = c.args.id - 1 in
    let stands = subst (λ (s : MemoryState). is_some (standing_in c.args.id c.args.index (history s)) ≡ true) (sym c.self.view_is) c.requires.stands in
    let unclosed = subst (λ (s : MemoryState). closer_of c.args.id (history s) ≡ None) (sym c.self.view_is) c.requires.open in
    let at = stands_at m.limits pool m.entries m.moves m.pins m.buffers.items c.self.invariant.0 c.args.id c.args.index stands x c.index_mut.ensures.value in
    let held = stands_held m.limits pool m.entries m.moves m.pins m.buffers.items c.self.invariant.0 c.args.id c.args.index stands in
    let never = never_closed m.limits pool m.entries m.moves m.pins m.buffers.items c.self.invariant.0 c.args.id c.args.index stands x c.index_mut.ensures.value unclosed in
    close_fits m.limits pool m.entries m.moves m.pins m.buffers.items c.self.invariant.0 i x at held never.0
