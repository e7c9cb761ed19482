use Rattle.std.proofs.Common.{◌≡◌, ◌-◌, ◌∙◌, [], ◌∷◌, ◌++◌, None, Some, true, suc, set, sym, ap, subst, arith}
use Rattle.host_log.specs.{SwitchedLog}
use Rattle.host_frames.specs.{pool_id}
use Rattle.host_model.specs.{MemEntry, Release}
use Rattle.host_memory.specs.{holds_pages, page_count_of, IsMemoryKept, ArePagesOf, outline, pins_on, MemoryState, history, events, block_size_of}
use Rattle.host_memory.proofs.Closed.{kept_released, release_fits}
use Rattle.host_memory.proofs.Holding.{holds_given, holds_within, holds_suc, holds_held, holds_at, holds_outline, holds_owed, holds_pages_of, holds_count}
use Rattle.host_memory.proofs.memory.Memory.release.Goals as goal

pub overflow_sub-id : goal.overflow_sub-id
overflow_sub-id c = let m = c.self.inside in let holds = subst (λ (s : MemoryState). holds_pages c.args.id (history s) ≡ true) (sym c.self.view_is) c.requires.held in
    (holds_given m.limits (pool_id m.pool.value) m.entries m.moves m.pins m.buffers.items c.self.invariant.0 c.args.id holds).0

pub index_mut-requires : goal.index_mut-requires
index_mut-requires c = let m = c.self.inside in let holds = subst (λ (s : MemoryState). holds_pages c.args.id (history s) ≡ true) (sym c.self.view_is) c.requires.held in
    let within = holds_within m.limits (pool_id m.pool.value) m.entries m.moves m.pins m.buffers.items c.self.invariant.0 c.args.id holds in let n = m.buffers.ok.0 in omega arith

pub unreachable-requires : goal.unreachable-requires
unreachable-requires c = let m = c.self.inside in let x = c.index_mut.result.now in let pool = pool_id m.pool.value in let holds = subst (λ (s : MemoryState). holds_pages c.args.id (history s) ≡ true) (sym c.self.view_is) c.requires.held in
    let none = sym c.take.ensures.value ∙ c.in_default.is in
    let o : outline None ≡ Some (pool, x.page_count) = sym (ap outline none) ∙ holds_outline m.limits pool m.entries m.moves m.pins m.buffers.items c.self.invariant.0 c.args.id holds x c.index_mut.ensures.value in cc

pub push-requires : goal.push-requires
push-requires c = let m = c.self.inside in let x = c.index_mut.result.now in let pool = pool_id m.pool.value in let i = c.args.id - 1 in let holds = subst (λ (s : MemoryState). holds_pages c.args.id (history s) ≡ true) (sym c.self.view_is) c.requires.held in
    let at = holds_at m.limits pool m.entries m.moves m.pins m.buffers.items c.self.invariant.0 c.args.id holds x c.index_mut.ensures.value in
    let held = holds_held m.limits pool m.entries m.moves m.pins m.buffers.items c.self.invariant.0 c.args.id holds in
    release_fits m.limits pool m.entries m.moves m.pins m.buffers.items c.self.invariant.0 i x at held (holds_owed m.limits pool m.entries m.moves m.pins m.buffers.items c.self.invariant.0 c.args.id holds x c.index_mut.ensures.value)

pub invariant_of-self : goal.invariant_of-self
invariant_of-self c = let m = c.self.inside in let x = c.index_mut.result.now in let pool = pool_id m.pool.value in let i = c.args.id - 1 in let holds = subst (λ (s : MemoryState). holds_pages c.args.id (history s) ≡ true) (sym c.self.view_is) c.requires.held in
    let at = holds_at m.limits pool m.entries m.moves m.pins m.buffers.items c.self.invariant.0 c.args.id holds x c.index_mut.ensures.value in
    let held = holds_held m.limits pool m.entries m.moves m.pins m.buffers.items c.self.invariant.0 c.args.id holds in
    let id = holds_suc m.limits pool m.entries m.moves m.pins m.buffers.items c.self.invariant.0 c.args.id holds in
    let free : pins_on (suc i) (events m.entries.items) ≡ 0 = subst (λ v. pins_on v (events m.entries.items) ≡ 0) (sym id) (subst (λ (s : MemoryState). pins_on c.args.id (history s) ≡ 0) (sym c.self.view_is) c.requires.free) in
    let kept = kept_released m.limits pool m.entries m.moves m.pins m.buffers.items c.self.invariant.0 i x at held c.args.hand free (holds_owed m.limits pool m.entries m.moves m.pins m.buffers.items c.self.invariant.0 c.args.id holds x c.index_mut.ensures.value) in (
      subst (λ (z : SwitchedLog MemEntry). IsMemoryKept m.limits pool z m.moves m.pins (set m.buffers.items i (record x { pages = c.take.new.self }))) (sym c.push.ensures)
          (subst (λ p. IsMemoryKept m.limits pool (record m.entries { items = m.entries.items ++ record { hand = c.args.hand; what = Release c.args.id } ∷ [] }) m.moves m.pins (set m.buffers.items i (record x { pages = p }))) (sym c.take.ensures.after)
          (subst (λ v. IsMemoryKept m.limits pool (record m.entries { items = m.entries.items ++ record { hand = c.args.hand; what = Release v } ∷ [] }) m.moves m.pins (set m.buffers.items i (record x { pages = None }))) id kept)),
      c.self.invariant.1,
      c.self.invariant.2,
      c.self.invariant.3,
      ap (λ (z : SwitchedLog MemEntry). z.kept) c.push.ensures ∙ c.self.invariant.4,
    )

pub returns-clause-pages : goal.returns-clause-pages
returns-clause-pages c = let m = c.self.inside in let x = c.index_mut.result.now in let pool = pool_id m.pool.value in let i = c.args.id - 1 in let h = events m.entries.items in let holds = subst (λ (s : MemoryState). holds_pages c.args.id (history s) ≡ true) (sym c.self.view_is) c.requires.held in
    let is = sym c.take.ensures.value ∙ c.in-Some.is in
    let pages = holds_pages_of m.limits pool m.entries m.moves m.pins m.buffers.items c.self.invariant.0 c.args.id holds x c.index_mut.ensures.value c.in-Some.pages is in
    let number = holds_count m.limits pool m.entries m.moves m.pins m.buffers.items c.self.invariant.0 c.args.id holds x c.index_mut.ensures.value in
    let id = holds_suc m.limits pool m.entries m.moves m.pins m.buffers.items c.self.invariant.0 c.args.id holds in
    subst (λ (s : MemoryState). ArePagesOf s.plan.pool (block_size_of s) (history s) c.args.id (page_count_of c.args.id (history s)) c.in-Some.pages) c.self.view_is
    (subst (λ v. ArePagesOf pool m.limits.size h v (page_count_of c.args.id h) c.in-Some.pages) id
    (subst (λ n. ArePagesOf pool m.limits.size h (suc i) n c.in-Some.pages) (sym number) pages))
