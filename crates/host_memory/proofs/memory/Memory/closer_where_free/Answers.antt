use Rattle.std.proofs.Common.{◌≡◌, ◌∙◌, true, sym, ap, subst, arith}
use Rattle.host_frames.specs.{pool_id}
use Rattle.host_memory.specs.{holds_pages, closer_due, MemoryState, history}
use Rattle.host_memory.proofs.Holding.{holds_given, holds_within, holds_due}
use Rattle.host_memory.proofs.memory.Memory.closer_where_free.Goals as goal

pub overflow_sub-id : goal.overflow_sub-id
overflow_sub-id c = let m = c.self.inside in let holds = subst (λ (s : MemoryState). holds_pages c.args.id (history s) ≡ true) (sym c.self.view_is) c.requires in
    (holds_given m.limits (pool_id m.pool.value) m.entries m.moves m.pins m.buffers.items c.self.invariant.0 c.args.id holds).0

pub index-requires : goal.index-requires
index-requires c = let m = c.self.inside in let holds = subst (λ (s : MemoryState). holds_pages c.args.id (history s) ≡ true) (sym c.self.view_is) c.requires in
    let within = holds_within m.limits (pool_id m.pool.value) m.entries m.moves m.pins m.buffers.items c.self.invariant.0 c.args.id holds in let n = m.buffers.ok.0 in omega arith

pub returns : goal.returns
returns c = let m = c.self.inside in let x = c.index.result.now in let holds = subst (λ (s : MemoryState). holds_pages c.args.id (history s) ≡ true) (sym c.self.view_is) c.requires in
    c.closer_where_free.ensures ∙ (sym (holds_due m.limits (pool_id m.pool.value) m.entries m.moves m.pins m.buffers.items c.self.invariant.0 c.args.id holds x c.index.ensures) ∙ ap (λ (s : MemoryState). closer_due c.args.id (history s)) c.self.view_is)
