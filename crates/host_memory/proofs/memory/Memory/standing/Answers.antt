use Rattle.std.proofs.Common.{◌∙◌, sym, ap}
use Rattle.host_frames.specs.{pool_id}
use Rattle.host_memory.specs.{MemoryState, history}
use Rattle.host_memory.proofs.Finding.{found_standing}
use Rattle.host_memory.proofs.memory.Memory.standing.Goals as goal

pub returns : goal.returns
returns c = let m = c.self.inside in let seen = ap (λ (s : MemoryState). history s) c.self.view_is in
    c.standing_for.ensures ∙ sym (found_standing m.limits (pool_id m.pool.value) m.entries m.moves m.pins m.buffers.items c.self.invariant.0 (history c.args.self.now) seen c.in_ok-place.field-0 c.args.id c.index-buffer.result.now c.in_ok-place.ensures.0 c.in_ok-place.ensures.1 c.index-buffer.ensures c.args.index)
