use Rattle.std.proofs.Common.{◌≡◌, None, subst, sym}
use Rattle.host_frames.specs.{pool_id}
use Rattle.host_model.specs.{count, is_release_of}
use Rattle.host_memory.specs.{first_held, is_given_by, MemoryState, history, events}
use Rattle.host_memory.proofs.Remaining.{released_once}
use Rattle.host_memory.proofs.memory.Memory.into_entries.Goals as goal

pub returns-clause-once : goal.returns-clause-once
returns-clause-once c = let m = c.self.inside in let kept = c.self.invariant.0 in
    let none = subst (λ (s : MemoryState). first_held (history s) ≡ None) (sym c.self.view_is) c.requires in
    (λ v. subst (λ (s : MemoryState). count (is_release_of v) (history s) ≡ count (is_given_by v) (history s)) c.self.view_is
    (released_once (pool_id m.pool.value) m.limits.size (events m.entries.items) m.buffers.items kept.told kept.sound none v))
