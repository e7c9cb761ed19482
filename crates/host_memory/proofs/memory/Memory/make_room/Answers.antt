use Rattle.std.proofs.Common.{◌≡◌, ◌-◌, ◌+◌, length, sym, subst, arith, ◌∙◌, ap}
use Rattle.host_log.specs.{SwitchedLog}
use Rattle.host_frames.specs.{pool_id}
use Rattle.host_model.specs.{MemEntry}
use Rattle.host_memory.specs.{IsMemoryKept}
use Rattle.host_memory.proofs.Roomier.{kept_roomier}
use Rattle.host_memory.proofs.memory.Memory.make_room.Goals as goal

pub invariant_of-self-2 : goal.invariant_of-self-2
invariant_of-self-2 c = let m = c.self.inside in let pool = pool_id m.pool.value in
    let wanted : c.in-Some.wanted ≡ m.entries.room - length m.entries.items - m.moves + c.args.n = (let s = c.spare.ensures in let w = c.in-Some.ensures in omega arith) in (
      subst (λ (z : SwitchedLog MemEntry). IsMemoryKept m.limits pool z c.args.n m.pins m.buffers.items) (sym c.in_ok-reserve.ensures.ok)
          (kept_roomier m.limits pool m.entries m.moves m.pins m.buffers.items c.self.invariant.0 c.args.n c.in-Some.wanted wanted),
      c.self.invariant.1,
      c.self.invariant.2,
      c.self.invariant.3,
      ap (λ (z : SwitchedLog MemEntry). z.kept) c.in_ok-reserve.ensures.ok ∙ c.self.invariant.4,
    )
