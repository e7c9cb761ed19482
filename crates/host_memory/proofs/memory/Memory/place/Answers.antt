use Rattle.std.proofs.Common.{◌≡◌, ◌==◌, false, None, subst, arith}
use Rattle.std.specs.List.{list_any}
use Rattle.host_model.specs.{buffer_of}
use Rattle.host_memory.specs.{attachment_of, MemoryState, history, events}
use Rattle.host_memory.proofs.Absent.{absent_attachment}
use Rattle.host_memory.proofs.memory.Memory.place.Goals as goal
use Rattle.host_memory.proofs.memory.Memory.place.Goals.{else-id-ge1-via-then-id-ge1+else-id-len, else-id-ge1-via-else-id-ge1}

pub returns-else-id-ge1 : goal.returns-else-id-ge1
returns-else-id-ge1 c = let m = c.self.inside in let told = c.self.invariant.0.told in
    subst (λ (s : MemoryState). attachment_of c.args.id (history s) ≡ None) c.self.view_is
    (elim c.else-id-ge1.branch [
      | else-id-ge1-via-then-id-ge1+else-id-len w ↦ absent_attachment c.args.id (events m.entries.items) (told.fresh c.args.id (let n = w.if-id-len.false in let l = w.len.ensures in let k = m.buffers.ok.0 in omega arith))
      | else-id-ge1-via-else-id-ge1 w ↦ absent_attachment c.args.id (events m.entries.items) (let z : 0 ≡ c.args.id = (let n = w.if-id-ge1.false in omega arith) in subst (λ v. list_any (λ e. buffer_of e == v) (events m.entries.items) ≡ false) z told.never)
    ])
