-- A session is lawful where each of its parts is as it has to be.
use Rattle.std.proofs.Common.{◌↔◌, ◌&&◌, IsTrue}
use Rattle.host_model.specs.{IsLawfulSession}
use Rattle.host_model.specs.Session.{Session}
use Rattle.host_model.proofs.ListTests.{and-from, both}
use Rattle.host_check.specs.{TellsSession, SessionParts}

pub session_is : (s : Session) (p : SessionParts) → TellsSession s p → IsTrue (p.taken && p.carried && p.answered && p.buffers && p.ordered) ↔ IsLawfulSession s
session_is s p h = (
  λ t.
      let t4 : IsTrue (p.taken && p.carried && p.answered && p.buffers) × IsTrue p.ordered = both _ _ t in
      let t3 : IsTrue (p.taken && p.carried && p.answered) × IsTrue p.buffers = both _ _ t4.0 in
      let t2 : IsTrue (p.taken && p.carried) × IsTrue p.answered = both _ _ t3.0 in
      let t1 : IsTrue p.taken × IsTrue p.carried = both _ _ t2.0 in
      record { taken = h.taken.0 t1.0; carried = h.carried.0 t1.1; answered = h.answered.0 t2.1; buffers = h.buffers.0 t3.1; ordered = h.ordered.0 t4.1 },
  λ l. and-from _ _ (and-from _ _ (and-from _ _ (and-from _ _ (h.taken.1 l.taken) (h.carried.1 l.carried)) (h.answered.1 l.answered)) (h.buffers.1 l.buffers)) (h.ordered.1 l.ordered),
)
