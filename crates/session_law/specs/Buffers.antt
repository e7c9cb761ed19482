-- What the history of a session's buffers has, by the two ends of the session alone.
use Rattle.std.specs.Prelude.{List}
use Rattle.host_model.specs.declared.memory.MemEntry.{MemEntry}
use Rattle.host_model.specs.ClientEntries.{IsToldByLog}
use Rattle.host_model.specs.Pages.{HasPages}
use Rattle.host_model.specs.Releases.{AreReleased}
use Rattle.host_model.specs.Session.{Session}
use Rattle.host_session.specs.declared.hand.SessionHand.{SessionHand}
use Rattle.host_session.specs.Client.{ClientState}
use Rattle.session_law.specs.Gathered.{IsSessionGathered}

-- The client's entries are those of its log; each show gave what the pages had, and each lift took
-- it; and each buffer was released once, after everything else of it.
pub record AreBuffersTold (s : Session) : Type 0 where
  pub client : IsToldByLog s
  pub pages : HasPages s
  pub releases : AreReleased s

abbrev pub BuffersTold : Type 0
BuffersTold =
    (client : ClientState) (hands : List SessionHand) (h : List MemEntry) (s : Session)
    → IsSessionGathered client hands h s → AreBuffersTold s
