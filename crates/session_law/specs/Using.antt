-- A fill or show of a session's client was done, or not, as its buffer stood.
use Rattle.std.specs.Prelude.{List, IsTrue}
use Rattle.host_model.specs.declared.memory.MemEntry.{MemEntry}
use Rattle.host_model.specs.Buffers.{is_used_rightly}
use Rattle.host_model.specs.Lists.{all_with_before}
use Rattle.host_model.specs.Session.{Session}
use Rattle.host_session.specs.declared.hand.SessionHand.{SessionHand}
use Rattle.host_session.specs.Client.{ClientState}
use Rattle.session_law.specs.Gathered.{IsSessionGathered, ReleaseClosed}
use Rattle.session_law.specs.Handing.{PushedAsTold}

abbrev pub UsedRightly : Type 0
UsedRightly =
    (client : ClientState) (hands : List SessionHand) (h : List MemEntry) (s : Session)
    (g : IsSessionGathered client hands h s) → PushedAsTold hands g.whole.intake.entries
    → ReleaseClosed client.plan.hands h → IsTrue (all_with_before (is_used_rightly s) s.log)
