-- A session's client received the answers that it is due.
use Rattle.std.specs.Prelude.{List}
use Rattle.host_model.specs.declared.memory.MemEntry.{MemEntry}
use Rattle.host_model.specs.Answers.{AreDueAnswers}
use Rattle.host_model.specs.Session.{Session}
use Rattle.host_session.specs.declared.hand.SessionHand.{SessionHand}
use Rattle.host_session.specs.Client.{ClientState}
use Rattle.session_law.specs.Gathered.{IsSessionGathered}
use Rattle.session_law.specs.Handing.{PushedAsTold}

-- where each hand pushed just what its own entries at the intake handed on
abbrev pub DueAnswers : Type 0
DueAnswers =
    (client : ClientState) (hands : List SessionHand) (h : List MemEntry) (s : Session)
    (g : IsSessionGathered client hands h s) → PushedAsTold hands g.whole.intake.entries
    → AreDueAnswers s
