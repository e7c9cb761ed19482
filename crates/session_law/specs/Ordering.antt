-- What was answered before a record was sent stands before what the record does.
use Rattle.std.specs.Prelude.{◌≡◌, List}
use Rattle.host_intake.specs.Entries.{landings, takings}
use Rattle.host_model.specs.declared.memory.MemEntry.{MemEntry}
use Rattle.host_model.specs.declared.step.Step.{Step}
use Rattle.host_model.specs.Order.{KeepsOrder}
use Rattle.host_model.specs.Session.{Session}
use Rattle.host_session.specs.declared.hand.SessionHand.{SessionHand}
use Rattle.host_session.specs.Client.{ClientState}
use Rattle.session_law.specs.Gathered.{IsSessionGathered}
use Rattle.session_law.specs.Handing.{PushedAsTold}
use Rattle.session_law.specs.Hands.{KeepFronts, steps_in}

abbrev pub OrderKept : Type 0
OrderKept =
    (client : ClientState) (hands : List SessionHand) (h : List MemEntry) (steps : List Step)
    (s : Session) (g : IsSessionGathered client hands h s)
    → PushedAsTold hands g.whole.intake.entries
    → KeepFronts client.plan.spec.number client.plan.hands (takings g.whole.intake.entries)
    (landings g.whole.intake.entries) h steps → s.steps ≡ steps_in client.plan.spec.number steps
    → KeepsOrder s
