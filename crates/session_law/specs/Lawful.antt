-- A session is lawful, where its hands kept what they keep.
use Rattle.std.specs.Prelude.{◌≡◌, List}
use Rattle.host_intake.specs.Entries.{landings, takings}
use Rattle.host_model.specs.declared.memory.MemEntry.{MemEntry}
use Rattle.host_model.specs.declared.step.Step.{Step}
use Rattle.host_model.specs.LawfulSession.{IsLawfulSession}
use Rattle.host_model.specs.Session.{Session}
use Rattle.host_session.specs.declared.hand.SessionHand.{SessionHand}
use Rattle.host_session.specs.Client.{ClientState}
use Rattle.session_law.specs.Carrying.{AreCarried}
use Rattle.session_law.specs.Gathered.{IsSessionGathered}
use Rattle.session_law.specs.Handing.{PushedAsTold}
use Rattle.session_law.specs.Hands.{KeepFronts, steps_in}

-- What is known of a session besides its two ends: the hands handed on, carried out and left what
-- they keep. The device's history has these steps.
pub record AreKept (client : ClientState) (hands : List SessionHand) (h : List MemEntry)
    (steps : List Step) (s : Session) (g : IsSessionGathered client hands h s) : Type 0 where
  pub pushed : PushedAsTold hands g.whole.intake.entries
  pub fronts : KeepFronts client.plan.spec.number client.plan.hands (takings g.whole.intake.entries)
      (landings g.whole.intake.entries) h steps
  pub steps_are : s.steps ≡ steps_in client.plan.spec.number steps
  pub carried : AreCarried client.plan.spec.part h s.steps (takings g.whole.intake.entries)
      (landings g.whole.intake.entries)

abbrev pub SessionsAreLawful : Type 0
SessionsAreLawful =
    (client : ClientState) (hands : List SessionHand) (h : List MemEntry) (steps : List Step)
    (s : Session) (g : IsSessionGathered client hands h s) → AreKept client hands h steps s g
    → IsLawfulSession s
