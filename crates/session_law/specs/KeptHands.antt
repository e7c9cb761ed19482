-- What the hands of a session kept, over the whole histories.
use Rattle.std.specs.Prelude.{◌≡◌, ℕ, ◌<◌, List, slice_get, Some}
use Rattle.host_model.specs.declared.memory.MemEntry.{MemEntry}
use Rattle.host_model.specs.declared.step.Step.{Step}
use Rattle.host_model.specs.Session.{Session}
use Rattle.host_rings.specs.Places.{EachPlace}
use Rattle.host_log.specs.History.{Continues}
use Rattle.host_session.specs.declared.hand.SessionHand.{SessionHand}
use Rattle.host_session.specs.declared.spec.SessionSpec.{SessionSpec}
use Rattle.host_session.specs.Client.{ClientState}
use Rattle.host_session.specs.Plan.{AreAllHands}
use Rattle.host_hand.specs.Kept.{KeepsSession}
use Rattle.session_law.specs.Gathered.{IsSessionGathered}
use Rattle.session_law.specs.Hands.{steps_in}
use Rattle.session_law.specs.Lawful.{AreKept}

-- Hand n kept the session, over what its seat at the device has seen: a beginning of the device's
-- history, with all that the hand made.
pub record HasKept (spec : SessionSpec) (steps : List Step) (n : ℕ) (hand : SessionHand)
    : Type 0 where
  pub seen : List Step
  pub later : Continues (λ step. step.hand) n seen steps
  pub keeps : KeepsSession spec n hand seen

-- All hands of the session kept it, and made all the steps that name it.
pub record HaveKept (client : ClientState) (hands : List SessionHand) (steps : List Step)
    : Type 0 where
  pub dealt : AreAllHands client.plan hands
  pub each : EachPlace (HasKept client.plan.spec steps) hands
  pub made : (p : ℕ) (step : Step) → slice_get steps p ≡ Some step
      → step.session ≡ client.plan.spec.number → step.hand < client.plan.hands

abbrev pub HandsKeepSessions : Type 0
HandsKeepSessions =
    (client : ClientState) (hands : List SessionHand) (h : List MemEntry) (steps : List Step)
    (s : Session) (g : IsSessionGathered client hands h s) → HaveKept client hands steps
    → s.steps ≡ steps_in client.plan.spec.number steps → AreKept client hands h steps s g
