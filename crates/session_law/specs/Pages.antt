-- The pages that a session's client attached were taken out of its buffers again.
use Rattle.std.specs.Prelude.{◌≡◌, ℕ, ◌+◌, List, [], ◌∷◌, sum_by}
use Rattle.host_model.specs.declared.event.Event.{Event}
use Rattle.host_model.specs.declared.event.Event.TheVariants.{Attached}
use Rattle.host_model.specs.declared.memory.MemEntry.{MemEntry}
use Rattle.host_model.specs.declared.step.Step.{Step}
use Rattle.host_model.specs.Session.{Session}
use Rattle.host_turn.specs.Seats.{seen_by}
use Rattle.host_session.specs.declared.hand.SessionHand.{SessionHand}
use Rattle.host_session.specs.Client.{ClientState}
use Rattle.host_hand.specs.Frames.{frames_out, released_by}
use Rattle.session_law.specs.Gathered.{IsSessionGathered}
use Rattle.session_law.specs.KeptHands.{HaveKept}

-- the pages of a buffer that was attached
abbrev pub attached_by : Event → ℕ
attached_by (Attached pages id) = pages
attached_by _ = 0

-- the pages that hands, counted from n, took out of buffers
abbrev pub taken_from : ℕ → List SessionHand → ℕ
taken_from n [] = 0
taken_from n (hand ∷ hands) = frames_out n hand + taken_from (n + 1) hands

-- by the hands, and by the client as it closed the session
abbrev pub PagesComeBack : Type 0
PagesComeBack =
    (client : ClientState) (hands : List SessionHand) (h : List MemEntry) (steps : List Step)
    (s : Session) → IsSessionGathered client hands h s → HaveKept client hands steps
    → sum_by attached_by client.log
    ≡ taken_from 0 hands + released_by client.plan.hands (seen_by client.memory_seat)
