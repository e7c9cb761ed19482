-- How a server ends: its sessions, the device's steps and the pages that are home, put together
-- with all that the hands and clients kept.
use Rattle.std.specs.Prelude.{◌≡◌, ℕ, ◌+◌, ◌≤◌, ◌<◌, Bool, true, List, [], ◌∷◌, length, sum_by}
use Rattle.std.specs.Prelude.{filter_map, slice_get, Some, All, IsTrue}
use Rattle.std.specs.List.{list_all}
use Rattle.host_hand.specs.Frames.{frames_out}
use Rattle.host_hand.specs.Kept.{KeepsSession}
use Rattle.host_io.specs.declared.disk.Disk as disk
use Rattle.host_model.specs.declared.step.Step.{Step}
use Rattle.host_report.specs.declared.session.SessionReport.{SessionReport}
use Rattle.host_report.specs.Lawful.{is_of_sessions, pages_asked, ran_short}
use Rattle.host_session.specs.declared.hand.SessionHand.{SessionHand}
use Rattle.host_session.specs.Client.{ClientState}
use Rattle.host_session.specs.Plan.{IsHand}
use Rattle.host_session.specs.Whole.{IsSessionWhole}
use Rattle.host_log.specs.History.{Continues, entries_of}
use Rattle.host_turn.specs.Seats.{seen_by}
use Rattle.host_worker.specs.declared.hand.Hand.{Hand}
use Rattle.host_worker.specs.Accounts.{pages_attached, released_of}

-- What is left of a hand: the device's steps that it has seen, and what it has of each session.
pub record HandEnd : Type 0 where
  pub steps : List Step
  pub shares : List SessionHand

abbrev pub hand_end : {D : Type 0} {g : disk.Ghosts D} → Hand D g → HandEnd
hand_end hand = record { steps = seen_by hand.device_seat; shares = hand.sessions.items }

-- what contracts see of the ends: the sessions, whether they are kept, how many frames are home,
-- and the device's steps
pub record EndsState : Type 0 where
  pub sessions : List SessionReport
  pub keeps : Bool
  pub frames_home : ℕ
  pub story : List Step
  -- how long a block is
  pub size : ℕ

abbrev pub ends_seen : List SessionReport → Bool → ℕ → List Step → ℕ → EndsState
ends_seen ends keeps home steps length_of_block =
    record {
      sessions = ends;
      keeps = keeps;
      frames_home = home;
      story = steps;
      size = length_of_block;
    }

-- what the hands have of session k
abbrev pub shares_in : ℕ → List HandEnd → List SessionHand
shares_in k hands = filter_map (λ hand. slice_get hand.shares k) hands

-- Session k as it ended: whole, with its client and what its hands have of it, each of which keeps
-- what a hand keeps.
pub record IsSessionEnd (k : ℕ) (client : ClientState) (hands : List HandEnd) (e : SessionReport)
    : Type 0 where
  pub number_is : (e.number ≡ k + 1) × (client.plan.spec.number ≡ k + 1)
  pub plan : (e.part ≡ client.plan.spec.part_number) × (e.range ≡ client.plan.spec.part)
      × (client.plan.hands ≡ length hands)
  pub finish_is : client.finish ≡ Some e.finish
  pub there : (n : ℕ) (hand : HandEnd) → slice_get hands n ≡ Some hand → k < length hand.shares
  pub whole : IsSessionWhole client (shares_in k hands) e.log.items e.taken.items e.memory.items
  pub kept : (n : ℕ) (hand : HandEnd) (h : SessionHand) → slice_get hands n ≡ Some hand
      → slice_get hand.shares k ≡ Some h
      → IsHand client.plan n h × KeepsSession client.plan.spec n h hand.steps

-- The device's steps are those of the hands, and each is of one of so many sessions.
pub record IsStory (sessions : ℕ) (hands : List HandEnd) (story : List Step) : Type 0 where
  pub of_hands : (n : ℕ) (hand : HandEnd) → slice_get hands n ≡ Some hand
      → Continues (λ step. step.hand) n hand.steps story
  pub others : (n : ℕ) → length hands ≤ n → entries_of (λ step. step.hand) n story ≡ []
  pub named : (n : ℕ) (hand : HandEnd) → slice_get hands n ≡ Some hand
      → IsTrue (list_all (is_of_sessions sessions) (entries_of (λ step. step.hand) n hand.steps))

-- the pages that the hands took out of buffers
abbrev pub frames_by : ℕ → HandEnd → ℕ
frames_by n hand = sum_by (frames_out n) hand.shares

-- the pages that hands, counted from n, and clients took out of buffers
abbrev pub frames_from : ℕ → List HandEnd → ℕ
frames_from n [] = 0
frames_from n (hand ∷ hands) = frames_by n hand + frames_from (n + 1) hands

-- The ends of a server that had these clients and hands.
pub record AreEnded (clients : List ClientState) (hands : List HandEnd) (ends : EndsState)
    : Type 0 where
  pub count : length ends.sessions ≡ length clients
  pub each : (k : ℕ) (client : ClientState) (e : SessionReport) → slice_get clients k ≡ Some client
      → slice_get ends.sessions k ≡ Some e → IsSessionEnd k client hands e
  pub sizes : All (λ (client : ClientState). client.plan.spec.size ≡ ends.size) clients
  pub shares : All (λ (hand : HandEnd). length hand.shares ≡ length clients) hands
  pub steps : IsStory (length clients) hands ends.story
  -- frames that were attached are home as far as they were taken out of buffers, and a claim was
  -- refused only where the attaches asked for more than there are
  pub home : ends.frames_home + sum_by pages_attached clients
      ≡ 4096 + (frames_from 0 hands + sum_by released_of clients)
  pub short : ran_short ends.sessions ≡ true → 4096 < pages_asked ends.sessions

-- ends of some server that was started and finished
pub record IsEnded (ends : EndsState) : Type 0 where
  pub clients : List ClientState
  pub hands : List HandEnd
  pub are : AreEnded clients hands ends
