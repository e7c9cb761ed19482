-- What the hands have of the sessions: dealt out at the start, and taken back at the end.
use Rattle.std.specs.Prelude.{◌≡◌, ℕ, ◌≤◌, List, [], ◌∷◌, ◌++◌, length, map, slice_get, Some}
use Rattle.std.specs.Prelude.{vec_capacity}
use Rattle.atomic_table.specs.Seated.{TableId}
use Rattle.host_session.specs.declared.hand.SessionHand.{SessionHand}
use Rattle.host_session.specs.declared.spec.SessionSpec.{SessionSpec}
use Rattle.host_session.specs.Client.{ClientState}
use Rattle.host_session.specs.Plan.{IsFreshHand, IsHand, IsShared}
use Rattle.host_worker.specs.declared.session.Session.{Session}
use Rattle.host_worker.specs.Servers.{plan_of_session, shared_of}

-- the specs of the sessions, and their clients as they were opened
abbrev pub specs_of : List Session → List SessionSpec
specs_of sessions = map (λ s. s.spec) sessions

abbrev pub openings_of : List Session → List ClientState
openings_of sessions = map (λ s. s.opened.value) sessions

-- a session that has its first n hands
pub record HasHands (n : ℕ) (s : Session) : Type 0 where
  pub count : length s.hands.items ≡ n
  pub each : (k : ℕ) (h : SessionHand) → slice_get s.hands.items k ≡ Some h
      → IsHand (plan_of_session s) k h × IsFreshHand h

-- a session that was opened for so many hands, and has the first n of them still
pub record IsSessionOpenedFor (hands n : ℕ) (pool : TableId × ℕ) (s : Session) : Type 0 where
  pub spec : (plan_of_session s).spec ≡ s.spec
  pub plan : ((plan_of_session s).hands ≡ hands) × ((plan_of_session s).pool ≡ pool)
  pub shared : IsShared (plan_of_session s) (shared_of s)
  pub dealt : HasHands n s
  pub room : hands ≤ vec_capacity s.hands

abbrev pub AreOpenedFor : ℕ → ℕ → TableId × ℕ → List Session → Type 0
AreOpenedFor hands n pool sessions =
    (k : ℕ) (s : Session) → slice_get sessions k ≡ Some s → IsSessionOpenedFor hands n pool s

-- The second is the first session with one hand more.
pub record HasOneMore (less more : Session) (h : SessionHand) : Type 0 where
  pub same : (more.spec ≡ less.spec) × (more.shared ≡ less.shared) × (more.opened ≡ less.opened)
  pub hands : more.hands.items ≡ less.hands.items ++ h ∷ []
  pub room : vec_capacity more.hands ≡ vec_capacity less.hands

-- Each session has one hand more: its own part of a share.
pub record HaveOneMore (less more : List Session) (share : List SessionHand) : Type 0 where
  pub count : (length more ≡ length less) × (length share ≡ length less)
  pub each : (k : ℕ) (s s' : Session) (h : SessionHand) → slice_get less k ≡ Some s
      → slice_get more k ≡ Some s' → slice_get share k ≡ Some h → HasOneMore s s' h

-- what hand n has of sessions that were opened so: nothing done yet
pub record IsNewShare (openings : List ClientState) (n : ℕ) (share : List SessionHand)
    : Type 0 where
  pub count : length share ≡ length openings
  pub each : (k : ℕ) (c : ClientState) (h : SessionHand) → slice_get openings k ≡ Some c
      → slice_get share k ≡ Some h → IsHand c.plan n h × IsFreshHand h
