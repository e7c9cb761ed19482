-- A session as it was gathered, once its two ends were put together.
use Rattle.std.specs.Prelude.{◌≡◌, ℕ, ◌<◌, true, List, [], ◌∷◌, ◌++◌, take, is_some, slice_get}
use Rattle.std.specs.Prelude.{Some}
use Rattle.host_memory.specs.Held.{closer_of}
use Rattle.host_memory.specs.State.{events}
use Rattle.host_model.specs.declared.event.Event.{Event}
use Rattle.host_model.specs.declared.event.Event.TheVariants.{Drained}
use Rattle.host_model.specs.declared.memory.MemEntry.{MemEntry}
use Rattle.host_model.specs.declared.memory.MemEvent.TheVariants.{Release}
use Rattle.host_model.specs.Session.{Session}
use Rattle.host_session.specs.declared.hand.SessionHand.{SessionHand}
use Rattle.host_session.specs.Client.{ClientState, is_drained}
use Rattle.host_session.specs.Whole.{IsSessionWhole}

-- The session of this client end and these hands: its log, its rows, and the history h of its
-- buffers.
pub record IsSessionGathered (client : ClientState) (hands : List SessionHand) (h : List MemEntry)
    (s : Session) : Type 0 where
  pub whole : IsSessionWhole client hands s.log s.rows h
  pub size : s.size ≡ client.plan.spec.size
  pub range : s.range ≡ client.plan.spec.part
  pub memory : s.memory ≡ events h
  pub finish : client.finish ≡ Some s.finish

-- ---- what the ends of a session keep besides

-- a drained log ends with its end event
abbrev pub EndsDrained : ClientState → Type 0
EndsDrained client =
    is_drained client.finish ≡ true → (before : List Event) × (client.log ≡ before ++ Drained ∷ [])

-- a hand releases only buffers that were closed before; hands have the numbers below the client's
abbrev pub ReleaseClosed : ℕ → List MemEntry → Type 0
ReleaseClosed client h =
    (n v : ℕ) (e : MemEntry) → slice_get h n ≡ Some e → e.hand < client → e.what ≡ Release v
    → is_some (closer_of v (events (take n h))) ≡ true
