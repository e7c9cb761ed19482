-- How the fronts that a client end knows grow from act to act.
use Rattle.std.specs.Prelude.{◌≡◌, ℕ, ◌<◌, ◌≤◌, List, slice_get, Some}
use Rattle.host_model.specs.declared.event.Event.{Event}
use Rattle.host_model.specs.declared.memory.MemEntry.{MemEntry}
use Rattle.host_rings.specs.declared.envelope.Envelope.{Envelope}
use Rattle.host_rings.specs.declared.slip.Slip.{Slip}
use Rattle.host_session.specs.declared.fronts.Fronts.{Fronts}
use Rattle.host_session.specs.Acts.{Act, IsCourse, entry_place}
use Rattle.host_session.specs.Client.{AreWithin, slip_fronts}

-- the fronts in an envelope
abbrev pub envelope_fronts : Envelope → Fronts
envelope_fronts e = record { device = e.device_front; memory = e.memory_front }

-- From act to act a client end only knows more of both histories. An envelope carries what is known
-- when it is sent: so it reaches as far as the slips that came earlier, and past all that the
-- client has entered by then. No entry of the client goes before what it knew after an earlier act.
pub record DoFrontsRise (acts : List Act) : Type 0 where
  pub known : (m n : ℕ) (a b : Act) → slice_get acts m ≡ Some a → slice_get acts n ≡ Some b → m ≤ n
      → AreWithin a.fronts b.fronts
  pub sent : (n : ℕ) (b : Act) (e : Envelope) → slice_get acts n ≡ Some b → b.envelope ≡ Some e
      → envelope_fronts e ≡ b.fronts
  pub received : (m n : ℕ) (a b : Act) (s : Slip) → slice_get acts m ≡ Some a
      → slice_get acts n ≡ Some b → m ≤ n → a.slip ≡ Some s → AreWithin (slip_fronts s) b.fronts
  pub entered : (m n p : ℕ) (a b : Act) → slice_get acts m ≡ Some a → slice_get acts n ≡ Some b
      → m ≤ n → entry_place a ≡ Some p → p < b.fronts.memory
  pub late : (m n p : ℕ) (a b : Act) → slice_get acts m ≡ Some a → slice_get acts n ≡ Some b → m < n
      → entry_place b ≡ Some p → a.fronts.memory ≤ p

abbrev pub FrontsRise : Type 0
FrontsRise =
    (log : List Event) (pushed : List Envelope) (taken : List Slip) (h : List MemEntry)
    (known : Fronts) (acts : List Act) → IsCourse log pushed taken h known acts
    → DoFrontsRise acts
