-- The closes that wait for pins.
use Rattle.std.specs.Prelude.{remove, ◌≡◌, ℕ, ◌≤◌, Bool, true, false, ◌==◌, List, length, slice_get}
use Rattle.std.specs.Prelude.{MatchOption, Some}
use Rattle.std.specs.List.{list_any}
use Rattle.atomic_table.specs.Seated.{TableId}
use Rattle.host_model.specs.Lists.{count}
use Rattle.host_group.specs.Seats.{seat_cells}
use Rattle.host_intake.specs.declared.waiting.Waiting.{Waiting}
use Rattle.host_intake.specs.Entries.{Taking, Landing, takings, landings}
use Rattle.host_intake.specs.Rights.{HasRight}
use Rattle.host_intake.specs.State.{IntakeState}
use Rattle.host_intake.specs.Told.{is_out}

-- a close of that index waits
abbrev pub is_waiting_at : ℕ → Waiting → Bool
is_waiting_at i w = w.envelope.index == i

-- the close that waits is that of a record that was taken so and is in flight
pub record IsRecordWaiting (cells : TableId) (ts : List Taking) (ls : List Landing) (w : Waiting)
    (t : Taking) : Type 0 where
  pub envelope : t.envelope ≡ w.envelope
  pub waits : t.waits ≡ true
  pub flying : is_out w.envelope.index (length ts) ls ≡ true
  pub right : HasRight cells ts t w.right

-- some taking of these is that of the close that waits
abbrev pub IsOfTaking : TableId → List Taking → List Landing → Waiting → Type 0
IsOfTaking cells ts ls w =
    MatchOption (slice_get ts w.envelope.index) ⊥ (λ t. IsRecordWaiting cells ts ls w t)

-- each close that waits is of a record in flight, and no two are of one record
pub record AreWaiting (cells : TableId) (ts : List Taking) (ls : List Landing) (ws : List Waiting)
    : Type 0 where
  pub each : (k : ℕ) (w : Waiting) → slice_get ws k ≡ Some w → IsOfTaking cells ts ls w
  pub apart : (i : ℕ) → count (is_waiting_at i) ws ≤ 1

-- The first close of that index left the list: it is that of a record in flight, and no other waits
-- for this record.
abbrev pub HasLeft : ℕ → IntakeState → IntakeState → Waiting → Type 0
HasLeft i old new w =
    (w.envelope.index ≡ i) × (new ≡ record old { waiting = new.waiting })
    × (list_any (is_waiting_at i) new.waiting ≡ false)
    × ((n : ℕ) × (new.waiting ≡ remove old.waiting n) × (slice_get old.waiting n ≡ Some w))
    × IsOfTaking (seat_cells old.cell_seat) (takings old.entries) (landings old.entries) w
