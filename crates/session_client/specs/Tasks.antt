-- A record that a hand took and has yet to end.
use Rattle.std.specs.Prelude.{◌≡◌, ℕ, Bool, false, not, ◌&&◌, if◌then◌else◌, List, slice_get}
use Rattle.std.specs.Prelude.{Option, Some}
use Rattle.std.specs.List.{list_any}
use Rattle.atomic_table.specs.Seated.{TableId}
use Rattle.host_group.specs.declared.seat.CellSeat.{CellSeat}
use Rattle.host_intake.specs.declared.entry.IntakeEntry.{IntakeEntry}
use Rattle.host_intake.specs.Entries.{Taking, is_landing_of, landings, maker_of, takings}
use Rattle.host_intake.specs.Rights.{HasRight}
use Rattle.host_rings.specs.declared.envelope.Envelope.{Envelope}
use Rattle.host_record.specs.declared.status.Status.TheVariants as status
use Rattle.host_record.specs.Command.{is_close, opcode}
use Rattle.host_record.specs.Request.{request_of}
use Rattle.host_log.specs.History.{entries_of}
use Rattle.session_client.specs.declared.task.Taken.{Taken}
use Rattle.session_client.specs.declared.task.Taken.TheVariants as taken
use Rattle.session_client.specs.declared.task.Task.{Task}

-- The hand took it so, it doesn't wait for pins, and the hand hasn't told its end.
pub record IsOwnOpen (hand : ℕ) (es : List IntakeEntry) (e : Envelope) (t : Taking) : Type 0 where
  pub at : slice_get (takings es) e.index ≡ Some t
  pub envelope : t.envelope ≡ e
  pub by : t.hand ≡ hand
  pub stays : t.waits ≡ false
  pub open_still : list_any (is_landing_of e.index) (landings (entries_of maker_of hand es)) ≡ false

-- the hand is to end this record; the history is that of the intake, as far as it was seen
pub record IsToDo (cells : TableId) (hand : ℕ) (es : List IntakeEntry) (task : Task) : Type 0 where
  pub taking : Taking
  pub own : IsOwnOpen hand es task.envelope taking
  pub right : HasRight cells (takings es) taking task.right

-- what was taken is to be done
abbrev pub IsTakenToDo : TableId → ℕ → List IntakeEntry → Taken → Type 0
IsTakenToDo cells hand es (taken.ToDo task) = IsToDo cells hand es task
IsTakenToDo cells hand es _ = Unit {0}

-- What becomes of an accepted record: a close that comes without pages waits, and every other is to
-- end well.
abbrev pub taken_with : Envelope → Bool → Option CellSeat → Taken
taken_with e pages right =
    if is_close (opcode (request_of e.bytes)) && not pages then taken.Waits
    else taken.ToDo (record { envelope = e; outcome = status.Ok; right = right })
