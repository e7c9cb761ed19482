-- How a session ends, as its client sees it.
use Rattle.std.specs.Prelude.{◌≡◌, ℕ, ◌≤◌, Bool, true, false, ◌&&◌, ◌||◌, nat_lt, List, [], ◌∷◌}
use Rattle.std.specs.Prelude.{◌++◌, length, filter, IsTrue, Option, None}
use Rattle.std.specs.List.{list_all, list_any}
use Rattle.host_intake.specs.declared.entry.IntakeEntry.{IntakeEntry}
use Rattle.host_intake.specs.declared.entry.IntakeEntry.TheVariants.{Turned}
use Rattle.host_intake.specs.Entries.{maker_of, takings}
use Rattle.host_intake.specs.Told.{flights_in, kept_slips, turns}
use Rattle.host_memory.specs.Held.{first_held}
use Rattle.host_memory.specs.Pins.{pins_left}
use Rattle.host_memory.specs.State.{events}
use Rattle.host_model.specs.declared.event.Event.{Event}
use Rattle.host_model.specs.declared.event.Event.TheVariants.{Aborted, Drained, Received}
use Rattle.host_model.specs.declared.memory.MemEntry.{MemEntry}
use Rattle.host_model.specs.Groups.{owed}
use Rattle.host_model.specs.Log.{received, requests, sent}
use Rattle.host_model.specs.Taking.{is_end}
use Rattle.host_record.specs.declared.finish.Finish.{Finish}
use Rattle.host_log.specs.History.{entries_of}
use Rattle.host_session.specs.Client.{ends_logged, is_aborted, is_drained, turns_made}
use Rattle.host_session.specs.Told.{is_release}

-- How many answers the client is owed for the records that it sent.
abbrev pub owed_count : List Event → ℕ
owed_count log = length (owed (requests log))

-- What keeps a session from being closed: a record in flight, a kept answer or a pin; and after a
-- drain a record that wasn't taken, or an answer that wasn't received. The intake's history and the
-- buffers' are those that were found.
abbrev pub is_undone : Option Finish → List Event → List IntakeEntry → List MemEntry → Bool
is_undone finish log es h =
    nat_lt 0 (flights_in es) || nat_lt 0 (length (kept_slips es))
    || nat_lt 0 (length (pins_left (events h)))
    || (is_drained finish
    && (nat_lt (length (takings es)) (length (sent log))
    || nat_lt (length (received log)) (owed_count log)))

-- Nothing is in flight or kept, and no buffer has pages; after a drain each record sent was taken,
-- and no fewer answers were received than are owed.
pub record IsSessionOver (finish : Option Finish) (log : List Event) (es : List IntakeEntry)
    (h : List MemEntry) : Type 0 where
  pub landed : flights_in es ≡ 0
  pub passed : length (kept_slips es) ≡ 0
  pub home : first_held (events h) ≡ None
  pub taken : is_drained finish ≡ true → length (sent log) ≤ length (takings es)
  pub answered : is_drained finish ≡ true → owed_count log ≤ length (received log)

-- an answer that was received
abbrev pub is_receipt : Event → Bool
is_receipt (Received bytes) = true
is_receipt _ = false

-- nothing but answers stands behind the drain
pub record IsDrainedLog (log : List Event) : Type 0 where
  pub before : List Event
  pub rest : List Event
  pub split : log ≡ before ++ Drained ∷ rest
  pub answers : IsTrue (list_all is_receipt rest)

abbrev pub is_turn : IntakeEntry → Bool
is_turn (Turned hand phase) = true
is_turn _ = false

-- How far the session is ended, by what the client has seen of the intake's history and of the
-- buffers'.
pub record IsEndedSoFar (client : ℕ) (finish : Option Finish) (closed : Bool) (log : List Event)
    (es : List IntakeEntry) (h : List MemEntry) : Type 0 where
  pub first : finish ≡ None → closed ≡ false
  pub turned : turns es ≡ turns_made finish closed
  pub logged : filter is_end log ≡ ends_logged finish closed
  pub last : is_aborted finish ≡ true → (before : List Event) × (log ≡ before ++ Aborted ∷ [])
  pub drained : is_drained finish ≡ true → closed ≡ true → IsDrainedLog log
  -- what the client did at the intake was to turn it
  pub own : IsTrue (list_all is_turn (entries_of maker_of client es))
  pub running : closed ≡ false
      → list_any is_release (events (entries_of (λ e. e.hand) client h)) ≡ false
  pub over : closed ≡ true → IsSessionOver finish log es h
