-- What an intake keeps beside its history, so that it need not look through it.
use Rattle.std.specs.Prelude.{◌≡◌, ℕ, ◌+◌, ◌*◌, ◌≤◌, Bool, true, false, not, ◌&&◌, nat_lt}
use Rattle.std.specs.Prelude.{if◌then◌else◌, option_to_list, Option, List, [], ◌∷◌, length, map}
use Rattle.std.specs.Prelude.{filter_map, IsTrue}
use Rattle.std.specs.List.{list_all}
use Rattle.host_block.specs.Room.{WithRoom}
use Rattle.host_model.specs.declared.row.TakenRow.{TakenRow}
use Rattle.host_model.specs.Lists.{all_with_before, below, count, is_nil}
use Rattle.host_rings.specs.declared.slip.Slip.{Slip}
use Rattle.host_intake.specs.declared.entry.IntakeEntry.{IntakeEntry}
use Rattle.host_intake.specs.declared.entry.IntakeEntry.TheVariants.{Took}
use Rattle.host_intake.specs.declared.entry.Phase.{Phase}
use Rattle.host_intake.specs.declared.entry.Phase.TheVariants.{Closed}
use Rattle.host_intake.specs.Entries.{Landing, takings, landings, place_of}
use Rattle.host_intake.specs.Told.{is_aborted_phase, is_open, phase_in, turns, is_ending, kept_by}
use Rattle.host_intake.specs.Told.{kept_slips, is_passed, memory_front_in, rows_in}

-- a ledger, as contracts see it: for how many records it has room, whether their rows are kept, and
-- the history
pub record LedgerState : Type 0 where
  pub room : ℕ
  pub keeps : Bool
  pub entries : List IntakeEntry

abbrev pub is_shut : Phase → Bool
is_shut Closed = true
is_shut _ = false

-- the phases that may follow the first one
abbrev pub is_last_turn : List Phase → Bool
is_last_turn [] = true
is_last_turn (p ∷ ps) = is_shut p && is_nil ps

-- the answer that a record's end leaves with the intake, if it is to be kept and the session wasn't
-- aborted
abbrev pub slips_to_keep : Phase → Bool → Option Slip → List Slip
slips_to_keep phase kept answer =
    if kept && not (is_aborted_phase phase) then option_to_list answer else []

-- a session runs, is told to end, and is closed
abbrev pub is_course : List Phase → Bool
is_course [] = true
is_course (p ∷ ps) = is_ending p && is_last_turn ps

-- a record is taken only before the session is closed
abbrev pub is_taken_open : List IntakeEntry → IntakeEntry → Bool
is_taken_open before (Took hand envelope verdict waits seen) = not (is_shut (phase_in before))
is_taken_open before _ = true

-- the record that ended is one of the first n
abbrev pub is_before : ℕ → Landing → Bool
is_before n l = nat_lt l.index n

-- what is kept is what the history tells, and there is room for all entries that may come
pub record IsLedger (room : ℕ) (l : WithRoom IntakeEntry) (phase : Phase) (flights : ℕ)
    (kept : List Slip) (front : ℕ) : Type 0 where
  pub has_room : 3 * room + 2 ≤ l.room
  pub few : length (takings l.items) ≤ room
  pub indexes : map place_of (takings l.items) ≡ below (length (takings l.items))
  pub once : length (landings l.items)
      + count (is_open (landings l.items)) (below (length (takings l.items)))
      ≡ length (takings l.items)
  pub within : IsTrue (list_all (is_before (length (takings l.items))) (landings l.items))
  pub course : IsTrue (is_course (turns l.items))
  pub passed : count is_passed l.items ≤ length (filter_map kept_by l.items)
  pub phase_is : phase ≡ phase_in l.items
  pub over : phase_in l.items ≡ Closed → flights ≡ 0
  pub before_close : IsTrue (all_with_before is_taken_open l.items)
  pub flights_are : flights + length (landings l.items) ≡ length (takings l.items)
  pub kept_are : kept ≡ kept_slips l.items
  pub limit : flights + length kept ≤ 64
  pub front_is : front ≡ memory_front_in l.items
