-- What the history of an intake tells: the phase, the records in flight, the answers kept, and the
-- rows.
use Rattle.std.specs.Prelude.{ℕ, ◌-◌, Bool, true, false, not, ◌&&◌, nat_lt, if◌then◌else◌, List, []}
use Rattle.std.specs.Prelude.{length, map, filter_map, drop, find, Option, Some, None}
use Rattle.std.specs.List.{list_any}
use Rattle.std.specs.Option.{option_map_or}
use Rattle.host_record.specs.declared.status.Status.{Status}
use Rattle.host_record.specs.declared.status.Status.TheVariants as status
use Rattle.host_model.specs.declared.row.TakenRow.{TakenRow}
use Rattle.host_model.specs.Lists.{count, last}
use Rattle.host_group.specs.Ends.{greatest}
use Rattle.host_rings.specs.declared.slip.Slip.{Slip}
use Rattle.host_intake.specs.declared.entry.IntakeEntry.{IntakeEntry}
use Rattle.host_intake.specs.declared.entry.IntakeEntry.TheVariants.{Landed, Passed, Turned}
use Rattle.host_intake.specs.declared.entry.Phase.{Phase}
use Rattle.host_intake.specs.declared.entry.Phase.TheVariants.{Running, Draining, Aborted, Closed}
use Rattle.host_intake.specs.Entries.{Taking, Landing, takings, landings, place_of, is_landing_of}

-- ---- the phase

abbrev pub turn_of : IntakeEntry → Option Phase
turn_of (Turned hand phase) = Some phase
turn_of _ = None

-- the phases that the session was turned to, in order
abbrev pub turns : List IntakeEntry → List Phase
turns es = filter_map turn_of es

abbrev pub phase_in : List IntakeEntry → Phase
phase_in es = last Running (turns es)

abbrev pub is_aborted_phase : Phase → Bool
is_aborted_phase Aborted = true
is_aborted_phase _ = false

-- no record is taken any more
abbrev pub is_over : Phase → Bool
is_over Aborted = true
is_over Closed = true
is_over _ = false

-- the session was told to end
abbrev pub is_ending : Phase → Bool
is_ending Draining = true
is_ending Aborted = true
is_ending _ = false

-- the session was aborted at some time
abbrev pub was_aborted : List IntakeEntry → Bool
was_aborted es = list_any is_aborted_phase (turns es)

-- ---- the records in flight

abbrev pub flights_in : List IntakeEntry → ℕ
flights_in es = length (takings es) - length (landings es)

-- whether record i is none of those that ended
abbrev pub is_open : List Landing → ℕ → Bool
is_open ls i = not (list_any (is_landing_of i) ls)

-- whether record i is one of so many that were taken, and has not ended
abbrev pub is_out : ℕ → ℕ → List Landing → Bool
is_out i n ls = nat_lt i n && is_open ls i

abbrev pub is_flying : ℕ → List IntakeEntry → Bool
is_flying i es = is_out i (length (takings es)) (landings es)

-- ---- the answers kept

abbrev pub kept_by : IntakeEntry → Option Slip
kept_by (Landed hand index end answer true) = answer
kept_by _ = None

abbrev pub is_passed : IntakeEntry → Bool
is_passed (Passed hand) = true
is_passed _ = false

-- the answers that wait to be handed on, the oldest first; none once the session was aborted
abbrev pub kept_slips : List IntakeEntry → List Slip
kept_slips es = if was_aborted es then [] else drop (count is_passed es) (filter_map kept_by es)

-- ---- fronts and rows

abbrev pub seen_of : Taking → ℕ
seen_of t = t.seen

-- the greatest beginning of the buffer history on which a verdict was judged
abbrev pub memory_front_in : List IntakeEntry → ℕ
memory_front_in es = greatest (map seen_of (takings es))

-- how a record ended; Ok before that
abbrev pub outcome_in : List Landing → ℕ → Status
outcome_in ls i = option_map_or (λ l. l.end.outcome) (find (is_landing_of i) ls) status.Ok

abbrev pub row_in : List Landing → Taking → TakenRow
row_in ls t = record { verdict = t.verdict; outcome = outcome_in ls (place_of t) }

-- the rows of the records taken, by their index
abbrev pub rows_in : List IntakeEntry → List TakenRow
rows_in es = map (row_in (landings es)) (takings es)
