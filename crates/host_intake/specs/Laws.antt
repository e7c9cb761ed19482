-- Laws over the definitions.
use Rattle.std.specs.Prelude.{◌≡◌, ℕ, ◌<◌, ◌≤◌, true, false, List, length, map, filter_map}
use Rattle.std.specs.Prelude.{slice_get, is_some, Option, Some, IsTrue}
use Rattle.std.specs.List.{list_all, list_any}
use Rattle.host_block.specs.declared.range.Range.{Range}
use Rattle.host_record.specs.declared.request.Request.{Request}
use Rattle.host_record.specs.Status.{status_number}
use Rattle.host_group.specs.declared.group_end.GroupEnd.{GroupEnd}
use Rattle.host_group.specs.declared.view.Member.{Member}
use Rattle.host_group.specs.declared.view.Row.{Row}
use Rattle.host_group.specs.Ends.{IsEnd, instance_rows, row_of}
use Rattle.host_memory.specs.Held.{attachment_by, closer_of, is_released}
use Rattle.host_memory.specs.Numbers.{is_numbered}
use Rattle.host_model.specs.declared.memory.MemEntry.{MemEntry}
use Rattle.host_model.specs.declared.memory.MemEvent.{MemEvent}
use Rattle.host_model.specs.declared.row.TakenRow.{TakenRow}
use Rattle.host_model.specs.Answers.{answer}
use Rattle.host_model.specs.ClientEntries.{lent_in}
use Rattle.host_model.specs.Taking.{row_at}
use Rattle.host_model.specs.Verdict.{verdicts_on}
use Rattle.host_log.specs.History.{entries_of}
use Rattle.host_intake.specs.declared.entry.IntakeEntry.{IntakeEntry}
use Rattle.host_intake.specs.Entries.{Taking, is_landing_of, landings, maker_of, request_in}
use Rattle.host_intake.specs.Entries.{requests_of, takings}
use Rattle.host_intake.specs.Members.{AreLanded, member_at, members}
use Rattle.host_intake.specs.Takings.{AreTaken, judged_on}
use Rattle.host_intake.specs.Told.{is_flying}

-- buffer v was attached once at most in this history, and released only where a record closed it
abbrev pub IsUnforced : ℕ → List MemEvent → Type 0
IsUnforced v h =
    (length (filter_map (attachment_by v) h) ≤ 1)
    × (is_released v h ≡ true → is_some (closer_of v h) ≡ true)

-- what the history on which record i was judged lends to it
abbrev pub Lends : (ℕ → ℕ → Option ℕ) → List MemEntry → ℕ → Taking → Type 0
Lends lent whole i t =
    let v = (request_in t).vmoid in
    IsUnforced v (judged_on whole t) × (lent_in (judged_on whole t) i v ≡ lent i v)

-- While no buffer was released but by a close, the verdicts on the records taken are those of the
-- definition.
abbrev pub VerdictsAreDefined : Type 0
VerdictsAreDefined =
    (part : Range) (client number : ℕ) (whole : List MemEntry) (ts : List Taking)
    → AreTaken part number whole ts → IsTrue (list_all (is_numbered client number) whole)
    → (lent : ℕ → ℕ → Option ℕ)
    → ((i : ℕ) (t : Taking) → slice_get ts i ≡ Some t → Lends lent whole i t)
    → map (λ t. t.verdict) ts ≡ verdicts_on (requests_of ts) lent part (length ts)

-- each member came back with the outcome that its record has
abbrev pub HaveOutcomes : List Request → List TakenRow → List Row → Type 0
HaveOutcomes rs rows back =
    (i : ℕ) (m : Member) → member_at rs i ≡ Some m
    → ((row_of back m).member ≡ m) × ((row_of back m).status ≡ (row_at rows i).outcome)

-- The end of an instance, as the cells tell it, is the answer of the record that closed it.
abbrev pub EndsAreAnswers : Type 0
EndsAreAnswers =
    (rs : List Request) (rows : List TakenRow) (back : List Row) (g j : ℕ) (e : GroupEnd)
    → HaveOutcomes rs rows back → IsEnd (instance_rows g j (members rs) back) e
    → (e.index < length rs)
    × (answer rs rows e.index
    ≡ record { status = status_number e.status; reqid = e.reqid; group = g; count = e.count })

-- A record that a hand took, that doesn't wait for pins, and whose end the hand itself has not told
-- is in flight.
abbrev pub OwnRecordsFly : Type 0
OwnRecordsFly =
    (es : List IntakeEntry) (hand i : ℕ) (t : Taking) → AreLanded (takings es) (landings es)
    → slice_get (takings es) i ≡ Some t → t.hand ≡ hand → t.waits ≡ false
    → list_any (is_landing_of i) (landings (entries_of maker_of hand es)) ≡ false
    → IsTrue (is_flying i es)
