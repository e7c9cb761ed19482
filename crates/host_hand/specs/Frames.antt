-- How many pages a hand took out of buffers.
use Rattle.std.specs.Prelude.{ℕ, ◌+◌, Bool, ◌==◌, ◌&&◌, not, if◌then◌else◌, List, sum, map, filter}
use Rattle.std.specs.Prelude.{Option, Some, None}
use Rattle.host_record.specs.Command.{opcode, is_close}
use Rattle.host_model.specs.declared.memory.MemEntry.{MemEntry}
use Rattle.host_model.specs.declared.memory.MemEvent.{MemEvent}
use Rattle.host_model.specs.declared.memory.MemEvent.TheVariants.{Release}
use Rattle.host_model.specs.Lists.{map_with_before}
use Rattle.host_model.specs.Verdict.{is_accepted}
use Rattle.host_memory.specs.Held.{page_count_of}
use Rattle.host_memory.specs.State.{events}
use Rattle.host_log.specs.History.{entries_of}
use Rattle.host_intake.specs.declared.entry.IntakeEntry.{IntakeEntry}
use Rattle.host_intake.specs.Entries.{Taking, maker_of, request_in, takings}
use Rattle.host_intake.specs.Takings.{judged_on}
use Rattle.host_session.specs.declared.hand.SessionHand.{SessionHand}
use Rattle.host_turn.specs.Seats.{seen_by}

-- the pages of the buffer that an entry releases
abbrev pub pages_released_in : List MemEntry → MemEvent → Option ℕ
pages_released_in before (Release id) = Some (page_count_of id (events before))
pages_released_in before _ = None

abbrev pub pages_by : ℕ → List MemEntry → MemEntry → Option ℕ
pages_by n before e = if e.hand == n then pages_released_in before e.what else None

-- the pages of the buffers that hand n released
abbrev pub released_by : ℕ → List MemEntry → ℕ
released_by n h = sum (map_with_before (pages_by n) h)

-- the record closed a buffer that nothing pinned, so that its pages came out
abbrev pub is_closer : Taking → Bool
is_closer t = is_accepted t.verdict && is_close (opcode (request_in t)) && not t.waits

-- the pages of the buffer that a record closed
abbrev pub pages_named : List MemEntry → Taking → ℕ
pages_named h t = page_count_of (request_in t).vmoid (judged_on h t)

-- the pages of the buffers that the closes took out, of the records that hand n took
abbrev pub closed_by : ℕ → List IntakeEntry → List MemEntry → ℕ
closed_by n es h = sum (map (pages_named h) (filter is_closer (takings (entries_of maker_of n es))))

-- all pages that hand n took out of buffers
abbrev pub taken_out : ℕ → List IntakeEntry → List MemEntry → ℕ
taken_out n es h = released_by n h + closed_by n es h

-- the same, as its seats have seen it
abbrev pub frames_out : ℕ → SessionHand → ℕ
frames_out n hand = taken_out n (seen_by hand.intake) (seen_by hand.memory)
