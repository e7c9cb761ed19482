-- What taking a record does: its verdict, and what it leaves in the buffer history.
use Rattle.std.specs.Prelude.{◌≡◌, ℕ, ◌+◌, ◌<◌, ◌≤◌, Bool, true, false, not, ◌==◌, ◌&&◌, List, []}
use Rattle.std.specs.Prelude.{◌∷◌, map, length, take, drop, flat_map, slice_get, Option, Some}
use Rattle.std.specs.Prelude.{MatchOption}
use Rattle.host_block.specs.declared.range.Range.{Range}
use Rattle.host_record.specs.declared.opcode.Opcode.{Opcode}
use Rattle.host_record.specs.declared.opcode.Opcode.TheVariants.{Read, Write, Close}
use Rattle.host_record.specs.Command.{opcode, is_close}
use Rattle.host_model.specs.declared.memory.MemEntry.{MemEntry}
use Rattle.host_model.specs.declared.memory.MemEvent.{MemEvent}
use Rattle.host_model.specs.declared.memory.MemEvent.TheVariants.{Pin, Release}
use Rattle.host_model.specs.declared.memory.MemEvent.TheVariants as mem
use Rattle.host_model.specs.declared.verdict.Verdict.{Verdict}
use Rattle.host_model.specs.declared.verdict.Verdict.TheVariants.{Accepted, Refused}
use Rattle.host_model.specs.Lists.{below}
use Rattle.host_model.specs.RecordEntries.{index_of}
use Rattle.host_model.specs.Verdict.{judged, is_accepted}
use Rattle.host_memory.specs.Held.{standing_in}
use Rattle.host_memory.specs.Pins.{pins_on}
use Rattle.host_memory.specs.State.{events}
use Rattle.host_log.specs.History.{entries_of}
use Rattle.host_intake.specs.Entries.{Taking, place_of, request_in}

-- What an accepted record does to its buffer as it is taken: a read or write pins it, a close
-- closes it, and lets its pages go unless it waits for pins.
abbrev pub made_for : Option Opcode → ℕ → ℕ → ℕ → Bool → List MemEvent
made_for (Some Read) index id hand waits = Pin index id hand ∷ []
made_for (Some Write) index id hand waits = Pin index id hand ∷ []
made_for (Some Close) index id hand true = mem.Close index id ∷ []
made_for (Some Close) index id hand false = mem.Close index id ∷ Release id ∷ []
made_for _ index id hand waits = []

-- a refused record does nothing
abbrev pub made_under : Verdict → List MemEvent → List MemEvent
made_under Accepted es = es
made_under (Refused status) es = []

abbrev pub made : Taking → List MemEvent
made t =
    made_under t.verdict
    (made_for (opcode (request_in t)) (place_of t) (request_in t).vmoid t.hand t.waits)

-- these events, under one number
abbrev pub under : ℕ → List MemEvent → List MemEntry
under number es = map (λ (what : MemEvent). record { hand = number; what = what }) es

-- the entries that a taking left, under the admissions' number
abbrev pub left_by : ℕ → Taking → List MemEntry
left_by number t = under number (made t)

-- the buffer history on which a record was judged, as a part of the whole
abbrev pub judged_on : List MemEntry → Taking → List MemEvent
judged_on whole t = events (take t.seen whole)

-- The record was judged on a beginning of the history that is no shorter than its envelope's memory
-- front, and what it did to its buffer stands right after that beginning.
pub record IsJudged (part : Range) (number : ℕ) (whole : List MemEntry) (t : Taking) : Type 0 where
  pub front : t.envelope.memory_front ≤ t.seen
  pub seen : t.seen ≤ length whole
  pub verdict : t.verdict
      ≡ judged part (standing_in (request_in t).vmoid (place_of t) (judged_on whole t))
      (request_in t)
  pub waits : t.waits
      ≡ (is_accepted t.verdict && is_close (opcode (request_in t))
      && not (pins_on (request_in t).vmoid (judged_on whole t) == 0))
  pub left : take (length (made t)) (drop t.seen whole) ≡ left_by number t

-- an entry that was made for a record stands, at place n, not within the beginning on which that
-- record was judged, and the record is one of these
abbrev pub IsPastJudging : List Taking → ℕ → MemEvent → Type 0
IsPastJudging ts n e =
    MatchOption (index_of e) (Unit {0}) (λ i. MatchOption (slice_get ts i) ⊥ (λ t. t.seen ≤ n))

-- The records taken have the indexes 0, 1, 2 and so on, and were judged one by one. The entries of
-- the admissions are those that taking them left, in order. A record was judged on a beginning of
-- the history, which is no shorter than the memory front that its envelope carries: its own pin or
-- close comes after that beginning, and all that an earlier record left lies within it.
pub record AreTaken (part : Range) (number : ℕ) (whole : List MemEntry) (ts : List Taking)
    : Type 0 where
  pub indexes : map place_of ts ≡ below (length ts)
  pub judged : (i : ℕ) (t : Taking) → slice_get ts i ≡ Some t → IsJudged part number whole t
  pub left : entries_of (λ e. e.hand) number whole ≡ flat_map (left_by number) ts
  pub order : (n : ℕ) (e : MemEntry) → slice_get whole n ≡ Some e → e.hand ≡ number
      → IsPastJudging ts n e.what
  pub rising : (i k : ℕ) (t u : Taking) → slice_get ts i ≡ Some t → slice_get ts k ≡ Some u → i < k
      → t.seen + length (made t) ≤ u.seen
