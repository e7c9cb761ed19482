-- The history of an intake: a read that pins its buffer, a close of a buffer that isn't there, and
-- a close that waits for the read.
use Rattle.std.specs.Prelude.{◌≡◌, ℕ, true, false, List, [], ◌∷◌, ◌++◌, replicate, Some, None}
use Rattle.host_block.specs.declared.range.Range.{Range}
use Rattle.host_group.specs.Seats.{member}
use Rattle.host_intake.specs.Admissions.{taking_entry}
use Rattle.host_intake.specs.Answers.{lone_slip}
use Rattle.host_intake.specs.Entries.{Taking, takings}
use Rattle.host_intake.specs.Ledgers.{is_course}
use Rattle.host_intake.specs.Members.{is_lander, member_at}
use Rattle.host_intake.specs.Takings.{IsJudged, under}
use Rattle.host_intake.specs.Told.{flights_in, is_flying, kept_slips, memory_front_in, phase_in}
use Rattle.host_intake.specs.Told.{rows_in}
use Rattle.host_intake.specs.declared.entry.IntakeEntry.{IntakeEntry}
use Rattle.host_intake.specs.declared.entry.IntakeEntry.TheVariants.{Landed, Passed, Turned}
use Rattle.host_intake.specs.declared.entry.Phase.TheVariants.{Running, Draining, Aborted, Closed}
use Rattle.host_intake.specs.declared.entry.RecordEnd.{RecordEnd}
use Rattle.host_model.specs.declared.memory.MemEntry.{MemEntry}
use Rattle.host_model.specs.declared.memory.MemEvent.TheVariants as mem
use Rattle.host_model.specs.declared.verdict.Verdict.TheVariants.{Accepted, Refused}
use Rattle.host_record.specs.Request.{request_bytes}
use Rattle.host_record.specs.declared.request.Request.{Request}
use Rattle.host_record.specs.declared.status.Status.{Status}
use Rattle.host_record.specs.declared.status.Status.TheVariants as status
use Rattle.host_rings.specs.declared.envelope.Envelope.{Envelope}
use Rattle.host_rings.specs.declared.slip.Slip.{Slip}

abbrev pub part : Range
part = record { first = 34; count = 30 }

-- a request for one block, from the second page of a buffer
abbrev pub asked : ℕ → ℕ → ℕ → ℕ → Request
asked command reqid group vmoid = record {
  command = command;
  reqid = reqid;
  group = group;
  vmoid = vmoid;
  length = 1;
  vmo_offset = 1;
  dev_offset = 0;
}

-- it is sent once the client knows one entry of the buffers' history
abbrev pub sent : ℕ → Request → Envelope
sent i r = record { bytes = request_bytes r; index = i; device_front = 0; memory_front = 1 }

-- ---- what was done to the buffers: the client's number is 1, that of the admissions 2
abbrev pub buffers : List MemEntry
buffers = under 1 (mem.Attach 1 2 0 ∷ []) ++ under 2 (mem.Pin 0 1 0 ∷ mem.Close 2 1 ∷ [])
    ++ under 0 (mem.Done 0 1 ∷ mem.Release 1 ∷ [])

-- ---- the records taken
abbrev pub read : Taking
read = record {
  hand = 0;
  envelope = sent 0 (asked 1 10 0 1);
  verdict = Accepted;
  waits = false;
  seen = 1;
}

abbrev pub stray : Taking
stray = record {
  hand = 0;
  envelope = sent 1 (asked 5 11 0 9);
  verdict = Refused status.NotFound;
  waits = false;
  seen = 2;
}

abbrev pub close : Taking
close = record {
  hand = 0;
  envelope = sent 2 (asked 5 12 0 1);
  verdict = Accepted;
  waits = true;
  seen = 2;
}

-- ---- the intake's history
abbrev pub ended : Status → RecordEnd
ended s = record { outcome = s; device_front = 0; memory_front = 2 }

abbrev pub stray_answer : Slip
stray_answer = lone_slip (asked 5 11 0 9) 1 (ended status.NotFound)

-- the close of no buffer ended, with its answer kept; then the read did
abbrev pub course : List IntakeEntry
course =
    taking_entry read ∷ taking_entry stray
    ∷ Landed 0 1 (ended status.NotFound) (Some stray_answer) true ∷ taking_entry close
    ∷ Landed 0 0 (ended status.Ok) (Some (lone_slip (asked 1 10 0 1) 0 (ended status.Ok))) false
    ∷ []

-- ---- members
-- a group of two, a lone flush, and the number used again
abbrev pub flushes : List Request
flushes = asked 0x803 20 3 0 ∷ asked 0xc03 21 3 0 ∷ asked 3 22 0 0 ∷ asked 0xc03 23 3 0 ∷ []

pub record IntakesAreAsWritten : Type 0 where
  pub read_is_judged : IsJudged part 2 buffers read
  pub stray_is_judged : IsJudged part 2 buffers stray
  pub close_is_judged : IsJudged part 2 buffers close
  -- judged on less than its envelope's front
  pub before_its_front : ¬ IsJudged part 2 buffers (record read { seen = 0 })
  -- accepted, though its buffer was never given
  pub of_no_buffer : ¬ IsJudged part 2 buffers (record stray { verdict = Accepted })
  -- it doesn't wait, though the read has pinned its buffer
  pub too_hasty : ¬ IsJudged part 2 buffers (record close { waits = false })
  -- its pin stands elsewhere than right after what it was judged on
  pub pinned_elsewhere : ¬ IsJudged part 2 buffers (record read { seen = 2 })
  pub answer_bytes : stray_answer.bytes ≡ 0xe7 ∷ 0xff ∷ 0xff ∷ 0xff ∷ 11 ∷ 0 ∷ 0 ∷ 0 ∷ 0 ∷ 0 ∷ 0 ∷ 0
      ∷ 1 ∷ 0 ∷ 0 ∷ 0 ∷ replicate 16 0
  pub taken_in_order : takings course ≡ read ∷ stray ∷ close ∷ []
  -- the waiting close is in flight
  pub in_flight : (flights_in course ≡ 1) × (is_flying 0 course ≡ false)
      × (is_flying 1 course ≡ false) × (is_flying 2 course ≡ true) × (is_flying 3 course ≡ false)
  pub rows : rows_in course ≡ record { verdict = Accepted; outcome = status.Ok }
      ∷ record { verdict = Refused status.NotFound; outcome = status.NotFound } ∷ record {
        verdict = Accepted;
        outcome = status.Ok;
      } ∷ []
  pub front : memory_front_in course ≡ 2
  -- one answer is kept, until it is handed on or the session is aborted
  pub kept : (kept_slips course ≡ stray_answer ∷ []) × (kept_slips (course ++ Passed 0 ∷ []) ≡ [])
      × (kept_slips (course ++ Turned 1 Aborted ∷ []) ≡ [])
  -- the hand that took a record tells its end; any hand tells that of a close that waited
  pub landers : (is_lander 0 0 (takings course) ≡ true) × (is_lander 3 0 (takings course) ≡ false)
      × (is_lander 3 2 (takings course) ≡ true) × (is_lander 0 3 (takings course) ≡ false)
  pub phases : (phase_in course ≡ Running) × (phase_in (course ++ Turned 1 Draining ∷ [])
      ≡ Draining) × (phase_in (course ++ Turned 1 Draining ∷ Turned 1 Closed ∷ []) ≡ Closed)
  -- a session is told to end before it is closed, and once
  pub courses : (is_course (Aborted ∷ Closed ∷ []) ≡ true) × (is_course (Closed ∷ []) ≡ false)
      × (is_course (Draining ∷ Aborted ∷ []) ≡ false) × (is_course (Draining ∷ Closed ∷ Closed ∷ [])
      ≡ false)
  pub members_are : (member_at flushes 0 ≡ Some (member 3 0 0 20 false))
      × (member_at flushes 1 ≡ Some (member 3 0 1 21 true)) × (member_at flushes 2 ≡ None)
      × (member_at flushes 3 ≡ Some (member 3 1 3 23 true))
