-- How a record is carried out.
use Rattle.std.specs.Prelude.{◌≡◌, ℕ, ◌+◌, ◌≤◌, ◌++◌, List, All, IsTrue, length, Option, Some}
use Rattle.atomic_table.specs.Seated.{TableId}
use Rattle.host_block.specs.declared.op.Op.{Op}
use Rattle.host_block.specs.declared.op.Op.TheVariants.{Read, Write, Trim, Flush}
use Rattle.host_frames.specs.Seats.{contents, pages_pool}
use Rattle.host_intake.specs.declared.entry.RecordEnd.{RecordEnd}
use Rattle.host_intake.specs.Takings.{under}
use Rattle.host_model.specs.declared.memory.MemEntry.{MemEntry}
use Rattle.host_model.specs.declared.memory.MemEvent.{MemEvent}
use Rattle.host_model.specs.declared.step.Step.{Step}
use Rattle.host_model.specs.declared.verdict.Verdict.{Verdict}
use Rattle.host_model.specs.declared.verdict.Verdict.TheVariants.{Accepted, Refused}
use Rattle.host_model.specs.Carrying.{asked, carries_out, outcome_of}
use Rattle.host_model.specs.RecordEntries.{record_entry, index_of}
use Rattle.host_record.specs.declared.opcode.Opcode.{Opcode}
use Rattle.host_record.specs.declared.opcode.Opcode.TheVariants as opcode
use Rattle.host_record.specs.Command.{opcode}
use Rattle.host_hand.specs.declared.carry.Carried.{Carried}
use Rattle.host_hand.specs.declared.errand.Errand.{Errand}
use Rattle.host_hand.specs.declared.work.Work.{Work}
use Rattle.host_hand.specs.declared.work.Work.TheVariants as work
use Rattle.host_hand.specs.Blocks.{IsErrandInside}
use Rattle.host_hand.specs.Buffers.{IsBufferFreed, IsHeld, pages_freed, release_of}
use Rattle.host_hand.specs.Errands.{IsStepFor}
use Rattle.host_hand.specs.Frames.{released_by}
use Rattle.host_log.specs.Growth.{EachOwn, HasGrown, IsReached}
use Rattle.host_session.specs.Moves.{moves_owed}
use Rattle.host_hand.specs.Records.{IsClosedBefore}

-- ---- the work that a record is

-- the verdict under which it is work of this kind
abbrev pub work_verdict : Work → Verdict
work_verdict (work.Refuse status) = Refused status
work_verdict _ = Accepted

-- what it asks for; a refused record may ask for anything
abbrev pub IsFor : Option Opcode → Work → Type 0
IsFor asked (work.Refuse status) = Unit {0}
IsFor asked (work.Close pages) = asked ≡ Some opcode.Close
IsFor asked work.Read = asked ≡ Some opcode.Read
IsFor asked work.Write = asked ≡ Some opcode.Write
IsFor asked work.Trim = asked ≡ Some opcode.Trim
IsFor asked work.Flush = asked ≡ Some opcode.Flush

-- the op of a transfer, by what the record asks for
abbrev pub IsTransferBy : Option Opcode → Op → Type 0
IsTransferBy asked Read = asked ≡ Some opcode.Read
IsTransferBy asked Write = asked ≡ Some opcode.Write
IsTransferBy asked _ = ⊥

abbrev pub work_by : Op → Work
work_by Read = work.Read
work_by Write = work.Write
work_by Trim = work.Trim
work_by Flush = work.Flush

-- a read, write or trim lies within the partition
abbrev pub IsInPart : Errand → Work → Type 0
IsInPart e work.Read = IsErrandInside e
IsInPart e work.Write = IsErrandInside e
IsInPart e work.Trim = IsErrandInside e
IsInPart e _ = Unit {0}

-- a read or write holds its buffer
abbrev pub HoldsBuffer : Errand → Work → List MemEntry → Type 0
HoldsBuffer e work.Read h = IsHeld e h
HoldsBuffer e work.Write h = IsHeld e h
HoldsBuffer e _ h = Unit {0}

-- the pages that come with a close are of the pool
abbrev pub IsWithPages : TableId × ℕ → Work → Type 0
IsWithPages pool (work.Close pages) = pages_pool pages ≡ pool
IsWithPages pool _ = Unit {0}

-- how many pages come with it
abbrev pub pages_with : Work → ℕ
pages_with (work.Close pages) = length (contents pages)
pages_with _ = 0

-- All that carrying it out may rest on.
pub record IsWork (e : Errand) (pool : TableId × ℕ) (h : List MemEntry) (w : Work) : Type 0 where
  pub is_for : IsFor (opcode e.request) w
  pub in_part : IsInPart e w
  pub holds : HoldsBuffer e w h
  pub with_pages : IsWithPages pool w

-- ---- what it came to

-- an entry that was made for record i, other than its pin
pub record IsMoveFor (i : ℕ) (m : MemEvent) : Type 0 where
  pub index_is : index_of m ≡ Some i
  pub entry_is : record_entry i m ≡ Some m

-- The record with this verdict ended so, by these steps and these entries at its buffer.
pub record IsOutcome (e : Errand) (verdict : Verdict) (end : RecordEnd) (steps : List Step)
    (moves : List MemEvent) : Type 0 where
  pub made : All (IsStepFor e) steps
  pub named : All (IsMoveFor e.index) moves
  pub carried : IsTrue (carries_out (asked verdict e.part e.request) steps)
  pub outcome : end.outcome ≡ outcome_of verdict (asked verdict e.part e.request) steps
  pub moved : moves ≡ moves_owed verdict end.outcome e.index e.request steps moves

-- the end of a record that uses a buffer has seen all of the buffers' history that its hand has
-- seen
abbrev pub IsPastBuffers : Work → RecordEnd → List MemEntry → Type 0
IsPastBuffers (work.Close pages) end h = end.memory_front ≡ length h
IsPastBuffers work.Read end h = end.memory_front ≡ length h
IsPastBuffers work.Write end h = end.memory_front ≡ length h
IsPastBuffers _ end h = Unit {0}

-- The record was carried out, which left these entries with the device and the buffers, whose
-- histories reach the fronts of its end. Where it let go of a buffer for which a close waited, the
-- buffer's pages came out.
pub record HasCarried (e : Errand) (w : Work) (pool : TableId × ℕ) (carried : Carried)
    (old_h new_h : List MemEntry) (old_s new_s : List Step) : Type 0 where
  pub steps : List Step
  pub moves : List MemEvent
  pub outcome_is : IsOutcome e (work_verdict w) carried.end steps moves
  pub device : HasGrown (λ step. step.hand) e.hand e.device_front carried.end.device_front steps
      old_s new_s
  pub buffers : HasGrown (λ x. x.hand) e.hand e.memory_front carried.end.memory_front
      (under e.hand (moves ++ release_of e.request.vmoid carried.freed)) old_h new_h
  pub past_buffers : IsPastBuffers w carried.end new_h
  pub device_reached : IsReached carried.end.device_front new_s
  pub memory_reached : IsReached carried.end.memory_front new_h
  pub is_freed : IsBufferFreed e pool carried.end.memory_front new_h carried.freed
  pub closers : EachOwn (λ x. x.hand) e.hand (λ p x. length old_h ≤ p → IsClosedBefore new_h p x)
      new_h
  pub frames : released_by e.hand new_h ≡ released_by e.hand old_h + pages_freed carried.freed
