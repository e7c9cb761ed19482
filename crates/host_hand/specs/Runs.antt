-- A run of steps for one record.
use Rattle.std.specs.Prelude.{◌≡◌, ◌⊎◌, ℕ, ◌+◌, ◌≤◌, ◌<◌, Result, Ok, Err, List, [], ◌∷◌, ◌++◌, All}
use Rattle.std.specs.Prelude.{IsTrue, length}
use Rattle.host_block.specs.declared.op.Op.{Op}
use Rattle.host_block.specs.declared.op.Op.TheVariants.{Read, Write}
use Rattle.host_device.specs.declared.error.StepError.{StepError}
use Rattle.host_device.specs.declared.error.StepError.TheVariants.{Fault, Oom}
use Rattle.host_intake.specs.Takings.{under}
use Rattle.host_model.specs.declared.memory.MemEntry.{MemEntry}
use Rattle.host_model.specs.declared.memory.MemEvent.{MemEvent}
use Rattle.host_model.specs.declared.step.Step.{Step}
use Rattle.host_model.specs.Carrying.{Ask, carries_out, ended}
use Rattle.host_model.specs.RecordEntries.{lift_for}
use Rattle.host_record.specs.declared.request.Request.{Request}
use Rattle.host_record.specs.declared.status.Status.{Status}
use Rattle.host_record.specs.declared.status.Status.TheVariants as status
use Rattle.host_hand.specs.declared.errand.Errand.{Errand}
use Rattle.host_hand.specs.declared.run.Run.{Run}
use Rattle.host_hand.specs.Errands.{IsStepFor}
use Rattle.host_log.specs.Growth.{HasGrown}
use Rattle.host_session.specs.Moves.{lands_of, lifts_of}

-- how a record ends whose last step answered so
abbrev pub status_by : Result Unit StepError → Status
status_by (Ok x) = status.Ok
status_by (Err Fault) = status.Io
status_by (Err Oom) = status.NoMemory

-- what steps of this kind leave with the buffer
abbrev pub moved_by : Op → ℕ → Request → List Step → List MemEvent
moved_by Write i r steps = lifts_of i r steps
moved_by Read i r steps = lands_of i r steps
moved_by _ i r steps = []

-- the lift for the step on block k alone
abbrev pub IsLiftAt : ℕ → ℕ → Request → List MemEvent → Type 0
IsLiftAt k i r moves = (bytes : List ℕ) × (moves ≡ lift_for i r k bytes ∷ []) × (k < r.length)

-- a write that was refused memory before the step on block k may have lifted its page
abbrev pub IsSpare : Op → Result Unit StepError → ℕ → ℕ → Request → List MemEvent → Type 0
IsSpare Write (Err Oom) k i r spare = (spare ≡ []) ⊎ IsLiftAt k i r spare
IsSpare _ answer k i r spare = spare ≡ []

-- These steps were made for the record, the first of those asked for, of which the first is step
-- `from`. The last one answered so. These entries at the buffers were made beside them.
pub record IsRun (e : Errand) (op : Op) (from : ℕ) (asks : List Ask) (steps : List Step)
    (moves : List MemEvent) (answer : Result Unit StepError) : Type 0 where
  pub made : All (IsStepFor e) steps
  pub carried : IsTrue (carries_out asks steps)
  pub answered : ended asks steps ≡ status_by answer
  pub spare : List MemEvent
  pub is_spare : IsSpare op answer (from + length steps) e.index e.request spare
  pub moved : moves ≡ moved_by op e.index e.request steps ++ spare

-- The run left these entries with the device and the buffers, which had seen so much before. What
-- it tells of the device is past its steps.
pub record HasRun (e : Errand) (op : Op) (from : ℕ) (asks : List Ask) (run : Run)
    (old_h new_h : List MemEntry) (old_s new_s : List Step) : Type 0 where
  pub steps : List Step
  pub moves : List MemEvent
  pub run_is : IsRun e op from asks steps moves run.answer
  pub device : HasGrown (λ step. step.hand) e.hand e.device_front run.front steps old_s new_s
  pub buffers : HasGrown (λ x. x.hand) e.hand e.memory_front (length new_h) (under e.hand moves)
      old_h new_h
  pub front : run.front ≤ length new_s
