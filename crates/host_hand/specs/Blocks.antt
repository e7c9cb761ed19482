-- One block of a record, within a turn of the buffers.
use Rattle.std.specs.Prelude.{◌≡◌, ℕ, ◌+◌, ◌≤◌, ◌++◌, List, length}
use Rattle.host_block.specs.declared.op.Op.{Op}
use Rattle.host_block.specs.declared.op.Op.TheVariants.{Read, Write, Trim, Flush}
use Rattle.host_intake.specs.Takings.{under}
use Rattle.host_model.specs.declared.memory.MemEntry.{MemEntry}
use Rattle.host_model.specs.declared.memory.MemEvent.{MemEvent}
use Rattle.host_model.specs.declared.step.Step.{Step}
use Rattle.host_model.specs.Carrying.{Ask}
use Rattle.host_hand.specs.declared.errand.Errand.{Errand}
use Rattle.host_hand.specs.declared.run.Run.{Run}
use Rattle.host_hand.specs.Buffers.{IsHeld}
use Rattle.host_log.specs.Growth.{HasGrown}
use Rattle.host_hand.specs.Runs.{IsRun}

-- a read or write holds its buffer; a trim needs none, and a flush has no blocks
abbrev pub HoldsFor : Op → Errand → List MemEntry → Type 0
HoldsFor Read e h = IsHeld e h
HoldsFor Write e h = IsHeld e h
HoldsFor Trim e h = Unit {0}
HoldsFor Flush e h = ⊥

-- the record lies within its partition
abbrev pub IsErrandInside : Errand → Type 0
IsErrandInside e = e.request.dev_offset + e.request.length ≤ e.part.count

-- A read's step was made, and its page landed, while the turn of the buffers was kept.
pub record HasRunInTurn (e : Errand) (op : Op) (from : ℕ) (asks : List Ask) (run : Run)
    (old_h new_h : List MemEntry) (old_s new_s : List Step) : Type 0 where
  pub steps : List Step
  pub moves : List MemEvent
  pub run_is : IsRun e op from asks steps moves run.answer
  pub device : HasGrown (λ step. step.hand) e.hand e.device_front run.front steps old_s new_s
  pub buffers : new_h ≡ old_h ++ under e.hand moves
  pub front : run.front ≤ length new_s
