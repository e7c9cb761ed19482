-- What a hand does to the buffer of a record that it carries out, by the steps that it made for it.
use Rattle.std.specs.Prelude.{ℕ, not, List, [], ◌∷◌, ◌++◌, map, length, filter, filter_map, Option}
use Rattle.std.specs.Prelude.{Some}
use Rattle.host_record.specs.declared.opcode.Opcode.{Opcode}
use Rattle.host_record.specs.declared.opcode.Opcode.TheVariants.{Read, Write}
use Rattle.host_record.specs.declared.request.Request.{Request}
use Rattle.host_record.specs.declared.status.Status.{Status}
use Rattle.host_record.specs.Command.{opcode}
use Rattle.host_model.specs.declared.memory.MemEntry.{MemEntry}
use Rattle.host_model.specs.declared.memory.MemEvent.{MemEvent}
use Rattle.host_model.specs.declared.memory.MemEvent.TheVariants.{Done}
use Rattle.host_model.specs.declared.step.Step.{Step}
use Rattle.host_model.specs.declared.verdict.Verdict.{Verdict}
use Rattle.host_model.specs.declared.verdict.Verdict.TheVariants.{Accepted, Refused}
use Rattle.host_model.specs.RecordEntries.{record_entry, land_for, lift_for, spare, writes_of}
use Rattle.host_memory.specs.State.{events}
use Rattle.host_log.specs.History.{entries_of}

-- the lifts of a write's steps; its flush has none
abbrev pub lifts_of : ℕ → Request → List Step → List MemEvent
lifts_of i r steps = map (λ step. lift_for i r step.k step.bytes) (writes_of steps)

-- the landings of a read's steps; a step that failed has none
abbrev pub lands_of : ℕ → Request → List Step → List MemEvent
lands_of i r steps =
    map (λ step. land_for i r step.k step.bytes) (filter (λ step. not step.faulted) steps)

-- What an accepted record does to its buffer while it is carried out by these steps, where it does
-- this: a write lifts a page before the step on each block, and one more where it was refused
-- memory; a read lands a page after each step that didn't fail. Either lets go of the buffer last.
abbrev pub moves_by : Option Opcode → Status → ℕ → Request → List Step → List MemEvent
    → List MemEvent
moves_by (Some Write) status i r steps own =
    lifts_of i r steps ++ spare status (length steps) i r own ++ Done i r.vmoid ∷ []
moves_by (Some Read) status i r steps own = lands_of i r steps ++ Done i r.vmoid ∷ []
moves_by _ status i r steps own = []

-- a refused record does nothing to it
abbrev pub moves_owed : Verdict → Status → ℕ → Request → List Step → List MemEvent → List MemEvent
moves_owed Accepted status i r steps own = moves_by (opcode r) status i r steps own
moves_owed (Refused _) status i r steps own = []

-- what hand n did to the buffers for record i
abbrev pub moves_for : ℕ → ℕ → List MemEntry → List MemEvent
moves_for n i h = filter_map (record_entry i) (events (entries_of (λ e. e.hand) n h))
