-- The entries that records leave in the buffers' history.
use Rattle.std.specs.Prelude.{◌≡◌, ℕ, ◌+◌, ◌<◌, Bool, true, not, ◌==◌, nat_lt, if◌then◌else◌, List}
use Rattle.std.specs.Prelude.{[], ◌∷◌, ◌++◌, map, length, take, filter, filter_map, Option, Some}
use Rattle.std.specs.Prelude.{None, IsTrue}
use Rattle.std.specs.Bool.{then_some}
use Rattle.std.specs.List.{list_all}
use Rattle.std.specs.Option.{option_map_or}
use Rattle.host_block.specs.declared.op.Op.TheVariants as op
use Rattle.host_record.specs.declared.opcode.Opcode.{Opcode}
use Rattle.host_record.specs.declared.opcode.Opcode.TheVariants.{Read, Write, Close}
use Rattle.host_record.specs.declared.request.Request.{Request}
use Rattle.host_record.specs.declared.status.Status.{Status}
use Rattle.host_record.specs.declared.status.Status.TheVariants.{NoMemory}
use Rattle.host_record.specs.Command.{opcode}
use Rattle.host_model.specs.declared.memory.MemEvent.{MemEvent}
use Rattle.host_model.specs.declared.memory.MemEvent.TheVariants.{Pin, Lift, Land, Done}
use Rattle.host_model.specs.declared.memory.MemEvent.TheVariants as mem
use Rattle.host_model.specs.declared.step.Step.{Step}
use Rattle.host_model.specs.declared.verdict.Verdict.{Verdict}
use Rattle.host_model.specs.declared.verdict.Verdict.TheVariants.{Accepted, Refused}
use Rattle.host_model.specs.Carrying.{same_op, steps_of}
use Rattle.host_model.specs.Log.{requests, request_at}
use Rattle.host_model.specs.Session.{Session}
use Rattle.host_model.specs.Taking.{row_at}

-- the record for which an entry was made; a release names none
abbrev pub index_of : MemEvent → Option ℕ
index_of (Pin index id by) = Some index
index_of (Lift index k id block bytes) = Some index
index_of (Land index k id block bytes) = Some index
index_of (Done index id) = Some index
index_of (mem.Close index id) = Some index
index_of _ = None

-- the entry, where it was made for record i; which hand a pin names is left out
abbrev pub record_entry : ℕ → MemEvent → Option MemEvent
record_entry i (Pin index id by) = then_some (index == i) (Pin index id 0)
record_entry i (Lift index k id block bytes) = then_some (index == i) (Lift index k id block bytes)
record_entry i (Land index k id block bytes) = then_some (index == i) (Land index k id block bytes)
record_entry i (Done index id) = then_some (index == i) (Done index id)
record_entry i (mem.Close index id) = then_some (index == i) (mem.Close index id)
record_entry i _ = None

-- the entries made for record i
abbrev pub entries_of : ℕ → List MemEvent → List MemEvent
entries_of i history = filter_map (record_entry i) history

abbrev pub lift_for : ℕ → Request → ℕ → List ℕ → MemEvent
lift_for i r k bytes = Lift i k r.vmoid (r.vmo_offset + k) bytes

abbrev pub land_for : ℕ → Request → ℕ → List ℕ → MemEvent
land_for i r k bytes = Land i k r.vmoid (r.vmo_offset + k) bytes

-- the lift at step n, with whatever bytes it has
abbrev pub lift_at : ℕ → ℕ → Request → MemEvent → Option MemEvent
lift_at n i r (Lift index k id block bytes) = then_some (k == n) (lift_for i r n bytes)
lift_at n i r _ = None

-- a write that was refused memory before the step on its block n may have lifted that step's page
abbrev pub spare : Status → ℕ → ℕ → Request → List MemEvent → List MemEvent
spare NoMemory n i r own = if nat_lt n r.length then take 1 (filter_map (lift_at n i r) own) else []
spare _ n i r own = []

-- those of these steps that write
abbrev pub writes_of : List Step → List Step
writes_of steps = filter (λ step. same_op step.op op.Write) steps

-- The entries that an accepted record has to have, where it has these: a read or write has its pin,
-- a lift before each write step or a landing after each good read step, and its end; a close has
-- one.
abbrev pub entries_for : Option Opcode → Status → ℕ → Request → List Step → List MemEvent
    → List MemEvent
entries_for (Some Write) status i r steps own =
    Pin i r.vmoid 0 ∷ map (λ step. lift_for i r step.k step.bytes) (writes_of steps)
    ++ spare status (length steps) i r own ++ Done i r.vmoid ∷ []
entries_for (Some Read) status i r steps own =
    Pin i r.vmoid 0
    ∷ map (λ step. land_for i r step.k step.bytes) (filter (λ step. not step.faulted) steps)
    ++ Done i r.vmoid ∷ []
entries_for (Some Close) status i r steps own = mem.Close i r.vmoid ∷ []
entries_for _ status i r steps own = []

-- a refused record has none
abbrev pub entries_owed : Verdict → Status → ℕ → Request → List Step → List MemEvent → List MemEvent
entries_owed Accepted status i r steps own = entries_for (opcode r) status i r steps own
entries_owed (Refused _) status i r steps own = []

-- record i has the entries that it has to have
abbrev pub HasEntries : Session → ℕ → Type 0
HasEntries s i =
    let own = entries_of i s.memory in
    let row = row_at s.rows i in
    own
    ≡ entries_owed row.verdict row.outcome i (request_at (requests s.log) i) (steps_of i s.steps)
    own

-- an entry of a record that was taken, or of none
abbrev pub names_taken : ℕ → MemEvent → Bool
names_taken n e = option_map_or (λ i. nat_lt i n) (index_of e) true

pub record HaveEntries (s : Session) : Type 0 where
  -- each record taken has its entries, and no other has any
  pub each : (i : ℕ) → i < length s.rows → HasEntries s i
  pub others : IsTrue (list_all (names_taken (length s.rows)) s.memory)
