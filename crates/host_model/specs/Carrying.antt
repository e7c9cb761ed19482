-- How a record is carried out by steps of the device, and its outcome.
use Rattle.std.specs.Prelude.{ℕ, ◌+◌, Bool, true, false, ◌==◌, ◌&&◌, if◌then◌else◌, List, [], ◌∷◌}
use Rattle.std.specs.Prelude.{◌++◌, map, filter, length, nat_lt, Option, Some, None, IsTrue, ◌≡◌}
use Rattle.std.specs.Prelude.{◌<◌}
use Rattle.std.specs.List.{list_all}
use Rattle.host_block.specs.declared.range.Range.{Range}
use Rattle.host_block.specs.declared.op.Op.{Op}
use Rattle.host_block.specs.declared.op.Op.TheVariants as op
use Rattle.host_record.specs.declared.request.Request.{Request}
use Rattle.host_record.specs.declared.opcode.Opcode.{Opcode}
use Rattle.host_record.specs.declared.opcode.Opcode.TheVariants.{Read, Write, Flush, Trim, Close}
use Rattle.host_record.specs.declared.status.Status.{Status}
use Rattle.host_record.specs.declared.status.Status.TheVariants as status
use Rattle.host_record.specs.Command.{opcode, is_forced}
use Rattle.host_model.specs.declared.step.Step.{Step}
use Rattle.host_model.specs.declared.verdict.Verdict.{Verdict}
use Rattle.host_model.specs.declared.verdict.Verdict.TheVariants.{Accepted, Refused}
use Rattle.host_model.specs.Lists.{below, is_nil}
use Rattle.host_model.specs.Log.{requests, request_at}
use Rattle.host_model.specs.Session.{Session}
use Rattle.host_model.specs.Taking.{row_at}

-- a step that a request asks for
pub record Ask : Type 0 where
  pub k : ℕ
  pub op : Op
  pub block : ℕ

-- one step for each block, by rising k
abbrev pub for_each_block : Op → Range → Request → List Ask
for_each_block kind range r =
    map (λ k. record { k = k; op = kind; block = range.first + r.dev_offset + k }) (below r.length)

-- a flush, with this number
abbrev pub flush_ask : ℕ → Ask
flush_ask k = record { k = k; op = op.Flush; block = 0 }

-- a forced write has a flush after its last block
abbrev pub flush_after : Request → List Ask
flush_after r = if is_forced r then flush_ask r.length ∷ [] else []

-- the steps that an accepted request asks for, in order
abbrev pub asked_by : Option Opcode → Range → Request → List Ask
asked_by (Some Read) range r = for_each_block op.Read range r
asked_by (Some Write) range r = for_each_block op.Write range r ++ flush_after r
asked_by (Some Trim) range r = for_each_block op.Trim range r
asked_by (Some Flush) range r = flush_ask 0 ∷ []
asked_by (Some Close) range r = []
asked_by None range r = []

-- the steps that a request asks for; a refused one asks for none
abbrev pub asked : Verdict → Range → Request → List Ask
asked Accepted range r = asked_by (opcode r) range r
asked (Refused status) range r = []

abbrev pub same_op : Op → Op → Bool
same_op op.Read op.Read = true
same_op op.Write op.Write = true
same_op op.Trim op.Trim = true
same_op op.Flush op.Flush = true
same_op _ _ = false

abbrev pub is_step_for : Ask → Step → Bool
is_step_for ask step = step.k == ask.k && same_op step.op ask.op && step.block == ask.block

-- the steps made are the first of those asked for, and none comes after a faulted one
abbrev pub carries_out : List Ask → List Step → Bool
carries_out asks [] = true
carries_out [] (step ∷ steps) = false
carries_out (ask ∷ asks) (step ∷ steps) =
    is_step_for ask step && (if step.faulted then is_nil steps else carries_out asks steps)

-- how it ended: at a fault, short of memory, or with every step made
abbrev pub ended : List Ask → List Step → Status
ended [] [] = status.Ok
ended (ask ∷ asks) [] = status.NoMemory
ended [] (step ∷ steps) = if step.faulted then status.Io else ended [] steps
ended (ask ∷ asks) (step ∷ steps) = if step.faulted then status.Io else ended asks steps

-- the outcome of a record with this verdict
abbrev pub outcome_of : Verdict → List Ask → List Step → Status
outcome_of (Refused status) asks steps = status
outcome_of Accepted asks steps = ended asks steps

-- the steps of record i
abbrev pub steps_of : ℕ → List Step → List Step
steps_of i steps = filter (λ step. step.index == i) steps

-- ---- a session's records

-- the steps that record i asks for
abbrev pub asked_in : Session → ℕ → List Ask
asked_in s i = asked (row_at s.rows i).verdict s.range (request_at (requests s.log) i)

-- record i is carried out by its steps, and has their outcome
pub record IsCarriedOut (s : Session) (i : ℕ) : Type 0 where
  pub steps : IsTrue (carries_out (asked_in s i) (steps_of i s.steps))
  pub outcome : (row_at s.rows i).outcome
      ≡ outcome_of (row_at s.rows i).verdict (asked_in s i) (steps_of i s.steps)

-- each record taken is carried out, and no other has a step
pub record AreCarriedOut (s : Session) : Type 0 where
  pub each : (i : ℕ) → i < length s.rows → IsCarriedOut s i
  pub others : IsTrue (list_all (λ step. nat_lt step.index (length s.rows)) s.steps)
