-- The entry of a step, and what a step asks for.
use Rattle.std.specs.Prelude.{◌≡◌, ℕ, ◌<◌, Bool, true, false, Result, Ok, Err, List, [], ◌∷◌}
use Rattle.std.specs.Prelude.{if◌then◌else◌}
use Rattle.host_block.specs.declared.op.Op.{Op}
use Rattle.host_block.specs.declared.op.Op.TheVariants.{Read, Write, Trim, Flush}
use Rattle.host_model.specs.declared.step.Step.{Step}
use Rattle.host_device.specs.declared.error.StepError.{StepError}
use Rattle.host_device.specs.declared.error.StepError.TheVariants.{Fault, Oom}

-- a flush is of no block, any other step of a block of the disk
abbrev pub IsOnDisk : Op → ℕ → ℕ → Type 0
IsOnDisk Read b blocks = b < blocks
IsOnDisk Write b blocks = b < blocks
IsOnDisk Trim b blocks = b < blocks
IsOnDisk Flush b blocks = b ≡ 0

-- a read and a write have so many bytes
abbrev pub IsPiece : Op → ℕ → ℕ → Type 0
IsPiece Read n size = n ≡ size
IsPiece Write n size = n ≡ size
IsPiece Trim n size = Unit {0}
IsPiece Flush n size = Unit {0}

-- the bytes of an entry: what a read gave, unless it failed, and what a write was given
abbrev pub entry_bytes : Op → List ℕ → Bool → List ℕ
entry_bytes Read bytes faulted = if faulted then [] else bytes
entry_bytes Write bytes faulted = bytes
entry_bytes Trim bytes faulted = []
entry_bytes Flush bytes faulted = []

-- the entry of a step over these bytes
abbrev pub step_made : ℕ → ℕ → ℕ → ℕ → Op → ℕ → List ℕ → Bool → Step
step_made hand session index k op b bytes faulted =
    record {
      hand = hand;
      session = session;
      index = index;
      k = k;
      op = op;
      block = b;
      bytes = entry_bytes op bytes faulted;
      faulted = faulted;
    }

-- the answer of a read without the bytes that it gave
abbrev pub answer_alone : {A : Type 0} → Result A StepError → Result Unit StepError
answer_alone (Ok x) = Ok tt
answer_alone (Err e) = Err e

-- the entries that a step adds, by its answer: one, but none for want of memory
abbrev pub entries_added : Result Unit StepError → (Bool → Step) → List Step
entries_added (Ok x) entry = entry false ∷ []
entries_added (Err Fault) entry = entry true ∷ []
entries_added (Err Oom) entry = []
