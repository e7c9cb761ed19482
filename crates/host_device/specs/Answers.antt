-- How a step ended, told by its answer.
use Rattle.std.specs.Prelude.{◌≡◌, ◌≢◌, Bool, Result, Ok, Err, List, [], ◌∷◌, if◌then◌else◌, ℕ}
use Rattle.host_block.specs.declared.op.Op.{Op}
use Rattle.host_block.specs.Changes.{Change}
use Rattle.host_block.specs.Disk.{Outcome, done, failed}
use Rattle.host_model.specs.declared.step.Step.{Step}
use Rattle.host_device.specs.declared.cache_calls.BlockRead.{BlockRead}
use Rattle.host_device.specs.declared.cache_calls.Stored.{Stored}
use Rattle.host_device.specs.declared.steps.Owner.{Owner}
use Rattle.host_device.specs.Entries.{step_made}
use Rattle.host_device.specs.declared.error.StepError.{StepError}
use Rattle.host_device.specs.declared.error.StepError.TheVariants.{Fault, Oom}

-- how the cache's call ended; for want of memory it didn't fail, and a read may have succeeded
abbrev pub EndsAs : Result Unit StepError → Outcome → Type 0
EndsAs (Ok x) outcome = outcome ≡ done
EndsAs (Err Fault) outcome = outcome ≡ failed
EndsAs (Err Oom) outcome = outcome ≢ failed

-- how a call ended that wasn't refused memory
abbrev pub step_outcome : Bool → Outcome
step_outcome faulted = if faulted then failed else done

-- ---- what a private call gave for the entry

-- the answer of a step that is entered
abbrev pub answered : Bool → Result Unit StepError
answered faulted = if faulted then Err Fault else Ok tt

-- the answer of the step
abbrev pub step_answer : {E : Type 0} → Result Stored E → Result Unit StepError
step_answer (Ok stored) = answered stored.faulted
step_answer (Err e) = Err Oom

-- what is entered of a read
abbrev pub stored_of : {E : Type 0} → Result BlockRead E → Result Stored E
stored_of (Ok read) = Ok read.stored
stored_of (Err e) = Err e

abbrev pub change_by : Op → ℕ → Stored → Change
change_by op b stored =
    record { op = op; block = b; bytes = stored.bytes; faulted = stored.faulted }

-- the change that is to be entered, and none for want of memory
abbrev pub changes_by : {E : Type 0} → Op → ℕ → Result Stored E → List Change
changes_by op b (Ok stored) = change_by op b stored ∷ []
changes_by op b (Err e) = []

abbrev pub step_by : Owner → Op → ℕ → Stored → Step
step_by owner op b stored =
    record {
      hand = owner.hand;
      session = owner.session;
      index = owner.index;
      k = owner.k;
      op = op;
      block = b;
      bytes = stored.bytes;
      faulted = stored.faulted;
    }

-- the entry of a step for this owner over these bytes
abbrev pub step_entry : Owner → Op → ℕ → List ℕ → Bool → Step
step_entry owner op b bytes faulted =
    step_made owner.hand owner.session owner.index owner.k op b bytes faulted
