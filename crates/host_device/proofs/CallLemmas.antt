-- How the calls of a step end.
use Rattle.std.proofs.Common.{◌≡◌, ◌≢◌, Bool, true, false, Result, Ok, Err, sym, ◌∙◌}
use Rattle.std.specs.Prelude.{IsErr}
use Rattle.host_block.specs.{Outcome, failed, refused}
use Rattle.host_device.specs.{Stored, EndsAs, step_answer, answered, step_outcome}

not_failed : (o : Outcome) → o ≡ refused → o ≢ failed
not_failed o is fails = let wrong : refused ≡ failed = sym is ∙ fails in cc

pub ended_refused : {E : Type 0} (r : Result Stored E) (o : Outcome) → IsErr r → o ≡ refused → EndsAs (step_answer r) o
ended_refused (Ok stored) o err is = let wrong : ◌≡◌ {A = Bool} false true = err in cc
ended_refused (Err e) o err is = not_failed o is

pub ended_as : (faulted : Bool) (o : Outcome) → o ≡ step_outcome faulted → EndsAs (answered faulted) o
ended_as true o is = is
ended_as false o is = is
