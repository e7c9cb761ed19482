-- A step as a change of the image; content, legal histories and crash images stand over changes.
use Rattle.std.specs.Prelude.{List, map}
use Rattle.host_block.specs.Changes.{Change}
use Rattle.host_model.specs.declared.step.Step.{Step}

abbrev pub change_of : Step → Change
change_of step =
    record { op = step.op; block = step.block; bytes = step.bytes; faulted = step.faulted }

abbrev pub changes_of : List Step → List Change
changes_of steps = map change_of steps
