-- A session from its lists.
use Rattle.std.specs.Prelude.{ℕ, List}
use Rattle.host_block.specs.declared.range.Range.{Range}
use Rattle.host_record.specs.declared.finish.Finish.{Finish}
use Rattle.host_model.specs.declared.event.Event.{Event}
use Rattle.host_model.specs.declared.memory.MemEvent.{MemEvent}
use Rattle.host_model.specs.declared.row.TakenRow.{TakenRow}
use Rattle.host_model.specs.declared.step.Step.{Step}
use Rattle.host_model.specs.Session.{Session}

abbrev pub session_with : ℕ → Range → List Event → List TakenRow → List MemEvent → List Step
    → Finish → Session
session_with size range log rows memory steps finish =
    record {
      size = size;
      range = range;
      log = log;
      rows = rows;
      memory = memory;
      steps = steps;
      finish = finish;
    }
