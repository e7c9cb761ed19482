-- What one session did, as the definitions on sessions see it.
use Rattle.std.specs.Prelude.{ℕ, List}
use Rattle.host_block.specs.declared.range.Range.{Range}
use Rattle.host_record.specs.declared.finish.Finish.{Finish}
use Rattle.host_model.specs.declared.event.Event.{Event}
use Rattle.host_model.specs.declared.memory.MemEvent.{MemEvent}
use Rattle.host_model.specs.declared.row.TakenRow.{TakenRow}
use Rattle.host_model.specs.declared.step.Step.{Step}

pub record Session : Type 0 where
  -- the bytes of a block
  pub size : ℕ
  -- the partition's blocks
  pub range : Range
  -- what the client did
  pub log : List Event
  -- the records taken
  pub rows : List TakenRow
  -- what was done to the buffers
  pub memory : List MemEvent
  -- the device's steps for this session
  pub steps : List Step
  -- how it was ended
  pub finish : Finish
