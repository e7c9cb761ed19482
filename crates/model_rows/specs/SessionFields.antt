-- For each field of a lawful session one that differs from a lawful session in one thing, and
-- breaks that field.
use Rattle.std.specs.Prelude.{true, false, [], ◌∷◌, ◌++◌, take, drop, set}
use Rattle.host_block.specs.declared.op.Op.TheVariants as op
use Rattle.host_model.specs.Answers.{AreDueAnswers}
use Rattle.host_model.specs.Buffers.{IsBufferHistory}
use Rattle.host_model.specs.Carrying.{AreCarriedOut}
use Rattle.host_model.specs.ClientEntries.{IsToldByLog}
use Rattle.host_model.specs.Order.{KeepsOrder}
use Rattle.host_model.specs.Pages.{HasPages}
use Rattle.host_model.specs.RecordEntries.{HaveEntries}
use Rattle.host_model.specs.Releases.{AreReleased}
use Rattle.host_model.specs.Session.{Session}
use Rattle.host_model.specs.Taking.{IsTakenInOrder}
use Rattle.host_model.specs.declared.event.AttachError.TheVariants as attach
use Rattle.host_model.specs.declared.event.Event.TheVariants.{Aborted, Attached, Drained, Filled}
use Rattle.host_model.specs.declared.event.Event.TheVariants.{NotAttached, Shown}
use Rattle.host_model.specs.declared.memory.MemEvent.TheVariants as mem
use Rattle.host_record.specs.declared.finish.Finish.TheVariants.{Abort}
use Rattle.host_record.specs.declared.status.Status.TheVariants as status
use Rattle.model_rows.specs.Parts.{accepted, cells, got, refused, send, step}
use Rattle.model_rows.specs.Sessions.{failed_group, faults, group_again, open_group, read_and_close}
use Rattle.model_rows.specs.Sessions.{short, twins, untaken_close}
use Rattle.model_rows.specs.WrongSessions.{put_in, without}

-- ---- records

-- its one record is numbered 7
abbrev pub misnumbered : Session
misnumbered = record open_group { log = set open_group.log 0 (send 7 0x803 1 2 0 0 0 0) }

-- two rows for one record, the second as for a record of zeros
abbrev pub row_of_none : Session
row_of_none = record open_group {
  log = set open_group.log 1 Aborted;
  finish = Abort;
  rows = accepted status.Ok ∷ refused status.NotSupported ∷ [];
}

-- a drain that came before the record
abbrev pub goes_on : Session
goes_on = record open_group { log = Drained ∷ take 1 open_group.log }

-- a faulted flush that ended well
abbrev pub hidden_fault : Session
hidden_fault = record faults { rows = set faults.rows 1 (accepted status.Ok) }

-- a step for a record that was never taken
abbrev pub step_of_none : Session
step_of_none = record open_group { steps = open_group.steps ++ step 9 0 op.Flush 0 [] false ∷ [] }

-- ---- buffers

-- the buffer's first page was filled with one byte, and the record was carried out with another
abbrev pub another_lift : Session
another_lift = record faults {
  memory = set faults.memory 3 (mem.Lift 0 0 1 0 (cells 0xc2));
  steps = set faults.steps 0 (step 0 0 op.Write 34 (cells 0xc2) false);
}

-- the read pins its buffer after the buffer was closed
abbrev pub pinned_after_the_close : Session
pinned_after_the_close = record read_and_close {
  memory = put_in 2 (mem.Pin 0 1 2) (without 1 read_and_close.memory);
}

-- ---- the rows

pub record TakingIsNeeded : Type 0 where
  pub numbered : ¬ IsTakenInOrder misnumbered
  pub only_sent : ¬ IsTakenInOrder row_of_none
  pub verdicts :
      ¬ IsTakenInOrder (record failed_group {
        rows = set failed_group.rows 0 (refused status.NotFound);
      })
  pub never_ends : ¬ IsTakenInOrder (record open_group { log = take 1 open_group.log })
  pub ends : ¬ IsTakenInOrder goes_on
  pub all_taken : ¬ IsTakenInOrder (record failed_group { rows = take 2 failed_group.rows })
  -- no id was given before, so ids can't have run out
  pub ids : ¬ IsTakenInOrder (record short { log = set short.log 3 (NotAttached 3 attach.NoIds) })

pub record CarryingIsNeeded : Type 0 where
  pub steps : ¬ AreCarriedOut (record faults {
    steps = set faults.steps 0 (step 0 0 op.Write 64 (cells 0xc1) false);
  })
  pub outcome : ¬ AreCarriedOut hidden_fault
  pub others : ¬ AreCarriedOut step_of_none

pub record AnswersAreNeeded : Type 0 where
  -- an open group has no answer, and each of two closed ones has its own
  pub at_most :
      ¬ AreDueAnswers (record open_group { log = put_in 1 (got status.Ok 1 2 1) open_group.log })
  pub exactly : ¬ AreDueAnswers (record group_again { log = without 3 group_again.log })

pub record BuffersAreNeeded : Type 0 where
  -- a fill that the log tells isn't in the buffers' history; the first buffer has id 2
  pub entries : ¬ IsToldByLog (record faults { memory = without 1 faults.memory })
  pub ids : ¬ IsToldByLog (record untaken_close {
    log = set untaken_close.log 0 (Attached 1 2);
    memory = set untaken_close.memory 0 (mem.Attach 2 1 0);
  })
  -- the client was shown bytes that the pages didn't have
  pub shows : ¬ HasPages (record faults {
    log = set faults.log 8 (Shown 1 4 2 true (cells 0 ++ cells 0));
  })
  pub lifts : ¬ HasPages another_lift
  pub each : ¬ HaveEntries (record faults { memory = without 3 faults.memory })
  pub others : ¬ HaveEntries (record open_group { memory = mem.Done 5 1 ∷ [] })
  pub never_released : ¬ AreReleased (record faults { memory = take 10 faults.memory })
  pub once : ¬ AreReleased (record faults { memory = faults.memory ++ mem.Release 1 ∷ [] })
  pub last : ¬ AreReleased (record faults {
    memory = put_in 9 (mem.Release 1) (take 10 faults.memory);
  })
  pub closes : ¬ AreReleased pinned_after_the_close
  pub used : ¬ IsBufferHistory (record faults { log = put_in 2 (Filled 1 0 2 9 false) faults.log })

pub record OrderIsNeeded : Type 0 where
  -- the second flush was sent after the first one's answer, and made its step before it
  pub records : ¬ KeepsOrder (record twins {
    log = send 0 3 7 0 0 0 0 0 ∷ got status.Ok 7 0 1
        ∷ take 1 (drop 1 twins.log) ++ drop 3 twins.log;
  })
  -- a page was lifted before the fill that the client did before it sent the write
  pub client : ¬ KeepsOrder (record faults {
    memory = put_in 3 (mem.Fill 1 0 2 0xc1) (without 1 faults.memory);
  })
  -- a show stands before the landing of a read that was answered before it
  pub events : ¬ KeepsOrder (record faults {
    memory = put_in 6 (mem.Show 1 4 2) (without 9 faults.memory);
  })

pub record EachSessionFieldIsNeeded : Type 0 where
  pub taking : TakingIsNeeded
  pub carrying : CarryingIsNeeded
  pub answers : AnswersAreNeeded
  pub buffers : BuffersAreNeeded
  pub order : OrderIsNeeded
