-- What `make` leaves.
use Rattle.std.specs.Prelude.{◌≡◌, ◌≢◌, ℕ, IsTrue, List, ◌++◌}
use Rattle.script_model.specs.Print.{script_text}
use Rattle.host_run.specs.Seen.{SinkSeen}
use Rattle.host_run.specs.Words.{Making, plans_made}
use Rattle.host_run.specs.Writes.{PutsText}
use Rattle.host_run.specs.declared.status.RunStatus.{RunStatus}
use Rattle.host_run.specs.declared.status.RunStatus.TheVariants.{Done, OutOfMemory, SinkFault}

-- a text was put, or the sink failed
abbrev pub IsPutStatus : RunStatus → Type 0
IsPutStatus Done = Unit {0}
IsPutStatus SinkFault = Unit {0}
IsPutStatus _ = ⊥

-- or there was no memory for it
abbrev pub IsMakeStatus : RunStatus → Type 0
IsMakeStatus OutOfMemory = Unit {0}
IsMakeStatus status = IsPutStatus status

-- the text of the generated script
abbrev pub made_text : Making → List ℕ
made_text making = script_text (plans_made making)

-- Unless memory was refused, the text of the script was put, up to a failure of the sink; status 0
-- says that it was put whole.
pub record PutsScript (before after : SinkSeen) (making : Making) (status : RunStatus)
    : Type 0 where
  pub puts : status ≢ OutOfMemory → PutsText before after (made_text making)
  pub done : status ≡ Done → IsTrue before.tells
      → after.appended ≡ before.appended ++ made_text making
