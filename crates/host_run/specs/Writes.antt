-- What putting a text into a sink gives.
use Rattle.std.specs.Prelude.{◌≡◌, IsTrue, List, ℕ, ◌++◌}
use Rattle.host_block.specs.Lists.{IsPrefix}
use Rattle.host_run.specs.Seen.{SinkFaulted, SinkSeen}
use Rattle.host_run.specs.declared.status.RunStatus.{RunStatus}
use Rattle.host_run.specs.declared.status.RunStatus.TheVariants.{Done}

-- a front of the text was appended
abbrev pub AppendsFront : List ℕ → List ℕ → List ℕ → Type 0
AppendsFront old new text = (front : List ℕ) × IsPrefix front text × (new ≡ old ++ front)

-- where the sink tells, a front of the text was appended, and the whole where the sink didn't fail
pub record PutsText (before after : SinkSeen) (text : List ℕ) : Type 0 where
  pub front : IsTrue before.tells → AppendsFront before.appended after.appended text
  pub whole : IsTrue before.tells → ¬ SinkFaulted before after
      → after.appended ≡ before.appended ++ text

-- the text of a run was put; status 0 says that it was put whole
pub record TellsRun (before after : SinkSeen) (text : List ℕ) (status : RunStatus) : Type 0 where
  pub puts : PutsText before after text
  pub whole : status ≡ Done → IsTrue before.tells → after.appended ≡ before.appended ++ text
