-- What a step does to a cache.
use Rattle.std.specs.Prelude.{◌≡◌, ℕ, ◌<◌, not, ◌&&◌, IsTrue, Result, List, [], ◌∷◌}
use Rattle.host_block.specs.Changes.{Change, is_read, changed}
use Rattle.host_block.specs.Disk.{Outcome}
use Rattle.host_io.specs.declared.disk.Disk as disk
use Rattle.host_cache.specs.Calls.{Rule}
use Rattle.host_cache.specs.Seen.{shape_of, content_of, Runs}
use Rattle.host_cache.specs.declared.cache.Cache.{Cache}
use Rattle.host_device.specs.declared.error.StepError.{StepError}
use Rattle.host_device.specs.Answers.{EndsAs}

module _ {D : Type 0} {g : disk.Ghosts D} where
  -- The cache kept to this rule, whatever the step answered.
  pub record CallsCache (rule : Rule) (old : Cache D g) (answer : Result Unit StepError)
      (new : Cache D g) : Type 0 where
    pub outcome : Outcome
    pub ended : EndsAs answer outcome
    pub runs : Runs rule old outcome new

  -- these changes made the new content of the old one
  abbrev pub HasContentBy : List Change → Cache D g → Cache D g → Type 0
  HasContentBy changes old new =
      IsTrue (shape_of old).tells → (k : ℕ) → k < (shape_of old).blocks
      → content_of new k ≡ changed (shape_of old).size changes k (content_of old k)

  -- a read that didn't fail gave the content
  abbrev pub GivesContent : Change → Cache D g → Type 0
  GivesContent change cache =
      IsTrue (shape_of cache).tells → IsTrue (is_read change.op && not change.faulted)
      → change.bytes ≡ content_of cache change.block

  -- so did each of these reads that didn't fail
  abbrev pub AreGiven : List Change → Cache D g → Type 0
  AreGiven [] cache = Unit {0}
  AreGiven (change ∷ changes) cache = GivesContent change cache × AreGiven changes cache
