-- What clauses see of a device.
use Rattle.std.specs.Prelude.{◌≡◌, ℕ, IsTrue, Result, List, length}
use Rattle.host_block.specs.declared.op.Op.{Op}
use Rattle.host_block.specs.Changes.{Change, IsLegal}
use Rattle.host_block.specs.Crash.{IsCrashImage, IsCurrent}
use Rattle.host_block.specs.Disk.{block_at, IsImage, IsCrashOf}
use Rattle.host_log.specs.Switch.{SwitchedLog}
use Rattle.host_io.specs.Disks.{Shape}
use Rattle.host_io.specs.declared.disk.Disk as disk
use Rattle.host_cache.specs.Seen.{content_of}
use Rattle.host_cache.specs.Seen as cached
use Rattle.host_cache.specs.declared.cache.Cache.{Cache}
use Rattle.host_model.specs.declared.step.Step.{Step}
use Rattle.host_model.specs.Changes.{changes_of}
use Rattle.host_device.specs.declared.device.Device.{Device}
use Rattle.host_device.specs.declared.error.StepError.{StepError}
use Rattle.host_device.specs.declared.fixed.DeviceFixed.{DeviceFixed}
use Rattle.host_device.specs.CacheSteps.{CallsCache}
use Rattle.host_device.specs.Calls.{IsCacheCall}
use Rattle.host_device.specs.Crashes.{CrashesLeave}

module _ {D : Type 0} {g : disk.Ghosts D} where
  abbrev pub cache_of : Device D g → Cache D g
  cache_of device = device.cache

  -- the disk as it is
  abbrev pub disk_of : Device D g → D
  disk_of device = cached.disk_of device.cache

  abbrev pub shape_of : Device D g → Shape
  shape_of device = g.shape (disk_of device)

  -- the disk that the device began with
  abbrev pub opening_of : Device D g → D
  opening_of device = device.opening.value

  -- what never changes of a device
  abbrev pub fixed_of : Device D g → DeviceFixed D
  fixed_of device =
      record {
        blocks = (shape_of device).blocks;
        size = (shape_of device).size;
        opening = device.opening;
        keeps = device.steps.kept;
      }

  -- the entries, oldest first, and how many there is room for in all
  abbrev pub steps_of : Device D g → SwitchedLog Step
  steps_of device = device.steps

  -- the entries as changes of the image
  abbrev pub history_of : Device D g → List Change
  history_of device = changes_of device.steps.items

  -- the image that the device began with, where the disk tells
  abbrev pub image_of : Device D g → List (List ℕ)
  image_of device = (g.state device.opening.value).durable

  -- What a device keeps over a disk that tells: its history is legal, the content of its cache is
  -- that after the history, and a crash leaves an image that the history allows.
  pub record KeepsHistory (device : Device D g) : Type 0 where
    pub blocks : length (image_of device) ≡ (shape_of device).blocks
    pub size : IsImage (shape_of device).size (image_of device)
    pub legal : IsLegal (image_of device) (history_of device)
    pub current : IsCurrent (image_of device) (history_of device) (content_of device.cache)
    pub crashes : (left : List (List ℕ)) → IsCrashOf (g.state (disk_of device)) left
        → IsCrashImage (image_of device) (history_of device) left

  -- The cache was called as the op names, and no more, whatever the step answered. Where the disk
  -- tells, a crash before, between, inside or after the disk calls leaves an image that the history
  -- before the step allows.
  pub record IsStep (op : Op) (b : ℕ) (bytes : List ℕ) (old : Device D g)
      (answer : Result Unit StepError) (new : Device D g) : Type 0 where
    pub called : CallsCache (IsCacheCall op (shape_of old).blocks (shape_of old).size b bytes)
        old.cache answer new.cache
    pub crashes : IsTrue (shape_of old).tells
        → CrashesLeave (IsCrashImage (image_of old) (history_of old)) called.runs.calls
        (g.state (disk_of old)) (g.state (disk_of new))

  -- what a crash leaves is the content, in every block
  abbrev pub LosesNothing : Device D g → Type 0
  LosesNothing device =
      IsTrue (shape_of device).tells → (left : List (List ℕ))
      → IsCrashOf (g.state (disk_of device)) left
      → IsCurrent (image_of device) (history_of device) (block_at left)
