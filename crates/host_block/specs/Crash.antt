-- Which images a crash may leave, told by a history.
use Rattle.std.specs.Prelude.{◌≡◌, ℕ, ◌<◌, ◌≤◌, List, length}
use Rattle.host_block.specs.Disk.{DiskState, block_at, IsCandidate}
use Rattle.host_block.specs.Changes.{Change, content, barrier}

-- these bytes are a version of block b that the last flush and the changes after it allow
pub record IsVersion (image : List (List ℕ)) (history : List Change) (b : ℕ) (bytes : List ℕ)
    : Type 0 where
  pub place : ℕ
  pub after_barrier : barrier history ≤ place
  pub within : place ≤ length history
  pub is : bytes ≡ content image history place b

-- a crash after this history may leave these blocks, each a version of its own
pub record IsCrashImage (image : List (List ℕ)) (history : List Change) (left : List (List ℕ))
    : Type 0 where
  pub blocks : length left ≡ length image
  pub each : (b : ℕ) → b < length image → IsVersion image history b (block_at left b)

-- whatever a crash of this state may leave in a block is such a version
pub record Keeps (image : List (List ℕ)) (history : List Change) (s : DiskState) : Type 0 where
  pub blocks : length s.durable ≡ length image
  pub each : (b : ℕ) (bytes : List ℕ) → b < length image → IsCandidate s b bytes
      → IsVersion image history b bytes

-- reads give the content after the whole history
pub record IsCurrent (image : List (List ℕ)) (history : List Change) (read_of : ℕ → List ℕ)
    : Type 0 where
  pub each : (b : ℕ) → b < length image → read_of b ≡ content image history (length history) b
