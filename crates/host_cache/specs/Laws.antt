-- What a crash during a call of a cache may leave, told by a history of changes.
use Rattle.std.specs.Prelude.{ℕ, IsTrue, List, [], ◌∷◌, ◌++◌, length}
use Rattle.host_block.specs.Disk.{DiskState, Outcome, done, DiskCall, LeadAll}
use Rattle.host_block.specs.Changes.{Change, is_barrier}
use Rattle.host_block.specs.Crash.{Keeps, IsCurrent}
use Rattle.host_block.specs.Laws.{LeadThrough}
use Rattle.host_cache.specs.Held.{Held, cached}
use Rattle.host_cache.specs.Calls.{Rule, IsRead, IsWrite, IsFlush}
use Rattle.host_cache.specs.Kept.{IsCacheKept, AreClean}

-- Over a state that keeps the history stands a cache whose content is that after the whole history.
pub record IsHeldOver (image : List (List ℕ)) (history : List Change) (size : ℕ) (held : Held)
    (s : DiskState) : Type 0 where
  pub keeps : Keeps image history s
  pub kept : IsCacheKept (length image) size held
  pub clean : AreClean s held.lines
  pub current : IsCurrent image history (cached held s)

-- Each state along the disk calls of this rule keeps the history, however the call ends.
abbrev pub Survives : List (List ℕ) → Rule → Type 0
Survives image rule =
    (history : List Change) (size : ℕ) (old new : Held) (calls : List DiskCall) (outcome : Outcome)
    (s t : DiskState) → IsHeldOver image history size old s → rule old calls outcome new
    → LeadAll calls s t → LeadThrough (Keeps image history) calls s t

abbrev pub ReadSurvives : Type 0
ReadSurvives = (image : List (List ℕ)) (b : ℕ) (given : List ℕ) → Survives image (IsRead b given)

abbrev pub WriteSurvives : Type 0
WriteSurvives = (image : List (List ℕ)) (b : ℕ) (bytes : List ℕ) → Survives image (IsWrite b bytes)

abbrev pub FlushSurvives : Type 0
FlushSurvives = (image : List (List ℕ)) → Survives image (IsFlush (length image))

-- A flush that succeeds leaves a state that keeps the history with the flush more.
abbrev pub FlushIsKept : Type 0
FlushIsKept =
    (image : List (List ℕ)) (history : List Change) (flush : Change) (size : ℕ) (old new : Held)
    (calls : List DiskCall) (s t : DiskState) → IsHeldOver image history size old s
    → IsTrue (is_barrier flush) → IsFlush (length image) old calls done new → LeadAll calls s t
    → Keeps image (history ++ flush ∷ []) t
