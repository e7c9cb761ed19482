-- Laws over the disk, its crashes and a history.
use Rattle.std.specs.Prelude.{◌≡◌, ℕ, ◌<◌, ◌==◌, if◌then◌else◌, false, IsTrue, List, [], ◌∷◌, ◌++◌}
use Rattle.std.specs.Prelude.{length}
use Rattle.host_block.specs.Disk.{DiskState, block_at, read_of, Outcome, DiskCall, read, write}
use Rattle.host_block.specs.Disk.{sync, done, Leads, LeadAll, IsCrashOf, IsCrashInside, IsPicked}
use Rattle.host_block.specs.Changes.{Change, content, is_barrier}
use Rattle.host_block.specs.Crash.{Keeps, IsCrashImage, IsCurrent}

-- the call writes nothing but the content after the whole history
abbrev pub IsFaithful : List (List ℕ) → List Change → DiskCall → Type 0
IsFaithful image history (read b outcome) = Unit {0}
IsFaithful image history (write b bytes outcome) =
    (b < length image) × (bytes ≡ content image history (length history) b)
IsFaithful image history (sync outcome) = Unit {0}

-- so does each of these calls
abbrev pub AreFaithful : List (List ℕ) → List Change → List DiskCall → Type 0
AreFaithful image history [] = Unit {0}
AreFaithful image history (call ∷ calls) =
    IsFaithful image history call × AreFaithful image history calls

-- these calls lead from the first state to the second, and P holds before the first call, between
-- any two and after the last
abbrev pub LeadThrough : (DiskState → Type 0) → List DiskCall → DiskState → DiskState → Type 0
LeadThrough P [] old new = P old × (new ≡ old)
LeadThrough P (call ∷ calls) old new =
    P old × ((mid : DiskState) × Leads call old mid × LeadThrough P calls mid new)

-- A read gives the bytes of a write to its block that succeeded, and what it gave before at each
-- other block.
abbrev pub WrittenReads : Type 0
WrittenReads =
    (old new : DiskState) (a b : ℕ) (bytes : List ℕ) → Leads (write a bytes done) old new
    → read_of new b ≡ (if a == b then bytes else read_of old b)

-- A sync, however it ends, changes no read.
abbrev pub SyncedReads : Type 0
SyncedReads =
    (outcome : Outcome) (old new : DiskState) (b : ℕ) → b < length old.durable
    → Leads (sync outcome) old new → read_of new b ≡ read_of old b

-- After a sync that succeeds the durable blocks are what reads gave, and nothing is pending.
abbrev pub SyncedIsDurable : Type 0
SyncedIsDurable =
    (old new : DiskState) (b : ℕ) → b < length old.durable → Leads (sync done) old new
    → (block_at new.durable b ≡ read_of old b) × (new.pending ≡ [])

-- What picks choose is left by some crash.
abbrev pub PickedIsCrash : Type 0
PickedIsCrash =
    (s : DiskState) (picks : List ℕ) (image : List (List ℕ)) → IsPicked s picks image
    → IsCrashOf s image

-- From a state that keeps the history a faithful call leads to one that does, however it ends.
abbrev pub CallKeeps : Type 0
CallKeeps =
    (image : List (List ℕ)) (history : List Change) (call : DiskCall) (old new : DiskState)
    → Keeps image history old → IsFaithful image history call → Leads call old new
    → Keeps image history new

-- Each state along a run of faithful calls keeps the history.
abbrev pub RunKeeps : Type 0
RunKeeps =
    (image : List (List ℕ)) (history : List Change) (calls : List DiskCall) (old new : DiskState)
    → Keeps image history old → AreFaithful image history calls → LeadAll calls old new
    → LeadThrough (Keeps image history) calls old new

-- Where reads give the content after the whole history, a sync that succeeds keeps it with a flush
-- more.
abbrev pub FlushKeeps : Type 0
FlushKeeps =
    (image : List (List ℕ)) (history : List Change) (flush : Change) (old new : DiskState)
    → Keeps image history old → IsCurrent image history (read_of old) → IsTrue (is_barrier flush)
    → Leads (sync done) old new → Keeps image (history ++ flush ∷ []) new

-- A state that keeps the history also keeps it with any change more that is no flush, or a failed
-- one.
abbrev pub ChangeKeeps : Type 0
ChangeKeeps = (image : List (List ℕ)) (history : List Change) (change : Change) (s : DiskState)
    → Keeps image history s → is_barrier change ≡ false → Keeps image (history ++ change ∷ []) s

-- What a crash of a state that keeps the history leaves is a crash image of the history.
abbrev pub CrashOfKept : Type 0
CrashOfKept = (image : List (List ℕ)) (history : List Change) (s : DiskState) (left : List (List ℕ))
    → Keeps image history s → IsCrashOf s left → IsCrashImage image history left

-- So is what a crash inside a faithful call of such a state leaves, however the call ends.
abbrev pub CrashInsideCall : Type 0
CrashInsideCall =
    (image : List (List ℕ)) (history : List Change) (call : DiskCall) (old new : DiskState)
    (left : List (List ℕ)) → Keeps image history old → IsFaithful image history call
    → Leads call old new → IsCrashInside old new left → IsCrashImage image history left
