-- What a crash at some moment of a run of disk calls may leave.
use Rattle.std.specs.Prelude.{◌≡◌, ℕ, List, [], ◌∷◌}
use Rattle.host_block.specs.Disk.{DiskState, DiskCall, Leads, IsCrashOf, IsCrashInside}

-- These calls lead from the first state to the second, and P holds of each image that a crash
-- leaves before the first of them, inside each, between any two and after the last.
abbrev pub CrashesLeave : (List (List ℕ) → Type 0) → List DiskCall → DiskState → DiskState → Type 0
CrashesLeave P [] old new = ((left : List (List ℕ)) → IsCrashOf old left → P left) × (new ≡ old)
CrashesLeave P (call ∷ calls) old new =
    (mid : DiskState) × Leads call old mid
    × ((left : List (List ℕ)) → IsCrashInside old mid left → P left) × CrashesLeave P calls mid new
