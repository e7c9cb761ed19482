-- What the calls of a disk give.
use Rattle.std.specs.Prelude.{◌≡◌, ℕ, ◌≤◌, Bool, IsTrue, false, List, length, Result, Ok, Err, OnOk}
use Rattle.std.specs.Prelude.{IfOk, IsErrOf}
use Rattle.host_block.specs.Disk.{DiskState, Outcome, done, failed, refused, read_of, fresh}
use Rattle.host_io.specs.Causes.{next_count, Rose}
use Rattle.host_io.specs.declared.counts.Counts.{Counts}
use Rattle.host_io.specs.declared.disk.DiskError.{DiskError}
use Rattle.host_io.specs.declared.disk.DiskError.TheVariants.{Failed, Oom}

-- what is known of every disk, and stays from one attach to the next
pub record Shape : Type 0 where
  pub tells : Bool
  pub attached : Bool
  pub writable : Bool
  pub blocks : ℕ
  pub size : ℕ

-- how a call ended, told by its answer
abbrev pub call_error_outcome : DiskError → Outcome
call_error_outcome Failed = failed
call_error_outcome Oom = refused

abbrev pub call_outcome : {T : Type 0} → Result T DiskError → Outcome
call_outcome (Ok x) = done
call_outcome (Err e) = call_error_outcome e

-- the numbers of a disk that no call has touched yet
abbrev pub no_counts : Counts
no_counts = record { faults = 0; reads = 0; writes = 0; syncs = 0 }

-- with one read more; likewise for a write and a sync
abbrev pub read_counted : Counts → Counts
read_counted c =
    record { faults = c.faults; reads = next_count c.reads; writes = c.writes; syncs = c.syncs }

abbrev pub write_counted : Counts → Counts
write_counted c =
    record { faults = c.faults; reads = c.reads; writes = next_count c.writes; syncs = c.syncs }

abbrev pub sync_counted : Counts → Counts
sync_counted c =
    record { faults = c.faults; reads = c.reads; writes = c.writes; syncs = next_count c.syncs }

-- Only reads were called: no write and no sync was counted, the faults never fall, and a disk that
-- never fails stays so and has no fault.
pub record OnlyReads (before now : Counts) (never_fails still_never_fails : Bool) : Type 0 where
  pub writes : now.writes ≡ before.writes
  pub syncs : now.syncs ≡ before.syncs
  pub reads : before.reads ≤ now.reads
  pub later : before.faults ≤ now.faults
  pub still : IsTrue never_fails → IsTrue still_never_fails
  pub no_fault : IsTrue never_fails → now.faults ≡ before.faults

-- What a call does to the numbers: the reads, writes and syncs are those called for, the faults
-- never fall, `Failed` comes only where they rose, and a disk that never fails stays so and has no
-- fault.
pub record Calls {T : Type 0} (before called now : Counts) (never_fails still_never_fails : Bool)
    (result : Result T DiskError) : Type 0 where
  pub reads : now.reads ≡ called.reads
  pub writes : now.writes ≡ called.writes
  pub syncs : now.syncs ≡ called.syncs
  pub later : before.faults ≤ now.faults
  pub failed : IsErrOf result Failed → Rose before.faults now.faults
  pub still : IsTrue never_fails → IsTrue still_never_fails
  pub no_fault : IsTrue never_fails → now.faults ≡ before.faults

-- No image was attached to be written: one can be written now only if one could before.
abbrev pub OpensNone : Shape → Shape → Type 0
OpensNone old new = IsTrue new.writable → IsTrue old.writable

-- What an attach at this size gives, to be written or to be read alone. The latter opens none to be
-- written, also where it fails. A disk that tells has this image, with nothing pending.
pub record Attaches {E : Type 0} (size : ℕ) (writes : Bool) (image : List (List ℕ))
    (old new : Shape) (state : DiskState) (result : Result ℕ E) : Type 0 where
  pub tells : new.tells ≡ old.tells
  pub is_attached : OnOk result (IsTrue new.attached)
  pub writable : OnOk result (new.writable ≡ writes)
  pub opens_none : writes ≡ false → OpensNone old new
  pub count : IfOk result (λ n. n ≡ new.blocks)
  pub of_size : OnOk result (new.size ≡ size)
  pub blocks : IsTrue old.tells → OnOk result (new.blocks ≡ length image)
  pub content : IsTrue old.tells → OnOk result (state ≡ fresh image)

-- Where the disk tells, a read gives what was put into the block last, be it pending or durable.
abbrev pub Reads : {E : Type 0} → Bool → DiskState → ℕ → List ℕ → Result Unit E → Type 0
Reads tells state b into result = IsTrue tells → OnOk result (into ≡ read_of state b)
