-- Reads alone, one after the other.
use Rattle.std.proofs.Common.{Bool, Result, ◌∙◌, arith}
use Rattle.host_io.specs.{Calls, OnlyReads, read_counted, Counts, DiskError}

pub one_read_more : {T : Type 0} (before mid now : Counts) (never then_never now_never : Bool) (result : Result T DiskError) → OnlyReads before mid never then_never → Calls mid (read_counted mid) now then_never now_never result → OnlyReads before now never now_never
one_read_more before mid now never then_never now_never result reads calls = record {
  writes = calls.writes ∙ reads.writes;
  syncs = calls.syncs ∙ reads.syncs;
  reads = omega (arith, calls.reads, reads.reads);
  later = omega arith;
  still = λ t. calls.still (reads.still t);
  no_fault = λ t. calls.no_fault (reads.still t) ∙ reads.no_fault t;
}
