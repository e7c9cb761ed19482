-- Calls that only read, one after another.
use Rattle.std.proofs.Common.{◌∙◌, Bool, Result, arith}
use Rattle.host_io.specs.{Calls, OnlyReads, read_counted, Counts, DiskError}

pub one_more_read : {T : Type 0} (first before now : Counts) (never still last : Bool) (result : Result T DiskError) → OnlyReads first before never still
    → Calls before (read_counted before) now still last result → OnlyReads first now never last
one_more_read first before now never still last result few call = record {
  writes = call.writes ∙ few.writes;
  syncs = call.syncs ∙ few.syncs;
  reads = omega (arith, call.reads, few.reads);
  later = omega (arith, call.later, few.later);
  still = λ may. call.still (few.still may);
  no_fault = λ may. call.no_fault (few.still may) ∙ few.no_fault may;
}
