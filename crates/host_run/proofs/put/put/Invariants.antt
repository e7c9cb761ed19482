use Rattle.std.proofs.Common.{◌≡◌, ◌≤◌, ◌-◌, ◌++◌, length, take}
use Rattle.std.specs.Prelude.{IsTrue}
use Rattle.host_run.proofs.put.put.Given as goal

abbrev pub invariant-loop-count : goal.invariant-loop-count
invariant-loop-count g l = record {
  within : l.count ≤ length l.piece;
  tells : g.K.Sink.tells l.out ≡ g.K.Sink.tells l.initial.out;
  put : IsTrue (g.K.Sink.tells l.initial.out) → g.K.Sink.appended l.out ≡ g.K.Sink.appended l.initial.out ++ take l.count l.piece;
  later : g.K.Sink.faults l.initial.out ≤ g.K.Sink.faults l.out;
}

abbrev pub decreases-loop-count : goal.decreases-loop-count
decreases-loop-count g l = length l.piece - l.count
