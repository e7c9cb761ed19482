use Rattle.std.proofs.Common.{◌≤◌, ◌-◌, [], length, take}
use Rattle.host_text.specs.{AppendsText}
use Rattle.host_text.proofs.held.put_all.Given as goal

abbrev pub invariant-loop-count : goal.invariant-loop-count
invariant-loop-count g l = record {
  within : l.count ≤ length l.piece;
  put : AppendsText g.K.Sink.tells g.K.Sink.faults g.K.Sink.appended l.initial.out [] l.out [] (take l.count l.piece);
}

abbrev pub decreases-loop-count : goal.decreases-loop-count
decreases-loop-count g l = length l.piece - l.count
