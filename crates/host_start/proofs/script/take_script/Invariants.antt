use Rattle.std.proofs.Common.{◌≡◌, ◌≤◌, ◌-◌, ◌++◌, length}
use Rattle.std.specs.Prelude.{IsTrue}
use Rattle.host_start.proofs.script.take_script.Given as goal

abbrev pub invariant-loop-source : goal.invariant-loop-source
invariant-loop-source g l = record {
  tells : g.S.Source.tells l.source ≡ g.S.Source.tells l.initial.source;
  taken : IsTrue (g.S.Source.tells l.initial.source) → g.S.Source.left l.initial.source ≡ l.text.items ++ g.S.Source.left l.source;
  later : g.S.Source.faults l.initial.source ≤ g.S.Source.faults l.source;
}

abbrev pub decreases-loop-source : goal.decreases-loop-source
decreases-loop-source g l = 1048577 - length l.text.items
