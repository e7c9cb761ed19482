use Rattle.std.proofs.Common.{take, flat_map}
use Rattle.host_model.specs.{below}
use Rattle.host_report.specs.{shown_line}
use Rattle.host_text.specs.{AppendsText}
use Rattle.host_report.proofs.text.event.write_blocks.Given as goal

abbrev pub invariant-loop-k : goal.invariant-loop-k
invariant-loop-k g l = AppendsText g.K.Sink.tells g.K.Sink.faults g.K.Sink.appended l.initial.out l.initial.held l.out l.held
    (flat_map (shown_line l.size l.block l.bytes) (take l.k (below l.count)))
