use Rattle.std.proofs.Common.{take, flat_map}
use Rattle.host_text.specs.{AppendsText}
use Rattle.script_model.specs.{line_text}
use Rattle.host_script.proofs.print.write_lines.Given as goal

abbrev pub invariant-loop-line : goal.invariant-loop-line
invariant-loop-line g l = AppendsText g.K.Sink.tells g.K.Sink.faults g.K.Sink.appended l.initial.out l.initial.held l.out l.held (flat_map line_text (take l.line-index l.lines))
