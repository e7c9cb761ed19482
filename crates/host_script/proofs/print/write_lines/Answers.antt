use Rattle.std.proofs.Common.{get_or, refl, arith}
use Rattle.host_text.proofs.Putting.{puts_exit, stops_at}
use Rattle.script_model.specs.{ScriptLine, Attach, line_text}
use Rattle.host_script.proofs.print.write_lines.Goals as goal

abbrev fallback : ScriptLine
fallback = Attach 0

pub returns-in_err-write_line : goal.returns-in_err-write_line
returns-in_err-write_line g c =
    let lines = c.args.lines.now in
    let i = c.loop-line.line-index in
    puts_exit _ _ c.from_residual.ensures.0
    (stops_at line_text lines i (get_or lines i fallback) fallback (omega arith) refl c.loop-line.invariant c.in_err-write_line.ensures)
