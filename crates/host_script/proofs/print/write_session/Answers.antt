use Rattle.std.proofs.Common.{[], ◌∷◌, flat_map}
use Rattle.host_text.specs.{line}
use Rattle.host_text.proofs.Putting.{puts_exit, stops_later, stops_longer}
use Rattle.script_model.specs.{end_word, line_text}
use Rattle.host_script.proofs.print.write_session.Goals as goal

pub returns-in_err-put_line : goal.returns-in_err-put_line
returns-in_err-put_line g c =
    let s = c.args.session.now in
    puts_exit _ _ c.from_residual.ensures.0 (stops_longer (line (end_word s.finish ∷ [])) (stops_longer (flat_map line_text s.lines.items) c.in_err-put_line.ensures))

pub returns-in_err-write_lines : goal.returns-in_err-write_lines
returns-in_err-write_lines g c =
    let s = c.args.session.now in
    puts_exit _ _ c.from_residual-in_err-write_lines.ensures.0 (stops_longer (line (end_word s.finish ∷ [])) (stops_later c.in_ok-put_line.ensures (rw c.as_slice.ensures at c.in_err-write_lines.ensures)))
