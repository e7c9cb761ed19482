use Rattle.std.proofs.Common.{sym, ◌∙◌, arith}
use Rattle.std.proofs.lemmas.Grind.{common_steps}
use Rattle.script_model.proofs.FirstLine.{lines_at, lines_without}
use Rattle.host_script.proofs.split.split_line.Goals as goal

pub returns-in-Some-clause-value : goal.returns-in-Some-clause-value
returns-in-Some-clause-value c =
    let first = lines_at c.args.text.now c.in-Some.end (sym c.line_end.ensures ∙ c.in-Some.is) in
    grind (arith, common_steps, first, c.strip_carriage_return.ensures.value)

pub returns-in-None-clause-value : goal.returns-in-None-clause-value
returns-in-None-clause-value c = lines_without c.args.text.now c.requires (sym c.line_end.ensures ∙ c.in-None.is)
