use Rattle.script_model.proofs.PrintedScript as printed
use Rattle.script_model.proofs.SaidScript.{script_fits}
use Rattle.script_model.proofs.laws.read_again.Goals as goal

pub returns : goal.returns
returns c = λ text ss h. printed.printed_again ss (script_fits text ss h)
