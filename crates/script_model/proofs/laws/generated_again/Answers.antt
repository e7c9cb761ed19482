use Rattle.script_model.specs.{generated}
use Rattle.script_model.proofs.PrintedScript as printed
use Rattle.script_model.proofs.SaidScript.{generated_fits}
use Rattle.script_model.proofs.laws.generated_again.Goals as goal

pub returns : goal.returns
returns c = λ seed sessions requests h. printed.printed_again (generated seed sessions requests) (generated_fits seed sessions requests h)
