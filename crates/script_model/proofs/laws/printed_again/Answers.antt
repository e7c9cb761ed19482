use Rattle.script_model.proofs.PrintedScript as printed
use Rattle.script_model.proofs.laws.printed_again.Goals as goal

pub returns : goal.returns
returns c = printed.printed_again
