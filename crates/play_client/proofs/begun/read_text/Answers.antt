use Rattle.std.proofs.Common.{sym, ◌∙◌}
use Rattle.script_model.specs.{plans_of}
use Rattle.play_client.proofs.Beginning.{fit}
use Rattle.play_client.proofs.begun.read_text.Goals as goal

pub returns-in-None : goal.returns-in-None
returns-in-None c = fit c.args.size c.args.text.now (plans_of c.in-Ok.script) c.in-Ok.ensures (sym c.limit.ensures ∙ c.in-None.is)
