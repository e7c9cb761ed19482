use Rattle.std.proofs.Common.{List, ℕ, subst}
use Rattle.host_start.specs.{Means}
use Rattle.host_start.proofs.ReadLemmas.{gives}
use Rattle.script_model.specs.{script_of}
use Rattle.host_start.proofs.script.read_script.Goals as goal

pub returns-clause-script : goal.returns-clause-script
returns-clause-script g c = λ told.
    gives c.args.size _ _ c.in_ok-text.text.items c.meant.result (c.in_ok-text.ensures.text told) (subst (λ (l : List ℕ). Means c.args.size (script_of l) c.meant.result) c.deref.ensures.value c.meant.ensures.means)
