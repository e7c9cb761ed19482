use Rattle.std.specs.List.{list_all}
use Rattle.std.proofs.lemmas.List.Folds.{list_all-map}
use Rattle.script_model.specs.{is_allowed}
use Rattle.host_script.proofs.line.Line.is_allowed.Goals as goal

pub returns : goal.returns
returns c = let e = list_all-map (list_all is_allowed) (λ w. w.now) c.self.inside.words.items in cc
