-- The judge's words for a script are those of a played script.
use Rattle.std.proofs.Common.{◌≡◌, List, [], ◌∷◌, map, refl, ap, ◌∙◌}
use Rattle.played_check.specs.{played_ask}
use Rattle.script_check.specs.{script_ask}
use Rattle.script_model.specs.{ScriptLine}
use Rattle.script_model.specs.declared.script.ScriptLine.TheVariants as line
use Rattle.script_played.specs.{ask_of}

asked_one : (l : ScriptLine) → played_ask (script_ask l) ≡ ask_of l
asked_one (line.Attach pages) = refl
asked_one (line.Fill id block count byte) = refl
asked_one (line.Show id block count) = refl
asked_one (line.Send bytes) = refl
asked_one line.WaitAll = refl
asked_one (line.WaitFor total) = refl

pub asked : (lines : List ScriptLine) → map played_ask (map script_ask lines) ≡ map ask_of lines
asked [] = refl
asked (l ∷ ls) = ap (λ a. a ∷ map played_ask (map script_ask ls)) (asked_one l) ∙ ap (λ later. ask_of l ∷ later) (asked ls)
