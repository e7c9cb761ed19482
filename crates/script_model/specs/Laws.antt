-- What follows from the definitions of the language.
use Rattle.std.specs.Prelude.{◌≡◌, ℕ, ◌≤◌, List, IsTrue, Ok}
use Rattle.script_model.specs.Generate.{generated}
use Rattle.script_model.specs.Planned.{can_be_said}
use Rattle.script_model.specs.Plans.{PlannedSession}
use Rattle.script_model.specs.Print.{script_text}
use Rattle.script_model.specs.Script.{script_of}

-- the printed text of a script that can be said means that script
abbrev pub PrintedAgain : Type 0
PrintedAgain =
    (plans : List PlannedSession) → IsTrue (can_be_said plans)
    → script_of (script_text plans) ≡ Ok plans

-- a script that some text means is meant by its printed text
abbrev pub ReadAgain : Type 0
ReadAgain =
    (text : List ℕ) (plans : List PlannedSession) → script_of text ≡ Ok plans
    → script_of (script_text plans) ≡ Ok plans

-- so is a script that is made from a seed
abbrev pub GeneratedAgain : Type 0
GeneratedAgain =
    (seed sessions requests : ℕ) → sessions ≤ 16
    → let made = generated seed sessions requests in script_of (script_text made) ≡ Ok made
