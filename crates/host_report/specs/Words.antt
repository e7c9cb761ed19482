-- Lines that stand below another, and words of a log.
use Rattle.std.specs.Prelude.{ℕ, Bool, true, false, List, ◌++◌, codes}
use Rattle.host_text.specs.Words.{line}

-- a line of a session or a step, and one of a block that was shown
abbrev pub inner : List (List ℕ) → List ℕ
inner words = codes "  " ++ line words

abbrev pub innermost : List (List ℕ) → List ℕ
innermost words = codes "    " ++ line words

abbrev pub yes_or_no : Bool → List ℕ
yes_or_no true = codes "yes"
yes_or_no false = codes "no"
