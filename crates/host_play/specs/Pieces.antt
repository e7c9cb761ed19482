-- The pieces of bytes that shows are put into.
use Rattle.std.specs.Prelude.{◌≡◌, ℕ, ◌*◌, ◌≤◌, List, [], ◌∷◌, ◌++◌, map, length, filter_map}
use Rattle.std.specs.Prelude.{reverse, Option, Some, None}
use Rattle.script_model.specs.declared.script.ScriptLine.{ScriptLine}
use Rattle.script_model.specs.declared.script.ScriptLine.TheVariants.{Show}

-- a show is of few enough blocks that its piece's length fits a number of 32 bits
abbrev pub FitsShow : ScriptLine → Type 0
FitsShow (Show id block count) = count ≤ 4096
FitsShow _ = Unit {0}

-- how long the piece of a line is, with blocks of this size
abbrev pub piece_length : ℕ → ScriptLine → Option ℕ
piece_length size (Show id block count) = Some (count * size)
piece_length size _ = None

abbrev pub piece_lengths : ℕ → List ScriptLine → List ℕ
piece_lengths size lines = filter_map (piece_length size) lines

-- a piece for each line that shows, the last line's first
abbrev pub ArePieces : ℕ → List ScriptLine → List (List ℕ) → Type 0
ArePieces size lines pieces =
    map (λ (piece : List ℕ). length piece) pieces ≡ reverse (piece_lengths size lines)

-- ---- one of them

-- the next one has this length, if one is asked for
abbrev pub IsNextPiece : Option ℕ → List (List ℕ) → Type 0
IsNextPiece None pieces = Unit {0}
IsNextPiece (Some n) pieces =
    (rest : List (List ℕ)) × (piece : List ℕ) × (pieces ≡ rest ++ piece ∷ []) × (length piece ≡ n)

-- it was taken
abbrev pub WasTaken : Option ℕ → List (List ℕ) → List (List ℕ) → Type 0
WasTaken None old new = new ≡ old
WasTaken (Some n) old new = (piece : List ℕ) × (old ≡ new ++ piece ∷ [])
