-- Words of printed lines.
use Rattle.std.specs.Prelude.{ℕ, ◌/◌, ◌%◌, false, ◌==◌, List, [], ◌∷◌, ◌++◌, flat_map, get_or}
use Rattle.std.specs.Prelude.{codes, if◌then◌else◌}
use Rattle.std.specs.Fmt.{digit_glyph}
use Rattle.std.specs.List.{list_all}

-- a byte as two lower-case digits
abbrev pub hex_byte : ℕ → List ℕ
hex_byte b = digit_glyph false (b / 16) ∷ digit_glyph false (b % 16) ∷ []

abbrev pub hex : List ℕ → List ℕ
hex bytes = flat_map hex_byte bytes

-- the bytes of a block: one byte where all are equal, else each
abbrev pub block_word : List ℕ → List ℕ
block_word bytes =
    let b = get_or bytes 0 0 in
    if list_all (λ c. c == b) bytes then codes "all " ++ hex_byte b else hex bytes

-- a line of words with a space between
abbrev pub line : List (List ℕ) → List ℕ
line [] = 10 ∷ []
line (w ∷ []) = w ++ 10 ∷ []
line (w ∷ v ∷ words) = w ++ 32 ∷ line (v ∷ words)
