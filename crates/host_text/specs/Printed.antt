-- What the words of a line are printed as.
use Rattle.std.specs.Prelude.{ℕ, List, [], ◌∷◌, ◌++◌, flat_map, map, decimal}
use Rattle.std.specs.Fmt.{signed_decimal}
use Rattle.host_text.specs.declared.word.Word.{Word}
use Rattle.host_text.specs.declared.word.Word.TheVariants.{Text, Number, Total, Signed, Byte, Hex}
use Rattle.host_text.specs.declared.word.Word.TheVariants.{Block, Stored}
use Rattle.host_text.specs.Words.{hex_byte, hex, block_word}

abbrev pub printed : Word → List ℕ
printed (Text text) = text.now
printed (Number n) = decimal n
printed (Total n) = decimal n
printed (Signed n) = signed_decimal n
printed (Byte b) = hex_byte b
printed (Hex bytes) = hex bytes.now
printed (Block bytes) = block_word bytes.now
printed (Stored bytes) = block_word bytes.now

abbrev pub all_printed : List Word → List (List ℕ)
all_printed words = map printed words

-- a word with a space before it
abbrev pub after_space : Word → List ℕ
after_space word = 32 ∷ printed word

-- words with a space between them
abbrev pub spaced : List Word → List ℕ
spaced [] = []
spaced (word ∷ words) = printed word ++ flat_map after_space words
