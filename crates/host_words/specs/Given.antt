-- What the words after a command's own word give: values of options, and words of no option.
use Rattle.std.specs.Prelude.{ℕ, ◌==◌, ◌&&◌, ◌||◌, Bool, false, not, if◌then◌else◌, List, [], ◌∷◌}
use Rattle.std.specs.Prelude.{map, filter, Option, Some, None, option_map, bytes_eq, codes}
use Rattle.std.specs.List.{list_any, before_first, after_first}

abbrev pub Word : Type 0
Word = List ℕ

-- the names of a command's options, without their two hyphens: those that take a value, and those
-- that take none
pub record Options : Type 0 where
  pub valued : List Word
  pub plain : List Word

abbrev pub has_name : List Word → Word → Bool
has_name names word = list_any (λ n. bytes_eq n word) names

-- what a word is, where no option waits for its value
pub data Kind : Type 0 where
  -- `--`: every word after it is of no option
  end : Kind
  -- of no option: it doesn't begin with a hyphen, or is one
  other : Kind
  -- `--NAME` of an option that takes none
  plain : Word → Kind
  -- `--NAME=VALUE` of an option that takes one
  joined : Word → Word → Kind
  -- `--NAME` of an option that takes one: the next word
  waits : Word → Kind
  -- no option of the command
  unknown : Kind

abbrev pub option_kind : Options → Word → Option Word → Kind
option_kind o name (Some value) = if has_name o.valued name then joined name value else unknown
option_kind o name None =
    if has_name o.valued name then waits name
    else (if has_name o.plain name then plain name else unknown)

-- what follows the first `=`, where there is one
abbrev pub value_of : Word → Option Word
value_of text =
    if list_any (λ c. c == 61) text then Some (after_first (λ c. c == 61) text) else None

-- what follows two hyphens
abbrev pub after_hyphens : Options → Word → Kind
after_hyphens o [] = end
after_hyphens o (c ∷ cs) = option_kind o (before_first (λ x. x == 61) (c ∷ cs)) (value_of (c ∷ cs))

abbrev pub kind_of : Options → Word → Kind
kind_of o [] = other
kind_of o (c ∷ []) = other
kind_of o (c ∷ d ∷ cs) =
    if c == 45 then (if d == 45 then after_hyphens o cs else unknown) else other

-- values by name, in the order of the words: an option's stands under its name, and is empty where
-- it takes none; a word of no option stands under the name `words`, which no option has
abbrev pub Given : Type 0
Given = List (Word × Word)

abbrev pub words_name : Word
words_name = codes "words"

abbrev pub as_words : List Word → Given
as_words = map (λ w. (words_name, w))

abbrev pub with_value : Word → Word → Option Given → Option Given
with_value name value = option_map (λ given. (name, value) ∷ given)

-- what the first word gives, and then the words after it, by `next` where an option waits for its
-- value or none does
abbrev pub after_word : Kind → Word → List Word → (Option Word → Option Given) → Option Given
after_word end word rest next = Some (as_words rest)
after_word other word rest next = with_value words_name word (next None)
after_word (plain name) word rest next = with_value name [] (next None)
after_word (joined name value) word rest next = with_value name value (next None)
after_word (waits name) word rest next = next (Some name)
after_word unknown word rest next = None

-- a value that is the next word is no option and isn't `--`
abbrev pub as_value : Kind → Option Given → Option Given
as_value other given = given
as_value _ given = None

-- what the words give, after an option that waits for its value or none; `None` where they are no
-- command's words
unfoldable pub given_after : Options → Option Word → List Word → Option Given
given_after o None [] = Some []
given_after o (Some name) [] = None
given_after o None (word ∷ rest) =
    after_word (kind_of o word) word rest (λ waiting. given_after o waiting rest)
given_after o (Some name) (word ∷ rest) =
    as_value (kind_of o word) (with_value name word (given_after o None rest))

abbrev pub given_by : Options → List Word → Option Given
given_by o words = given_after o None words

-- the values under a name
abbrev pub values : Word → Given → List Word
values name given = map (λ g. g.1) (filter (λ g. bytes_eq g.0 name) given)

-- a hyphen and one more byte or several, of which the first is no hyphen: such an option no command
-- has
abbrev pub is_short : Word → Bool
is_short [] = false
is_short (c ∷ []) = false
is_short (c ∷ d ∷ cs) = c == 45 && not (d == 45)

abbrev pub two_hyphens : Word
two_hyphens = codes "--"

-- such a word stands before the first `--`
unfoldable pub has_short : List Word → Bool
has_short [] = false
has_short (word ∷ rest) =
    if bytes_eq word two_hyphens then false else (is_short word || has_short rest)
