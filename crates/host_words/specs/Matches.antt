-- What `clap` found for a name, and how that fits the definition.
use Rattle.std.specs.Prelude.{◌≡◌, List, [], ◌∷◌, map, Option, Some, None, Result, Ok, Err}
use Rattle.std.specs.Prelude.{option_map, unwrap_or, false}
use Rattle.std.specs.Borrow.{Bor}
use Rattle.clap.specs.Matches.{found_of, matched_of, raw_values}
use Rattle.clap.specs.declared.error.kind.ErrorKind.{ErrorKind}
use Rattle.clap.specs.declared.error.kind.ErrorKind.TheVariants.{OutOfMemory}
use Rattle.clap.specs.declared.parser.matches.ArgMatches.{ArgMatches}
use Rattle.host_words.specs.Given.{Given, Options, Word, given_by, has_name, values, words_name}
use Rattle.host_words.specs.declared.words_error.WordsError.{WordsError}
use Rattle.host_words.specs.declared.words_error.WordsError.TheVariants.{BadWords, Oom}

abbrev pub texts_in : ArgMatches → Word → List Word
texts_in m name = unwrap_or (option_map raw_values (matched_of (found_of m) name)) []

-- the values that a look-up gives
abbrev pub listed_words : Option (Bor (List (Bor Word))) → List Word
listed_words found = unwrap_or (option_map (λ s. map (λ v. v.now) s.now) found) []

-- no option has the name that the words of no option stand under
pub record IsProper (o : Options) : Type 0 where
  pub valued : has_name o.valued words_name ≡ false
  pub plain : has_name o.plain words_name ≡ false

-- the matches are the values that the words after the command's own give, or these are outside the
-- grammar
abbrev pub IsGivenBy : Options → List Word → Result ArgMatches WordsError → Type 0
IsGivenBy o words (Ok m) =
    (given : Given) × (given_by o words ≡ Some given)
    × ((name : Word) → texts_in m name ≡ values name given)
IsGivenBy o words (Err BadWords) = given_by o words ≡ None
IsGivenBy o words (Err Oom) = Unit {0}

abbrev pub IsGiven : Options → List Word → Result ArgMatches WordsError → Type 0
IsGiven o [] r = Unit {0}
IsGiven o (w ∷ words) r = IsGivenBy o words r

abbrev pub refusal_of : ErrorKind → WordsError
refusal_of OutOfMemory = Oom
refusal_of _ = BadWords
