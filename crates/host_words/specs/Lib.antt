-- What is defined here, by file.
--   Commands Meaning: what a command is told
--   Commands meaning_of: of the code's type
--   Commands run_options
--   Commands list_options
--   Commands make_options
--   Commands load_options
--   Commands named: the name of an image is a word that isn't empty
--   Commands block_in: the size of a block, where none is given 512
--   Commands workers_in
--   Commands depth_in
--   Commands seed_of
--   Commands sessions_of
--   Commands requests_word
--   Commands run_at
--   Commands list_at
--   Commands make_at
--   Commands load_at
--   Commands run_meaning
--   Commands list_meaning
--   Commands make_meaning
--   Commands load_meaning
--   Commands under_names
--   Commands of_command
--   Commands ReadsAs: the answer is the command of these words, of which the first is the ..
--   Commands ReadsWords
--   Commands command_named: what the command of a name makes of the words after it
--   Commands ReadsNamed
--   Commands command_of: the command that the words of a call name; `None` where they are ..
--   Given Word
--   Given Options: the names of a command's options, without their two hyphens: those that take ..
--   Given has_name
--   Given Kind: what a word is, where no option waits for its value
--   Given option_kind
--   Given value_of: what follows the first `=`, where there is one
--   Given after_hyphens: what follows two hyphens
--   Given kind_of
--   Given Given: values by name, in the order of the words: an option's stands under its name, ..
--   Given words_name
--   Given as_words
--   Given with_value
--   Given after_word: what the first word gives, and then the words after it, by `next` where ..
--   Given as_value: a value that is the next word is no option and isn't `--`
--   Given given_after: what the words give, after an option that waits for its value or none; ..
--   Given given_by
--   Given values: the values under a name
--   Given is_short: a hyphen and one more byte or several, of which the first is no hyphen: ..
--   Given two_hyphens
--   Given has_short: such a word stands before the first `--`
--   Matches texts_in
--   Matches listed_words: the values that a look-up gives
--   Matches IsProper: no option has the name that the words of no option stand under
--   Matches IsGivenBy: the matches are the values that the words after the command's own give, ..
--   Matches IsGiven
--   Matches refusal_of
--   Numbers is_digit
--   Numbers word_digits_after: the number that n becomes by these further decimal digits
--   Numbers decimal: the value of one or more decimal digits
--   Numbers word_in_range
--   Numbers number: a number from low to high, both among them
--   Numbers size_word: the number of bytes of a block
--   Numbers block_size
--   Numbers optional: the values of an option that may be left out: none, or one
--   Numbers is_set: whether an option without a value stands there, at most once
--   Steps ◌>>=◌
--   Syntax valued_rule: an option with a value
--   Syntax plain_rule: an option without one, which stands with an empty value
--   Syntax words_rule: the words of no option
--   Syntax rules
--   Syntax bare: a command without help and version
--   Syntax syntax
pub mod Commands
pub mod Given
pub mod Matches
pub mod Numbers
pub mod Steps
pub mod Syntax
pub use Commands.{Meaning, run, lists, make, load, meaning_of, run_options, list_options}
pub use Commands.{make_options, load_options, named, block_in, workers_in, depth_in, seed_of}
pub use Commands.{sessions_of, requests_word, run_at, list_at, make_at, load_at, under_names}
pub use Commands.{of_command, ReadsAs, ReadsWords, ReadsNamed, command_of}
unfoldable pub use Commands.{run_meaning, list_meaning, make_meaning, load_meaning, command_named}
pub use Given.{Word, Options, has_name, Kind, end, other, plain, joined, waits, unknown}
pub use Given.{option_kind, value_of, after_hyphens, kind_of, words_name, as_words, with_value}
pub use Given.{after_word, as_value, given_by, values, is_short, two_hyphens}
unfoldable pub use Given.{given_after, has_short}
pub use Matches.{texts_in, IsProper, IsGivenBy, IsGiven, refusal_of}
pub use Numbers.{is_digit, word_digits_after, decimal, word_in_range, optional, is_set}
unfoldable pub use Numbers.{number, block_size}
pub use Steps.{◌>>=◌}
pub use Syntax.{valued_rule, plain_rule, words_rule, rules, syntax}
pub use declared.command.Command.{Command}
pub use declared.words_error.WordsError.{WordsError}
pub use declared.words_error.WordsError.TheVariants.{BadWords, Oom}
