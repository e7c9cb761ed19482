-- The command that the words of a call name, with what they say of it.
use Rattle.std.specs.Prelude.{ℕ, ◌==◌, Bool, if◌then◌else◌, List, [], ◌∷◌, Option, Some, None}
use Rattle.std.specs.Prelude.{Result, Ok, Err, ◌≡◌, length, unwrap_or, bytes_eq, codes}
use Rattle.host_words.specs.Given.{Given, Options, Word, given_by, values, words_name}
use Rattle.host_words.specs.Numbers.{block_size, is_set, number, optional}
use Rattle.host_words.specs.Steps.{◌>>=◌}
use Rattle.host_words.specs.declared.words_error.WordsError.{WordsError}
use Rattle.host_words.specs.declared.words_error.WordsError.TheVariants.{BadWords, Oom}
use Rattle.host_words.specs.declared.command.Command.{Command}
use Rattle.host_words.specs.declared.command.Command.TheVariants as command

-- what a command is told
pub data Meaning : Type 0 where
  -- the image, the size of a block, the workers and the depth where they are given, and whether
  -- `--dry`, `--cut` and `--steps` are
  run : Word → ℕ → Option ℕ → Option ℕ → Bool → Bool → Bool → Meaning
  -- the image and the size of a block
  lists : Word → ℕ → Meaning
  -- seed, sessions, requests
  make : ℕ → ℕ → ℕ → Meaning
  -- the image, seed, sessions, requests, the size of a block, the workers and the depth where they
  -- are given
  load : Word → ℕ → ℕ → ℕ → ℕ → Option ℕ → Option ℕ → Meaning

-- of the code's type
abbrev pub meaning_of : Command → Meaning
meaning_of (command.Run image block workers depth dry cut steps) =
    run image.now block workers depth dry cut steps
meaning_of (command.List image block) = lists image.now block
meaning_of (command.Make seed sessions requests) = make seed sessions requests
meaning_of (command.Load image seed sessions requests block workers depth) =
    load image.now seed sessions requests block workers depth

-- the options of each command

abbrev pub run_options : Options
run_options =
    record {
      valued = codes "block" ∷ codes "workers" ∷ codes "depth" ∷ [];
      plain = codes "dry" ∷ codes "cut" ∷ codes "steps" ∷ [];
    }

abbrev pub list_options : Options
list_options = record { valued = codes "block" ∷ []; plain = [] }

abbrev pub make_options : Options
make_options = record { valued = []; plain = [] }

abbrev pub load_options : Options
load_options = record { valued = codes "block" ∷ codes "workers" ∷ codes "depth" ∷ []; plain = [] }

-- the name of an image is a word that isn't empty
abbrev pub named : Word → Option Word
named w = if length w == 0 then None else Some w

-- the size of a block, where none is given 512
abbrev pub block_in : (Word → List Word) → Option ℕ
block_in under = do
  block ← optional block_size (under (codes "block"))
  Some (unwrap_or block 512)

abbrev pub workers_in : (Word → List Word) → Option (Option ℕ)
workers_in under = optional (number 1 16) (under (codes "workers"))

abbrev pub depth_in : (Word → List Word) → Option (Option ℕ)
depth_in under = optional (number 1 128) (under (codes "depth"))

abbrev pub seed_of : Word → Option ℕ
seed_of = number 0 2147483647

abbrev pub sessions_of : Word → Option ℕ
sessions_of = number 1 16

abbrev pub requests_word : Word → Option ℕ
requests_word = number 1 2048

-- what each command makes of the values under the names

abbrev pub run_at : (Word → List Word) → List Word → Option Meaning
run_at under (image ∷ []) = do
  name ← named image
  block ← block_in under
  workers ← workers_in under
  depth ← depth_in under
  dry ← is_set (under (codes "dry"))
  cut ← is_set (under (codes "cut"))
  steps ← is_set (under (codes "steps"))
  Some (run name block workers depth dry cut steps)
run_at under _ = None

abbrev pub list_at : (Word → List Word) → List Word → Option Meaning
list_at under (image ∷ []) = do
  name ← named image
  block ← block_in under
  Some (lists name block)
list_at under _ = None

abbrev pub make_at : List Word → Option Meaning
make_at (a ∷ b ∷ c ∷ []) = do
  seed ← seed_of a
  sessions ← sessions_of b
  requests ← requests_word c
  Some (make seed sessions requests)
make_at _ = None

abbrev pub load_at : (Word → List Word) → List Word → Option Meaning
load_at under (image ∷ a ∷ b ∷ c ∷ []) = do
  name ← named image
  seed ← seed_of a
  sessions ← sessions_of b
  requests ← requests_word c
  block ← block_in under
  workers ← workers_in under
  depth ← depth_in under
  Some (load name seed sessions requests block workers depth)
load_at under _ = None

unfoldable pub run_meaning : (Word → List Word) → Option Meaning
run_meaning under = run_at under (under words_name)

unfoldable pub list_meaning : (Word → List Word) → Option Meaning
list_meaning under = list_at under (under words_name)

unfoldable pub make_meaning : (Word → List Word) → Option Meaning
make_meaning under = make_at (under words_name)

unfoldable pub load_meaning : (Word → List Word) → Option Meaning
load_meaning under = load_at under (under words_name)

abbrev pub under_names : Given → Word → List Word
under_names given name = values name given

abbrev pub of_command : Options → ((Word → List Word) → Option Meaning) → List Word → Option Meaning
of_command o meaning words = do
  given ← given_by o words
  meaning (under_names given)

-- the answer is the command of these words, of which the first is the command's own, or says that
-- they are none
abbrev pub ReadsAs : Option Meaning → Result Command WordsError → Type 0
ReadsAs meaning (Ok c) = meaning ≡ Some (meaning_of c)
ReadsAs meaning (Err BadWords) = meaning ≡ None
ReadsAs meaning (Err Oom) = Unit {0}

abbrev pub ReadsWords : Options → ((Word → List Word) → Option Meaning) → List Word
    → Result Command WordsError → Type 0
ReadsWords o meaning [] r = Unit {0}
ReadsWords o meaning (w ∷ rest) r = ReadsAs (of_command o meaning rest) r

-- what the command of a name makes of the words after it
unfoldable pub command_named : Word → List Word → Option Meaning
command_named name rest =
    if bytes_eq name (codes "run") then of_command run_options run_meaning rest
    else (if bytes_eq name (codes "list") then of_command list_options list_meaning rest
    else (if bytes_eq name (codes "make") then of_command make_options make_meaning rest
    else (if bytes_eq name (codes "load") then of_command load_options load_meaning rest
    else None)))

abbrev pub ReadsNamed : Word → List Word → Result Command WordsError → Type 0
ReadsNamed name [] r = Unit {0}
ReadsNamed name (w ∷ rest) r = ReadsAs (command_named name rest) r

-- the command that the words of a call name; `None` where they are outside the grammar
abbrev pub command_of : List Word → Option Meaning
command_of [] = None
command_of (name ∷ rest) = command_named name rest
