-- The numbers that words say are in their ranges.
use Rattle.std.proofs.Common.{◌≡◌, ℕ, ◌≤◌, Bool, true, false, cond, List, [], ◌∷◌, Option, Some, None, Result, Ok, Err, refl, ap, subst, codes, lit≤}
use Rattle.std.specs.Prelude.{IfOk, IfSome, ◌&&◌, nat_le, unwrap_or, option_map}
use Rattle.std.specs.Str.{bytes_eq}
use Rattle.std.proofs.lemmas.Bool.{leb-true}
use Rattle.host_words.specs.{Meaning, block_in, command_named, command_of, depth_in, list_at, list_meaning, list_options, lists, load, load_at, load_meaning, load_options, make, make_at, make_meaning, make_options, meaning_of, named, of_command, requests_word, run, run_at, run_meaning, run_options, seed_of, sessions_of, under_names, workers_in, Options, Word, given_by, words_name, decimal, word_in_range, is_set, number, optional, ◌>>=◌, Command, WordsError}
use Rattle.host_words.specs.Given.{Given}
use Rattle.host_words.specs.declared.words_error.WordsError.TheVariants as error
use Rattle.host_run.specs.{Asks, HasNumbers}

bounded : (low high : ℕ) (o : Option ℕ) → IfSome (word_in_range low high o) (λ n. (low ≤ n) × (n ≤ high))
bounded low high None = tt
bounded low high (Some n) = go (nat_le low n) (nat_le n high) refl refl
  where
    go : (a b : Bool) → nat_le low n ≡ a → nat_le n high ≡ b → IfSome (cond (a && b) (Some n) None) (λ m. (low ≤ m) × (m ≤ high))
    go true true d e = (leb-true low n d, leb-true n high e)
    go true false d e = tt
    go false b d e = tt

number_bounded : (low high : ℕ) (word : Word) → IfSome (number low high word) (λ n. (low ≤ n) × (n ≤ high))
unfolding number
number_bounded low high word = bounded low high (decimal word)

-- the value of an option that may be left out, or what stands for it
abbrev OptionIn : ℕ → ℕ → ℕ → Option (Option ℕ) → Type 0
OptionIn low high default o = IfSome o (λ value. (low ≤ unwrap_or value default) × (unwrap_or value default ≤ high))

option_bounded : (low high default : ℕ) (words : List Word) → low ≤ default → default ≤ high → OptionIn low high default (optional (number low high) words)
option_bounded low high default [] least most = (least, most)
option_bounded low high default (w ∷ x ∷ words) least most = tt
option_bounded low high default (w ∷ []) least most = go (number low high w) (number_bounded low high w)
  where
    go : (o : Option ℕ) → IfSome o (λ n. (low ≤ n) × (n ≤ high)) → OptionIn low high default (option_map (λ n. Some n) o)
    go None h = tt
    go (Some n) h = h

workers_bounded : (under : Word → List Word) → OptionIn 1 16 2 (workers_in under)
workers_bounded under = option_bounded 1 16 2 (under (codes "workers")) (lit≤ tt) (lit≤ tt)

depth_bounded : (under : Word → List Word) → OptionIn 1 128 128 (depth_in under)
depth_bounded under = option_bounded 1 128 128 (under (codes "depth")) (lit≤ tt) (lit≤ tt)

-- a command has the numbers that it has for all values under its names
of_has : (o : Options) (meaning : (Word → List Word) → Option Meaning) (rest : List Word) → ((under : Word → List Word) → IfSome (meaning under) HasNumbers) → IfSome (of_command o meaning rest) HasNumbers
of_has o meaning rest h = go (given_by o rest)
  where
    go : (g : Option Given) → IfSome (g >>= (λ given. meaning (under_names given))) HasNumbers
    go None = tt
    go (Some given) = h (under_names given)

make_has : (words : List Word) → IfSome (make_at words) HasNumbers
make_has [] = tt
make_has (a ∷ []) = tt
make_has (a ∷ b ∷ []) = tt
make_has (a ∷ b ∷ c ∷ d ∷ words) = tt
make_has (a ∷ b ∷ c ∷ []) = go (seed_of a) (sessions_of b) (requests_word c) (number_bounded 0 2147483647 a) (number_bounded 1 16 b) (number_bounded 1 2048 c)
  where
    go : (s t u : Option ℕ) → IfSome s (λ n. (0 ≤ n) × (n ≤ 2147483647)) → IfSome t (λ n. (1 ≤ n) × (n ≤ 16)) → IfSome u (λ n. (1 ≤ n) × (n ≤ 2048))
        → IfSome (s >>= (λ seed. t >>= (λ sessions. u >>= (λ requests. Some (make seed sessions requests))))) HasNumbers
    go None t u h i j = tt
    go (Some seed) None u h i j = tt
    go (Some seed) (Some sessions) None h i j = tt
    go (Some seed) (Some sessions) (Some requests) h i j = record { few_seeds = h.1; few_sessions = i.1; few_requests = j.1 }

run_has : (under : Word → List Word) (words : List Word) → IfSome (run_at under words) HasNumbers
run_has under [] = tt
run_has under (image ∷ w ∷ words) = tt
run_has under (image ∷ []) = go (named image) (block_in under) (workers_in under) (depth_in under) (is_set (under (codes "dry"))) (is_set (under (codes "cut"))) (is_set (under (codes "steps"))) (workers_bounded under) (depth_bounded under)
  where
    go : (a : Option Word) (b : Option ℕ) (c d : Option (Option ℕ)) (e f g : Option Bool) → OptionIn 1 16 2 c → OptionIn 1 128 128 d
        → IfSome (a >>= (λ name. b >>= (λ block. c >>= (λ workers. d >>= (λ depth. e >>= (λ dry. f >>= (λ cut. g >>= (λ steps. Some (run name block workers depth dry cut steps))))))))) HasNumbers
    go None b c d e f g h i = tt
    go (Some name) None c d e f g h i = tt
    go (Some name) (Some block) None d e f g h i = tt
    go (Some name) (Some block) (Some workers) None e f g h i = tt
    go (Some name) (Some block) (Some workers) (Some depth) None f g h i = tt
    go (Some name) (Some block) (Some workers) (Some depth) (Some dry) None g h i = tt
    go (Some name) (Some block) (Some workers) (Some depth) (Some dry) (Some cut) None h i = tt
    go (Some name) (Some block) (Some workers) (Some depth) (Some dry) (Some cut) (Some steps) h i = record { some_workers = h; some_depth = i }

list_has : (under : Word → List Word) (words : List Word) → IfSome (list_at under words) HasNumbers
list_has under [] = tt
list_has under (image ∷ w ∷ words) = tt
list_has under (image ∷ []) = go (named image) (block_in under)
  where
    go : (a : Option Word) (b : Option ℕ) → IfSome (a >>= (λ name. b >>= (λ block. Some (lists name block)))) HasNumbers
    go None b = tt
    go (Some name) None = tt
    go (Some name) (Some block) = tt

load_has : (under : Word → List Word) (words : List Word) → IfSome (load_at under words) HasNumbers
load_has under [] = tt
load_has under (image ∷ []) = tt
load_has under (image ∷ a ∷ []) = tt
load_has under (image ∷ a ∷ b ∷ []) = tt
load_has under (image ∷ a ∷ b ∷ c ∷ d ∷ words) = tt
load_has under (image ∷ a ∷ b ∷ c ∷ []) = go (named image) (seed_of a) (sessions_of b) (requests_word c) (block_in under) (workers_in under) (depth_in under)
    (number_bounded 0 2147483647 a) (number_bounded 1 16 b) (number_bounded 1 2048 c) (workers_bounded under) (depth_bounded under)
  where
    go : (i : Option Word) (s t u b : Option ℕ) (w d : Option (Option ℕ))
        → IfSome s (λ n. (0 ≤ n) × (n ≤ 2147483647)) → IfSome t (λ n. (1 ≤ n) × (n ≤ 16)) → IfSome u (λ n. (1 ≤ n) × (n ≤ 2048)) → OptionIn 1 16 2 w → OptionIn 1 128 128 d
        → IfSome (i >>= (λ name. s >>= (λ seed. t >>= (λ sessions. u >>= (λ requests. b >>= (λ block. w >>= (λ workers. d >>= (λ depth. Some (load name seed sessions requests block workers depth))))))))) HasNumbers
    go None s t u b w d h j k l m = tt
    go (Some name) None t u b w d h j k l m = tt
    go (Some name) (Some seed) None u b w d h j k l m = tt
    go (Some name) (Some seed) (Some sessions) None b w d h j k l m = tt
    go (Some name) (Some seed) (Some sessions) (Some requests) None w d h j k l m = tt
    go (Some name) (Some seed) (Some sessions) (Some requests) (Some block) None d h j k l m = tt
    go (Some name) (Some seed) (Some sessions) (Some requests) (Some block) (Some workers) None h j k l m = tt
    go (Some name) (Some seed) (Some sessions) (Some requests) (Some block) (Some workers) (Some depth) h j k l m =
        (record { few_seeds = h.1; few_sessions = j.1; few_requests = k.1 }, record { some_workers = l; some_depth = m })

named_has : (name : Word) (rest : List Word) → IfSome (command_named name rest) HasNumbers
unfolding command_named run_meaning list_meaning make_meaning load_meaning
named_has name rest = go (bytes_eq name (codes "run")) (bytes_eq name (codes "list")) (bytes_eq name (codes "make")) (bytes_eq name (codes "load"))
  where
    go : (a b c d : Bool) → IfSome (cond a (of_command run_options run_meaning rest) (cond b (of_command list_options list_meaning rest)
        (cond c (of_command make_options make_meaning rest) (cond d (of_command load_options load_meaning rest) None)))) HasNumbers
    go true b c d = of_has run_options run_meaning rest (λ under. run_has under (under words_name))
    go false true c d = of_has list_options list_meaning rest (λ under. list_has under (under words_name))
    go false false true d = of_has make_options make_meaning rest (λ under. make_has (under words_name))
    go false false false true = of_has load_options load_meaning rest (λ under. load_has under (under words_name))
    go false false false false = tt

command_has : (words : List Word) → IfSome (command_of words) HasNumbers
command_has [] = tt
command_has (name ∷ rest) = named_has name rest

-- words with a command
asks : (words : List Word) (command : Command) → command_of words ≡ Some (meaning_of command) → Asks (command_of words) (Ok command)
asks words command is = (is, subst (λ o. IfSome o HasNumbers) is (command_has words))

-- words without one
asks_nothing : (asked : Option Meaning) (e : WordsError) → (e ≡ error.BadWords → asked ≡ None) → Asks asked (Err e)
asks_nothing asked error.BadWords bad = bad refl
asks_nothing asked error.Oom bad = tt

-- what reading words gives
pub reads : (words : List Word) (r : Result Command WordsError) → IfOk r (λ (c : Command). command_of words ≡ Some (meaning_of c)) → (r ≡ Err error.BadWords → command_of words ≡ None) → Asks (command_of words) r
reads words (Ok command) is bad = asks words command is
reads words (Err e) is bad = asks_nothing (command_of words) e (λ same. bad (ap (λ x. Err x) same))
