-- What the values that were found make of the words.
use Rattle.std.proofs.Common.{Bool, true, false, cond, codes, map, drop, ◌≡◌, ◌∙◌, refl, sym, ap, List, [], ◌∷◌, Option, Some, None, Result, Ok, Err, IsErrAnd, subst}
use Rattle.std.specs.Borrow.{Bor}
use Rattle.std.specs.Str.{bytes_eq}
use Rattle.std.proofs.lemmas.Slice.Eq.{bytes_eq-Decides}
use Rattle.host_words.proofs.WordKinds.{short_refused}
use Rattle.clap.specs.declared.parser.matches.ArgMatches.{ArgMatches}
use Rattle.host_words.specs.{Meaning, ReadsWords, ReadsAs, ReadsNamed, command_named, command_of, list_meaning, list_options, load_meaning, load_options, make_meaning, make_options, meaning_of, of_command, run_meaning, run_options, under_names, Options, Word, has_short, IsGiven, IsGivenBy, texts_in, ◌>>=◌, Command, WordsError, BadWords, Oom}

module _ (o : Options) (meaning : (Word → List Word) → Option Meaning) where
  refused_by : (words : List Word) (e : WordsError) → IsGivenBy o words (Err e) → ReadsAs (of_command o meaning words) (Err e)
  refused_by words BadWords h = ap (λ g. g >>= (λ given. meaning (under_names given))) h
  refused_by words Oom h = tt

  refused : (words : List Word) (e : WordsError) → IsGiven o words (Err e) → ReadsWords o meaning words (Err e)
  refused [] e h = tt
  refused (w ∷ words) e h = refused_by words e h

  -- `?` passes a refusal up as it is
  pub refused_up : (words : List Word) (r : Result Command WordsError) (e : WordsError) → IsErrAnd r (λ y. y ≡ e) → IsGiven o words (Err e) → ReadsWords o meaning words r
  refused_up words (Ok x) e is h = absurd is
  refused_up words (Err y) e is h = subst (λ x. ReadsWords o meaning words (Err x)) (sym is) (refused words e h)

  meant : (words : List Word) (m : ArgMatches) → IsGivenBy o words (Ok m) → of_command o meaning words ≡ meaning (texts_in m)
  meant words m (given, is, same) = ap (λ g. g >>= (λ x. meaning (under_names x))) is ∙ sym (λ i. meaning (λ name. same name i))

  pub accepted : (words : List Word) (m : ArgMatches) (command : Command) → IsGiven o words (Ok m) → Some (meaning_of command) ≡ meaning (texts_in m) → ReadsWords o meaning words (Ok command)
  accepted [] m command h is = tt
  accepted (w ∷ words) m command h is = meant words m h ∙ sym is

  pub meaningless : (words : List Word) (m : ArgMatches) → IsGiven o words (Ok m) → None ≡ meaning (texts_in m) → ReadsWords o meaning words (Err BadWords)
  meaningless [] m h is = tt
  meaningless (w ∷ words) m h is = meant words m h ∙ sym is

-- ---- the name

pub named_as : (name : Word) (o : Options) (meaning : (Word → List Word) → Option Meaning) (words : List Word) (r : Result Command WordsError)
    → ((rest : List Word) → command_named name rest ≡ of_command o meaning rest) → ReadsWords o meaning words r → ReadsNamed name words r
named_as name o meaning [] r same h = tt
named_as name o meaning (w ∷ rest) r same h = subst (λ g. ReadsAs g r) (sym (same rest)) h

pub is_run : (name : Word) → name ≡ codes "run" → (rest : List Word) → command_named name rest ≡ of_command run_options run_meaning rest
unfolding command_named
is_run name is rest = ap (λ n. command_named n rest) is

pub is_list : (name : Word) → name ≡ codes "list" → (rest : List Word) → command_named name rest ≡ of_command list_options list_meaning rest
unfolding command_named
is_list name is rest = ap (λ n. command_named n rest) is

pub is_make : (name : Word) → name ≡ codes "make" → (rest : List Word) → command_named name rest ≡ of_command make_options make_meaning rest
unfolding command_named
is_make name is rest = ap (λ n. command_named n rest) is

pub is_load : (name : Word) → name ≡ codes "load" → (rest : List Word) → command_named name rest ≡ of_command load_options load_meaning rest
unfolding command_named
is_load name is rest = ap (λ n. command_named n rest) is

differs : (a b : Word) → (a ≡ b → ⊥) → bytes_eq a b ≡ false
differs a b apart = go (bytes_eq a b) refl
  where
    go : (t : Bool) → bytes_eq a b ≡ t → bytes_eq a b ≡ false
    go true is = absurd (apart ((bytes_eq-Decides a b).0 is))
    go false is = is

no_name : (name : Word) (rest : List Word) → (name ≡ codes "run" → ⊥) → (name ≡ codes "list" → ⊥) → (name ≡ codes "make" → ⊥) → (name ≡ codes "load" → ⊥) → command_named name rest ≡ None
unfolding command_named
no_name name rest a b c d = rw (differs name (codes "run") a, differs name (codes "list") b, differs name (codes "make") c, differs name (codes "load") d) refl

pub named_none : (name : Word) (words : List Word) → (name ≡ codes "run" → ⊥) → (name ≡ codes "list" → ⊥) → (name ≡ codes "make" → ⊥) → (name ≡ codes "load" → ⊥) → ReadsNamed name words (Err BadWords)
named_none name [] a b c d = tt
named_none name (w ∷ rest) a b c d = no_name name rest a b c d

-- a word with one hyphen makes no command
none_after : (o : Options) (meaning : (Word → List Word) → Option Meaning) (rest : List Word) → has_short rest ≡ true → of_command o meaning rest ≡ None
none_after o meaning rest short = ap (λ g. g >>= (λ given. meaning (under_names given))) (short_refused o None rest short)

short_named : (name : Word) (rest : List Word) → has_short rest ≡ true → command_named name rest ≡ None
unfolding command_named
short_named name rest short = go (bytes_eq name (codes "run")) (bytes_eq name (codes "list")) (bytes_eq name (codes "make")) (bytes_eq name (codes "load"))
  where
    go : (a b c d : Bool) → cond a (of_command run_options run_meaning rest) (cond b (of_command list_options list_meaning rest)
        (cond c (of_command make_options make_meaning rest) (cond d (of_command load_options load_meaning rest) None))) ≡ None
    go true b c d = none_after run_options run_meaning rest short
    go false true c d = none_after list_options list_meaning rest short
    go false false true d = none_after make_options make_meaning rest short
    go false false false true = none_after load_options load_meaning rest short
    go false false false false = refl

pub short_none : (words : List (Bor Word)) → has_short (map (λ w. w.now) (drop 1 words)) ≡ true → command_of (map (λ w. w.now) words) ≡ None
short_none [] short = refl
short_none (w ∷ rest) short = short_named w.now (map (λ w. w.now) rest) short
