-- What a word is to `clap`, by what it is to the definition.
use Rattle.std.proofs.Common.{◌≡◌, ◌⊎◌, inl, inr, ℕ, Bool, true, false, cond, ◌&&◌, ◌||◌, not, refl, sym, ap, List, [], ◌∷◌, Option, Some, None, is_some, true≢false}
use Rattle.std.proofs.Math.Bool.{and-false}
use Rattle.std.specs.Prelude.{◌==◌, option_and_then}
use Rattle.std.specs.List.{before_first}
use Rattle.std.specs.Str.{bytes_eq}
use Rattle.clap.specs.Lexer.{long_of, long_of_rest, short_of, short_of_rest, strip_byte}
use Rattle.host_words.specs.Given.{Given}
use Rattle.host_words.specs.{Kind, Options, Word, after_hyphens, after_word, as_value, end, other, plain, joined, waits, unknown, given_after, has_name, has_short, is_short, kind_of, option_kind, two_hyphens, value_of, with_value, words_name}

-- the word is `--NAME` or `--NAME=VALUE` to `clap`
pub record IsLong (w : Word) (name : Word) (value : Option Word) : Type 0 where
  pub no_end : bytes_eq w two_hyphens ≡ false
  pub long : long_of w ≡ Some (name, value)

pub record IsOther (w : Word) : Type 0 where
  pub no_end : bytes_eq w two_hyphens ≡ false
  pub no_long : long_of w ≡ None
  pub no_short : short_of w ≡ None

-- the option is none of the command's, or has a value and takes none
abbrev pub Refused : Options → Word → Option Word → Type 0
Refused o name value = (has_name o.valued name ≡ false) × ((has_name o.plain name ≡ false) ⊎ (is_some value ≡ true))

abbrev pub Reads : Options → Word → Kind → Type 0
Reads o w end = bytes_eq w two_hyphens ≡ true
Reads o w other = IsOther w
Reads o w (plain name) = IsLong w name None × (has_name o.valued name ≡ false) × (has_name o.plain name ≡ true)
Reads o w (joined name value) = IsLong w name (Some value) × (has_name o.valued name ≡ true)
Reads o w (waits name) = IsLong w name None × (has_name o.valued name ≡ true)
Reads o w unknown = (is_short w ≡ true) ⊎ ((name : Word) × (value : Option Word) × IsLong w name value × Refused o name value)

reads_option : (o : Options) (w name : Word) (value : Option Word) → IsLong w name value → Reads o w (option_kind o name value)
reads_option o w name None long = go (has_name o.valued name) refl (has_name o.plain name) refl
  where
    go : (v : Bool) → has_name o.valued name ≡ v → (p : Bool) → has_name o.plain name ≡ p → Reads o w (cond v (waits name) (cond p (plain name) unknown))
    go true v p e = (long, v)
    go false v true e = (long, v, e)
    go false v false e = inr (name, None, long, (v, inl e))
reads_option o w name (Some x) long = go (has_name o.valued name) refl
  where
    go : (v : Bool) → has_name o.valued name ≡ v → Reads o w (cond v (joined name x) unknown)
    go true v = (long, v)
    go false v = inr (name, Some x, long, (v, inr refl))

reads_hyphens : (o : Options) (c d : ℕ) (cs : Word) → (c == 45) ≡ true → (d == 45) ≡ true → Reads o (c ∷ d ∷ cs) (after_hyphens o cs)
reads_hyphens o c d [] e1 e2 = rw (e1, e2) refl
reads_hyphens o c d (x ∷ xs) e1 e2 = reads_option o (c ∷ d ∷ x ∷ xs) (before_first (λ y. y == 61) (x ∷ xs)) (value_of (x ∷ xs))
    (record { no_end = rw (e1, e2) refl; long = rw (e1, e2) refl })

reads_one : (o : Options) (c : ℕ) → Reads o (c ∷ []) other
reads_one o c = record { no_end = and-false (c == 45); no_long = long (c == 45); no_short = short (c == 45) }
  where
    long : (b : Bool) → option_and_then long_of_rest (option_and_then (strip_byte 45) (cond b (Some []) None)) ≡ None
    long true = refl
    long false = refl

    short : (b : Bool) → option_and_then short_of_rest (cond b (Some []) None) ≡ None
    short true = refl
    short false = refl

reads_two : (o : Options) (c d : ℕ) (cs : Word) (b1 b2 : Bool) → (c == 45) ≡ b1 → (d == 45) ≡ b2 → Reads o (c ∷ d ∷ cs) (cond b1 (cond b2 (after_hyphens o cs) unknown) other)
reads_two o c d cs true true e1 e2 = reads_hyphens o c d cs e1 e2
reads_two o c d cs true false e1 e2 = inl (rw (e1, e2) refl)
reads_two o c d cs false b2 e1 e2 = record { no_end = rw e1 refl; no_long = rw e1 refl; no_short = rw e1 refl }

pub reads : (o : Options) (w : Word) → Reads o w (kind_of o w)
reads o [] = record { no_end = refl; no_long = refl; no_short = refl }
reads o (c ∷ []) = reads_one o c
reads o (c ∷ d ∷ cs) = reads_two o c d cs (c == 45) (d == 45) refl refl

-- ---- a word with one hyphen is of no command

short_unknown : (o : Options) (w : Word) → is_short w ≡ true → kind_of o w ≡ unknown
short_unknown o [] e = absurd (true≢false (sym e))
short_unknown o (c ∷ []) e = absurd (true≢false (sym e))
short_unknown o (c ∷ d ∷ cs) e = go (c == 45) (d == 45) e
  where
    go : (b1 b2 : Bool) → (b1 && not b2) ≡ true → cond b1 (cond b2 (after_hyphens o cs) unknown) other ≡ unknown
    go true true h = absurd (true≢false (sym h))
    go true false h = refl
    go false b2 h = absurd (true≢false (sym h))

none_with : (name value : Word) (g : Option Given) → g ≡ None → with_value name value g ≡ None
none_with name value g e = ap (with_value name value) e

left : (t s r : Bool) → t ≡ false → s ≡ false → cond t false (s || r) ≡ true → r ≡ true
left t s r ends short h = rw (ends, short) at h

no_short : (k : Kind) (s : Bool) → (s ≡ true → k ≡ unknown) → (k ≡ unknown → ⊥) → s ≡ false
no_short k true unknown_is never = absurd (never (unknown_is refl))
no_short k false unknown_is never = refl

-- such a word stands after a word that is no such word and not `--`
comes : (w : Word) (rest : List Word) (k : Kind) → bytes_eq w two_hyphens ≡ false → (is_short w ≡ true → k ≡ unknown) → (k ≡ unknown → ⊥) → has_short (w ∷ rest) ≡ true → has_short rest ≡ true
unfolding has_short
comes w rest k ends short never h = left (bytes_eq w two_hyphens) (is_short w) (has_short rest) ends (no_short k (is_short w) short never) h

comes_after : (o : Options) (w : Word) (rest : List Word) (k : Kind) → k ≡ other → Reads o w k → (is_short w ≡ true → k ≡ unknown) → has_short (w ∷ rest) ≡ true → has_short rest ≡ true
comes_after o w rest other is r short h = comes w rest other r.no_end short (λ e. cc) h
comes_after o w rest end is r short h = cc
comes_after o w rest (plain n) is r short h = cc
comes_after o w rest (joined n v) is r short h = cc
comes_after o w rest (waits n) is r short h = cc
comes_after o w rest unknown is r short h = cc

ends_refused : (w : Word) (rest : List Word) → bytes_eq w two_hyphens ≡ true → has_short (w ∷ rest) ≡ true → ⊥
unfolding has_short
ends_refused w rest is h = let bad : false ≡ true = rw is at h in true≢false (sym bad)

refused_at : (o : Options) (k : Kind) (w : Word) (rest : List Word) → Reads o w k → (is_short w ≡ true → k ≡ unknown) → has_short (w ∷ rest) ≡ true
    → (has_short rest ≡ true → given_after o None rest ≡ None) → ((n : Word) → has_short rest ≡ true → given_after o (Some n) rest ≡ None)
    → after_word k w rest (λ waiting. given_after o waiting rest) ≡ None
refused_at o end w rest r short h next waiting = absurd (ends_refused w rest r h)
refused_at o other w rest r short h next waiting = none_with words_name w _ (next (comes w rest other r.no_end short (λ e. cc) h))
refused_at o (plain n) w rest r short h next waiting = none_with n [] _ (next (comes w rest (plain n) r.0.no_end short (λ e. cc) h))
refused_at o (joined n v) w rest r short h next waiting = none_with n v _ (next (comes w rest (joined n v) r.0.no_end short (λ e. cc) h))
refused_at o (waits n) w rest r short h next waiting = waiting n (comes w rest (waits n) r.0.no_end short (λ e. cc) h)
refused_at o unknown w rest r short h next waiting = refl

value_refused : (n : Word) (k : Kind) (w : Word) (g : Option Given) → (k ≡ other → g ≡ None) → as_value k (with_value n w g) ≡ None
value_refused n other w g h = none_with n w g (h refl)
value_refused n end w g h = refl
value_refused n (plain m) w g h = refl
value_refused n (joined m v) w g h = refl
value_refused n (waits m) w g h = refl
value_refused n unknown w g h = refl

-- where one stands before the first `--`, the words are no command's
pub short_refused : (o : Options) (waiting : Option Word) (words : List Word) → has_short words ≡ true → given_after o waiting words ≡ None
unfolding has_short given_after
short_refused o None [] e = absurd (true≢false (sym e))
short_refused o (Some n) [] e = absurd (true≢false (sym e))
short_refused o None (w ∷ rest) e =
    refused_at o (kind_of o w) w rest (reads o w) (short_unknown o w) e (short_refused o None rest) (λ n. short_refused o (Some n) rest)
short_refused o (Some n) (w ∷ rest) e = value_refused n (kind_of o w) w (given_after o None rest) (λ h. short_refused o None rest (comes_after o w rest (kind_of o w) h (reads o w) (short_unknown o w) e))
