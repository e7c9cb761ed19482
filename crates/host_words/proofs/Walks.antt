-- `clap` takes just the words that the definition gives a meaning, and finds the values that it gives.
use Rattle.std.proofs.Common.{◌≡◌, ◌∙◌, inl, inr, Bool, true, false, ◌||◌, refl, sym, subst, List, [], ◌∷◌, fold, Option, Some, None, true≢false}
use Rattle.std.specs.Str.{bytes_eq}
use Rattle.std.proofs.lemmas.Slice.Eq.{bytes_eq-Decides}
use Rattle.clap.specs.Faults.{settle_fault, turn_fault, walk_fault}
use Rattle.clap.specs.Kinds.{Kinds, or_else}
use Rattle.clap.specs.Walk.{Row, Waiting, Walk, option, positional, settled, walked}
use Rattle.host_words.specs.Given.{Given}
use Rattle.host_words.specs.{Kind, Options, Word, after_word, as_value, as_words, end, other, plain, joined, waits, unknown, given_after, has_name, has_short, is_short, kind_of, two_hyphens, with_value, words_name, IsProper}
use Rattle.host_words.proofs.Rules.{built_rules, built_shape}
use Rattle.host_words.proofs.Turns.{Refuses, Rest, all_added, calm, c, s, nothing, pending_of, rest_added, standing, value, value_added, word}
use Rattle.host_words.proofs.Turns as turn
use Rattle.host_words.proofs.WordKinds.{Reads, reads}

module _ (name : Word) (o : Options) (proper : IsProper o) where
  -- the walk ends with these values added, or something was refused
  abbrev pub Ends : Kinds → Walk → List Row → Option Given → Type 0
  Ends fault last rows None = or_else fault (settle_fault (built_rules o) false last.held) ≡ [] → ⊥
  Ends fault last rows (Some given) = (fault ≡ []) × (settle_fault (built_rules o) false last.held ≡ []) × ((settled (built_rules o) last.held).rows ≡ all_added given rows)

  abbrev pub Goes : List Word → Walk → List Row → Option Given → Type 0
  Goes words at rows given = Ends (walk_fault (built_shape name o) [] at words) (fold (walked (built_rules o) []) at words) rows given

  goes_on : (at next : Walk) (w : Word) (rest : List Word) (rows : List Row) (given : Option Given) → turn_fault (built_shape name o) [] at w ≡ [] → walked (built_rules o) [] at w ≡ next
      → Goes rest next rows given → Goes (w ∷ rest) at rows given
  unfolding walk_fault
  goes_on at next w rest rows given fault is goes =
      subst (λ (v : Walk). Ends (or_else (turn_fault (built_shape name o) [] at w) (walk_fault (built_shape name o) [] v rest)) (fold (walked (built_rules o) []) v rest) rows given) (sym is)
      (subst (λ k. Ends (or_else k (walk_fault (built_shape name o) [] next rest)) (fold (walked (built_rules o) []) next rest) rows given) (sym fault) goes)

  stops : (at : Walk) (w : Word) (rest : List Word) (rows : List Row) → Refuses name o proper (turn_fault (built_shape name o) [] at w) → Goes (w ∷ rest) at rows None
  unfolding walk_fault
  stops at w rest rows (first, more, is) none = let bad : first ∷ more ≡ [] = rw is at none in cc

  adds : (words : List Word) (at : Walk) (n v : Word) (rows : List Row) (given : Option Given) → Goes words at (value_added n v rows) given → Goes words at rows (with_value n v given)
  unfolding all_added
  adds words at n v rows None goes = goes
  adds words at n v rows (Some given) goes = goes

  goes_last : (words : List Word) (rows : List Row) (x : Rest o) (t : Waiting) → Goes words (standing rows (pending_of x) t true) (rest_added x rows) (Some (as_words words))
  unfolding walk_fault all_added
  goes_last [] rows x t = (refl, turn.settles name o proper x rows, turn.settles_to name o proper x rows)
  goes_last (w ∷ rest) rows x t = goes_on _ _ w rest (rest_added x rows) (Some (as_words (w ∷ rest))) (turn.last_fault name o proper rows x t w) (turn.last_walked name o proper rows x t w)
      (adds rest _ words_name w (rest_added x rows) (Some (as_words rest)) (goes_last rest (rest_added x rows) (word w) positional))

  lacks_last : (words : List Word) (rows : List Row) (n : Word) (t : Waiting) → has_name o.valued n ≡ true → Goes words (standing rows (Some (n, [])) t true) rows None
  unfolding walk_fault
  lacks_last [] rows n t known = λ none. let bad = sym (turn.lacks_value name o proper n rows known) ∙ none in cc
  lacks_last (w ∷ rest) rows n t known = stops (standing rows (Some (n, [])) t true) w rest rows (_, [], turn.last_lacks name o proper rows n t w known)

  -- ---- the words before `--`

  pub record Walks (words : List Word) : Type 0 where
    pub between : (rows : List Row) (x : Rest o) (b : Bool) → Goes words (standing rows (pending_of x) (calm name o proper b) false) (rest_added x rows) (given_after o None words)
    pub waiting : (rows : List Row) (n : Word) → has_name o.valued n ≡ true → Goes words (standing rows (Some (n, [])) (option n) false) rows (given_after o (Some n) words)

  walks_none : Walks []
  unfolding walk_fault given_after all_added
  walks_none = record {
    between = λ rows x b. (refl, turn.settles name o proper x rows, turn.settles_to name o proper x rows);
    waiting = λ rows n known none. let bad = sym (turn.lacks_value name o proper n rows known) ∙ none in cc;
  }

  module _ (w : Word) (rest : List Word) (walks : bytes_eq w two_hyphens ≡ false → Walks rest) (long : is_short w ≡ false) where
    between_at : (k : Kind) → Reads o w k → (rows : List Row) (x : Rest o) (b : Bool)
        → Goes (w ∷ rest) (standing rows (pending_of x) (calm name o proper b) false) (rest_added x rows) (after_word k w rest (λ waiting. given_after o waiting rest))
    between_at end is rows x b = goes_on _ _ w rest (rest_added x rows) (Some (as_words rest)) (turn.end_fault name o proper rows (pending_of x) (calm name o proper b) w is) (turn.end_walked name o proper rows (pending_of x) (calm name o proper b) w is)
        (goes_last rest rows x (calm name o proper b))
    between_at other is rows x b = goes_on _ _ w rest (rest_added x rows) (with_value words_name w (given_after o None rest)) (turn.other_fault name o proper rows x b w is) (turn.other_walked name o proper rows x b w is)
        (adds rest _ words_name w (rest_added x rows) (given_after o None rest) ((walks is.no_end).between (rest_added x rows) (word w) true))
    between_at (plain n) is rows x b = goes_on _ _ w rest (rest_added x rows) (with_value n [] (given_after o None rest)) (turn.plain_fault name o proper rows x (calm name o proper b) w n is.0 is.1 is.2) (turn.plain_walked name o proper rows x (calm name o proper b) w n is.0 is.1 is.2)
        (adds rest _ n [] (rest_added x rows) (given_after o None rest) ((walks is.0.no_end).between (value_added n [] (rest_added x rows)) nothing false))
    between_at (joined n v) is rows x b = goes_on _ _ w rest (rest_added x rows) (with_value n v (given_after o None rest)) (turn.joined_fault name o proper rows x (calm name o proper b) w n v is.0 is.1) (turn.joined_walked name o proper rows x (calm name o proper b) w n v is.0 is.1)
        (adds rest _ n v (rest_added x rows) (given_after o None rest) ((walks is.0.no_end).between (value_added n v (rest_added x rows)) nothing false))
    between_at (waits n) is rows x b = goes_on _ _ w rest (rest_added x rows) (given_after o (Some n) rest) (turn.waits_fault name o proper rows x (calm name o proper b) w n is.0 is.1) (turn.waits_walked name o proper rows x (calm name o proper b) w n is.0 is.1)
        ((walks is.0.no_end).waiting (rest_added x rows) n is.1)
    between_at unknown (inl short) rows x b = absurd (true≢false (sym short ∙ long))
    between_at unknown (inr (n, v, is, refused)) rows x b = stops (standing rows (pending_of x) (calm name o proper b) false) w rest (rest_added x rows) (turn.unknown_fault name o proper rows (pending_of x) (calm name o proper b) w n v is refused)

    waiting_at : (k : Kind) → Reads o w k → (rows : List Row) (m : Word) → has_name o.valued m ≡ true
        → Goes (w ∷ rest) (standing rows (Some (m, [])) (option m) false) rows (as_value k (with_value m w (given_after o None rest)))
    waiting_at end is rows m known = goes_on _ _ w rest rows None (turn.end_fault name o proper rows (Some (m, [])) (option m) w is) (turn.end_walked name o proper rows (Some (m, [])) (option m) w is)
        (lacks_last rest rows m (option m) known)
    waiting_at other is rows m known = goes_on _ _ w rest rows (with_value m w (given_after o None rest)) (turn.value_fault name o proper rows m w is) (turn.value_walked name o proper rows m w known is)
        (adds rest _ m w rows (given_after o None rest) ((walks is.no_end).between rows (value m w known) false))
    waiting_at (plain n) is rows m known = stops (standing rows (Some (m, [])) (option m) false) w rest rows (turn.plain_lacks name o proper rows m known w n is.0 is.1 is.2)
    waiting_at (joined n v) is rows m known = stops (standing rows (Some (m, [])) (option m) false) w rest rows (turn.joined_lacks name o proper rows m known w n v is.0 is.1)
    waiting_at (waits n) is rows m known = stops (standing rows (Some (m, [])) (option m) false) w rest rows (turn.waits_lacks name o proper rows m known w n is.0 is.1)
    waiting_at unknown (inl short) rows m known = absurd (true≢false (sym short ∙ long))
    waiting_at unknown (inr (n, v, is, refused)) rows m known = stops (standing rows (Some (m, [])) (option m) false) w rest rows (turn.unknown_fault name o proper rows (Some (m, [])) (option m) w n v is refused)

  split_short : (w : Word) (rest : List Word) → has_short (w ∷ rest) ≡ false → bytes_eq w two_hyphens ≡ false → (is_short w ≡ false) × (has_short rest ≡ false)
  unfolding has_short
  split_short w rest h ends = go (is_short w) (has_short rest) (rw ends at h)
    where
      go : (a b : Bool) → (a || b) ≡ false → (a ≡ false) × (b ≡ false)
      go true b h = absurd (true≢false h)
      go false b h = (refl, h)

  end_long : (w : Word) → bytes_eq w two_hyphens ≡ true → is_short w ≡ false
  end_long w is = rw ((bytes_eq-Decides w two_hyphens).0 is) refl

  walks_at : (w : Word) (rest : List Word) → (bytes_eq w two_hyphens ≡ false → Walks rest) → is_short w ≡ false → Walks (w ∷ rest)
  unfolding given_after
  walks_at w rest next long = record {
    between = λ rows x b. between_at w rest next long (kind_of o w) (reads o w) rows x b;
    waiting = λ rows n known. waiting_at w rest next long (kind_of o w) (reads o w) rows n known;
  }

  pub walks : (words : List Word) → has_short words ≡ false → Walks words
  walks [] h = walks_none
  walks (w ∷ rest) h = go (bytes_eq w two_hyphens) refl (walks rest)
    where
      go : (b : Bool) → bytes_eq w two_hyphens ≡ b → (has_short rest ≡ false → Walks rest) → Walks (w ∷ rest)
      go true is next = walks_at w rest (λ ends. absurd (true≢false (sym is ∙ ends))) (end_long w is)
      go false is next = let parts = split_short w rest h is in walks_at w rest (λ ends. next parts.1) parts.0
