-- Where `clap`'s walk over the words stands after each, and what it refuses.
use Rattle.std.proofs.Common.{◌≡◌, ◌∙◌, inl, inr, Bool, true, false, cond, refl, sym, ap, ap₂, List, [], ◌∷◌, Option, Some, None, true≢false}
use Rattle.std.proofs.Math.Bool.{and-false}
use Rattle.std.specs.Str.{bytes_eq}
use Rattle.std.proofs.lemmas.Slice.Eq.{bytes_eq-Decides}
use Rattle.clap.specs.declared.error.kind.ErrorKind.{ErrorKind}
use Rattle.clap.specs.Faults.{settle_fault, turn_fault}
use Rattle.clap.specs.Kinds.{Kinds}
use Rattle.clap.specs.Simple.{Shape}
use Rattle.clap.specs.Values.{reading_of}
use Rattle.clap.specs.Walk.{Held, is_pending, Row, Rule, Text, Waiting, Walk, arg_by_long, idle, option, positional, settled_rows, subcommand_met, walked, with_values}
use Rattle.clap.specs.declared.builder.value_parser.ValueParser.TheVariants as vp
use Rattle.clap.specs.declared.error.kind.ErrorKind.TheVariants as kind
use Rattle.clap.specs.declared.parser.matches.ValueSource.TheVariants.{CommandLine}
use Rattle.host_words.specs.Given.{Given}
use Rattle.host_words.specs.{Options, Word, has_name, two_hyphens, words_name, IsProper}
use Rattle.host_words.proofs.Rules.{built_plain, built_rules, built_shape, built_valued, built_words, by_id_valued, by_id_words, by_index, by_long}
use Rattle.host_words.proofs.WordKinds.{IsLong, IsOther, Refused}

-- one more value under a name
abbrev pub value_added : Word → Word → List Row → List Row
value_added name value = with_values name (reading_of vp.String) CommandLine (value ∷ [])

unfoldable pub all_added : Given → List Row → List Row
all_added [] rows = rows
all_added (g ∷ gs) rows = all_added gs (value_added g.0 g.1 rows)

-- between two words, where no word was stray
abbrev pub standing : List Row → Option (Text × List Text) → Waiting → Bool → Walk
standing rows pending waiting trailing = record {
  held = record { rows = rows; pending = pending; skip = 0 };
  waiting = waiting;
  position = 1;
  is_trailing = trailing;
  stopped = None;
}

-- nothing is pending, or one whole use
pub data Rest (o : Options) : Type 0 where
  nothing : Rest o
  value : (name v : Word) → has_name o.valued name ≡ true → Rest o
  word : (v : Word) → Rest o

abbrev pub pending_of : {o : Options} → Rest o → Option (Text × List Text)
pending_of nothing = None
pending_of (value name v known) = Some (name, v ∷ [])
pending_of (word v) = Some (words_name, v ∷ [])

abbrev pub rest_added : {o : Options} → Rest o → List Row → List Row
rest_added nothing rows = rows
rest_added (value name v known) rows = value_added name v rows
rest_added (word v) rows = value_added words_name v rows

abbrev pub held_with : List Row → Option (Text × List Text) → Held
held_with rows pending = record { rows = rows; pending = pending; skip = 0 }

module _ (name : Word) (o : Options) (proper : IsProper o) where
  abbrev pub s : Shape
  s = built_shape name o

  abbrev pub c : List Rule
  c = built_rules o

  -- a whole use is settled
  pub settles : (x : Rest o) (rows : List Row) → settle_fault c false (held_with rows (pending_of x)) ≡ []
  settles nothing rows = refl
  settles (value n v known) rows = rw (by_id_valued o n known) refl
  settles (word v) rows = rw (by_id_words o proper) refl

  pub settles_to : (x : Rest o) (rows : List Row) → settled_rows c (pending_of x) rows ≡ rest_added x rows
  settles_to nothing rows = refl
  settles_to (value n v known) rows = rw (by_id_valued o n known) refl
  settles_to (word v) rows = rw (by_id_words o proper) refl

  -- an option without its value isn't
  pub lacks_value : (n : Word) (rows : List Row) → has_name o.valued n ≡ true → settle_fault c false (held_with rows (Some (n, []))) ≡ kind.InvalidValue ∷ []
  lacks_value n rows known = rw (by_id_valued o n known) refl

  no_subcommand : (w : Waiting) (word : Text) → subcommand_met [] w word ≡ None
  no_subcommand idle text = refl
  no_subcommand positional text = refl
  no_subcommand (option n) text = refl

  valued_found : (n : Word) → has_name o.valued n ≡ true → arg_by_long c n ≡ Some (built_valued n)
  valued_found n known = by_long o n ∙ ap (λ b. cond b (Some (built_valued n)) (cond (has_name o.plain n) (Some (built_plain n)) None)) known

  plain_found : (n : Word) → has_name o.valued n ≡ false → has_name o.plain n ≡ true → arg_by_long c n ≡ Some (built_plain n)
  plain_found n free known = by_long o n ∙ ap₂ (λ a b. cond a (Some (built_valued n)) (cond b (Some (built_plain n)) None)) free known

  -- ---- a word between two whole uses

  pub plain_fault : (rows : List Row) (x : Rest o) (t : Waiting) (w n : Word) → IsLong w n None → has_name o.valued n ≡ false → has_name o.plain n ≡ true
      → turn_fault s [] (standing rows (pending_of x) t false) w ≡ []
  plain_fault rows x t w n l free known = rw (no_subcommand t w, l.no_end, l.long, plain_found n free known, settles x rows) refl

  pub plain_walked : (rows : List Row) (x : Rest o) (t : Waiting) (w n : Word) → IsLong w n None → has_name o.valued n ≡ false → has_name o.plain n ≡ true
      → walked c [] (standing rows (pending_of x) t false) w ≡ standing (value_added n [] (rest_added x rows)) None idle false
  unfolding walked
  plain_walked rows x t w n l free known = rw (no_subcommand t w, l.no_end, l.long, plain_found n free known, settles_to x rows) refl

  pub joined_fault : (rows : List Row) (x : Rest o) (t : Waiting) (w n v : Word) → IsLong w n (Some v) → has_name o.valued n ≡ true
      → turn_fault s [] (standing rows (pending_of x) t false) w ≡ []
  joined_fault rows x t w n v l known = rw (no_subcommand t w, l.no_end, l.long, valued_found n known, settles x rows) refl

  pub joined_walked : (rows : List Row) (x : Rest o) (t : Waiting) (w n v : Word) → IsLong w n (Some v) → has_name o.valued n ≡ true
      → walked c [] (standing rows (pending_of x) t false) w ≡ standing (value_added n v (rest_added x rows)) None idle false
  unfolding walked
  joined_walked rows x t w n v l known = rw (no_subcommand t w, l.no_end, l.long, valued_found n known, settles_to x rows) refl

  pub waits_fault : (rows : List Row) (x : Rest o) (t : Waiting) (w n : Word) → IsLong w n None → has_name o.valued n ≡ true
      → turn_fault s [] (standing rows (pending_of x) t false) w ≡ []
  waits_fault rows x t w n l known = rw (no_subcommand t w, l.no_end, l.long, valued_found n known, settles x rows) refl

  pub waits_walked : (rows : List Row) (x : Rest o) (t : Waiting) (w n : Word) → IsLong w n None → has_name o.valued n ≡ true
      → walked c [] (standing rows (pending_of x) t false) w ≡ standing (rest_added x rows) (Some (n, [])) (option n) false
  unfolding walked
  waits_walked rows x t w n l known = rw (no_subcommand t w, l.no_end, l.long, valued_found n known, settles_to x rows) refl

  -- no option waits for its value
  abbrev pub calm : Bool → Waiting
  calm true = positional
  calm false = idle

  pub other_fault : (rows : List Row) (x : Rest o) (b : Bool) (w : Word) → IsOther w → turn_fault s [] (standing rows (pending_of x) (calm b) false) w ≡ []
  other_fault rows x true w h = rw (h.no_end, h.no_long, h.no_short, by_index o, and-false (is_pending built_words (pending_of x)), settles x rows) refl
  other_fault rows x false w h = rw (h.no_end, h.no_long, h.no_short, by_index o, and-false (is_pending built_words (pending_of x)), settles x rows) refl

  pub other_walked : (rows : List Row) (x : Rest o) (b : Bool) (w : Word) → IsOther w
      → walked c [] (standing rows (pending_of x) (calm b) false) w ≡ standing (rest_added x rows) (Some (words_name, w ∷ [])) positional false
  unfolding walked
  other_walked rows x true w h = rw (h.no_end, h.no_long, h.no_short, by_index o, and-false (is_pending built_words (pending_of x)), settles_to x rows) refl
  other_walked rows x false w h = rw (h.no_end, h.no_long, h.no_short, by_index o, and-false (is_pending built_words (pending_of x)), settles_to x rows) refl

  pub end_fault : (rows : List Row) (p : Option (Text × List Text)) (t : Waiting) (w : Word) → bytes_eq w two_hyphens ≡ true → turn_fault s [] (standing rows p t false) w ≡ []
  end_fault rows p t w is = rw (no_subcommand t w, is) refl

  pub end_walked : (rows : List Row) (p : Option (Text × List Text)) (t : Waiting) (w : Word) → bytes_eq w two_hyphens ≡ true → walked c [] (standing rows p t false) w ≡ standing rows p t true
  unfolding walked
  end_walked rows p t w is = rw (no_subcommand t w, is) refl

  -- ---- a word after `--`

  pub last_fault : (rows : List Row) (x : Rest o) (t : Waiting) (w : Word) → turn_fault s [] (standing rows (pending_of x) t true) w ≡ []
  last_fault rows x t w = rw (by_index o, and-false (is_pending built_words (pending_of x)), settles x rows) refl

  pub last_walked : (rows : List Row) (x : Rest o) (t : Waiting) (w : Word)
      → walked c [] (standing rows (pending_of x) t true) w ≡ standing (rest_added x rows) (Some (words_name, w ∷ [])) positional true
  unfolding walked
  last_walked rows x t w = rw (by_index o, and-false (is_pending built_words (pending_of x)), settles_to x rows) refl

  pub last_lacks : (rows : List Row) (n : Word) (t : Waiting) (w : Word) → has_name o.valued n ≡ true → turn_fault s [] (standing rows (Some (n, [])) t true) w ≡ kind.InvalidValue ∷ []
  last_lacks rows n t w known = rw (by_index o, and-false (bytes_eq n words_name), lacks_value n rows known) refl

  -- ---- a word where an option waits for its value

  pub value_fault : (rows : List Row) (n w : Word) → IsOther w → turn_fault s [] (standing rows (Some (n, [])) (option n) false) w ≡ []
  value_fault rows n w h = rw (h.no_end, h.no_long, h.no_short) refl

  same_bytes : (n : Word) → bytes_eq n n ≡ true
  same_bytes n = (bytes_eq-Decides n n).1 refl

  pub value_walked : (rows : List Row) (n w : Word) → has_name o.valued n ≡ true → IsOther w
      → walked c [] (standing rows (Some (n, [])) (option n) false) w ≡ standing rows (Some (n, w ∷ [])) idle false
  unfolding walked
  value_walked rows n w known h = rw (h.no_end, h.no_long, h.no_short, by_id_valued o n known, same_bytes n) refl

  -- ---- what is refused

  abbrev pub Refuses : Kinds → Type 0
  Refuses kinds = (first : ErrorKind) × (more : Kinds) × (kinds ≡ first ∷ more)

  pub unknown_fault : (rows : List Row) (p : Option (Text × List Text)) (t : Waiting) (w n : Word) (v : Option Word) → IsLong w n v → Refused o n v
      → Refuses (turn_fault s [] (standing rows p t false) w)
  unknown_fault rows p t w n v l (free, inl unused) = (kind.UnknownArgument, [], rw (no_subcommand t w, l.no_end, l.long, by_long o n, free, unused) refl)
  unknown_fault rows p t w n None l (free, inr given) = absurd (true≢false (sym given))
  unknown_fault rows p t w n (Some v) l (free, inr given) = go (has_name o.plain n) refl
    where
      go : (b : Bool) → has_name o.plain n ≡ b → Refuses (turn_fault s [] (standing rows p t false) w)
      go true is = (kind.TooManyValues, [], rw (no_subcommand t w, l.no_end, l.long, by_long o n, free, is) refl)
      go false is = (kind.UnknownArgument, [], rw (no_subcommand t w, l.no_end, l.long, by_long o n, free, is) refl)

  -- an option where another one waits for its value
  module _ (rows : List Row) (m : Word) (waiting : has_name o.valued m ≡ true) (w n : Word) where
    pub plain_lacks : IsLong w n None → has_name o.valued n ≡ false → has_name o.plain n ≡ true → Refuses (turn_fault s [] (standing rows (Some (m, [])) (option m) false) w)
    plain_lacks l free known = (kind.InvalidValue, [], rw (l.no_end, l.long, plain_found n free known, lacks_value m rows waiting) refl)

    pub joined_lacks : (v : Word) → IsLong w n (Some v) → has_name o.valued n ≡ true → Refuses (turn_fault s [] (standing rows (Some (m, [])) (option m) false) w)
    joined_lacks v l known = (kind.InvalidValue, [], rw (l.no_end, l.long, valued_found n known, lacks_value m rows waiting) refl)

    pub waits_lacks : IsLong w n None → has_name o.valued n ≡ true → Refuses (turn_fault s [] (standing rows (Some (m, [])) (option m) false) w)
    waits_lacks l known = (kind.InvalidValue, [], rw (l.no_end, l.long, valued_found n known, lacks_value m rows waiting) refl)
