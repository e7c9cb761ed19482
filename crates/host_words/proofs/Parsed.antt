-- A parse of a command's words: it fails, but for want of memory, just where the definition gives them no meaning, and has
-- the values that the definition gives.
use Rattle.std.proofs.Common.{drop, Ok, Err, ◌≡◌, ◌∙◌, inl, inr, Bool, true, false, cond, ◌&&◌, not, refl, sym, ap, subst, List, [], ◌∷◌, ◌++◌, map, fold, Option, Some, None, true≢false, append_assoc}
use Rattle.std.proofs.Math.Bool.{or-true}
use Rattle.std.specs.Prelude.{unwrap_or}
use Rattle.std.specs.List.{list_all}
use Rattle.std.specs.Str.{bytes_eq}
use Rattle.std.proofs.lemmas.List.{append-nil}
use Rattle.std.proofs.lemmas.Slice.Eq.{bytes_eq-Decides}
use Rattle.clap.proofs.FaultLemmas.{leaf_fault}
use Rattle.clap.proofs.SimpleLemmas.{is_nil}
use Rattle.clap.proofs.WalkLemmas.{both, raw_values-rows}
use Rattle.clap.specs.Matches.{found_of}
use Rattle.clap.specs.Values.{kind_of}
use Rattle.clap.specs.declared.error.Error.{Error}
use Rattle.clap.specs.declared.error.kind.ErrorKind.{ErrorKind}
use Rattle.clap.specs.declared.error.kind.ErrorKind.TheVariants as kind
use Rattle.clap.specs.declared.parser.matches.ArgMatches.{ArgMatches}
use Rattle.std.specs.Borrow.{Bor}
use Rattle.clap.specs.Faults.{built_fault, check_fault, defaults_fault, fault_of, settle_fault, walk_fault}
use Rattle.clap.specs.Kinds.{HasKind, IsAmong, Kinds, or_else}
use Rattle.clap.specs.Simple.{App, matches_of}
use Rattle.clap.specs.Takes.{is_given}
use Rattle.clap.specs.Walk.{Row, Rule, all_of, finished, has_row, is_empty, nothing_held, rows_of, settled, Walk, walk, walk_from, with_default}
use Rattle.host_words.specs.Given.{Given}
use Rattle.host_words.specs.{Options, Word, given_by, has_short, values, syntax, IsGiven, IsGivenBy, IsProper, refusal_of, texts_in}
use Rattle.host_words.proofs.Rules.{all_rules, built_is, built_plain, built_rules, built_shape, built_valued, built_words, none_rules}
use Rattle.host_words.proofs.Turns.{all_added, nothing, value_added}
use Rattle.host_words.proofs.Walks.{Goes, walks}

-- ---- no rule has a default, and none is required

both_same : (b : Bool) (rows : List Row) → cond b rows rows ≡ rows
both_same true rows = refl
both_same false rows = refl

no_default : (rows : List Row) (a : Rule) → is_empty a.defaults ≡ true → with_default rows a ≡ rows
no_default rows a e = rw (is_nil a.defaults e) (both_same (has_row a.id rows) rows)

lacks_defaults : (rows : List Row) (rs : List Rule) → list_all (λ (a : Rule). is_empty a.defaults) rs ≡ true → (defaults_fault rows rs ≡ []) × (fold with_default rows rs ≡ rows)
unfolding defaults_fault
lacks_defaults rows [] e = (refl, refl)
lacks_defaults rows (a ∷ rs) e =
    let parts = both (is_empty a.defaults) _ e in
    let rest = lacks_defaults rows rs parts.1 in
    (rw (parts.0, or-true (has_row a.id rows), no_default rows a parts.0) rest.0, rw (no_default rows a parts.0) rest.1)

no_defaults : (o : Options) → list_all (λ (a : Rule). is_empty a.defaults) (built_rules o) ≡ true
no_defaults o = all_rules (λ a. is_empty a.defaults) built_valued built_plain built_words (λ n. refl) (λ n. refl) refl o.valued o.plain

none_required : (name : Word) (o : Options) (rows : List Row) → check_fault (built_shape name o) rows false ≡ []
none_required name o rows = rw (none_rules (λ a. a.required && not (is_given a.id rows)) built_valued built_plain built_words (λ n. refl) (λ n. refl) refl o.valued o.plain) refl

-- ---- the faults of a parse

abbrev last : Options → List Word → Walk
last o rest = walk (built_rules o) [] nothing_held rest

faults : (name : Word) (o : Options) (w : Word) (rest : List Word)
    → fault_of (syntax name o) (w ∷ rest) ≡ or_else (walk_fault (built_shape name o) [] (walk_from nothing_held) rest) (or_else (settle_fault (built_rules o) false (last o rest).held) [])
faults name o w rest =
    let rows = (settled (built_rules o) (last o rest).held).rows in
    ap (λ (a : App). built_fault a nothing_held rest) (built_is name o)
    ∙ leaf_fault (record { top = built_shape name o; subs = [] }) nothing_held rest refl
    ∙ rw ((lacks_defaults rows (built_rules o) (no_defaults o)).0, none_required name o (finished (built_rules o) (last o rest).held)) refl

first_two : (a b : Kinds) → or_else a (or_else b []) ≡ [] → or_else a b ≡ []
first_two [] [] h = refl
first_two [] (k ∷ ks) h = cc
first_two (k ∷ ks) b h = cc

module _ (name : Word) (o : Options) (proper : IsProper o) (w : Word) (rest : List Word) (long : has_short rest ≡ false) where
  goes : Goes name o proper rest (walk_from nothing_held) [] (given_by o rest)
  goes = (walks name o proper rest long).between [] nothing false

  -- a parse that succeeds has values that the definition gives
  pub fails : given_by o rest ≡ None → fault_of (syntax name o) (w ∷ rest) ≡ [] → ⊥
  fails none fault = (subst (λ g. Goes name o proper rest (walk_from nothing_held) [] g) none goes) (first_two _ _ (sym (faults name o w rest) ∙ fault))

  pub passes : (given : Given) → given_by o rest ≡ Some given → fault_of (syntax name o) (w ∷ rest) ≡ []
  passes given is = let ends = subst (λ g. Goes name o proper rest (walk_from nothing_held) [] g) is goes in faults name o w rest ∙ rw (ends.0, ends.1) refl

  pub rows_given : (given : Given) → given_by o rest ≡ Some given → matches_of (syntax name o) (w ∷ rest) ≡ all_added given []
  rows_given given is =
      let ends = subst (λ g. Goes name o proper rest (walk_from nothing_held) [] g) is goes in
      ap (λ (a : App). finished a.top.rules (walk a.top.rules [] nothing_held rest).held) (built_is name o)
      ∙ (lacks_defaults (settled (built_rules o) (last o rest).held).rows (built_rules o) (no_defaults o)).1 ∙ ends.2

-- ---- the values of a name

abbrev pub texts_under : Word → List Row → List Word
texts_under id rows = unwrap_or (all_of id rows) []

abbrev if_named : Word → Word → Word → List Word
if_named id n v = cond (bytes_eq n id) (v ∷ []) []

same : (a b : Word) → bytes_eq a b ≡ true → a ≡ b
same a b e = (bytes_eq-Decides a b).0 e

one_more : (id n v : Word) (rows : List Row) → texts_under id (value_added n v rows) ≡ texts_under id rows ++ if_named id n v
one_more id n v [] = go (bytes_eq n id) refl
  where
    go : (b : Bool) → bytes_eq n id ≡ b → texts_under id (value_added n v []) ≡ texts_under id [] ++ if_named id n v
    go true is = rw is refl
    go false is = rw is refl
one_more id n v (r ∷ rs) = go (bytes_eq r.id n) refl (bytes_eq r.id id) refl (one_more id n v rs)
  where
    go : (b1 : Bool) → bytes_eq r.id n ≡ b1 → (b2 : Bool) → bytes_eq r.id id ≡ b2 → texts_under id (value_added n v rs) ≡ texts_under id rs ++ if_named id n v
        → texts_under id (value_added n v (r ∷ rs)) ≡ texts_under id (r ∷ rs) ++ if_named id n v
    go true at true is next = let here : bytes_eq n id ≡ true = subst (λ (x : Word). bytes_eq x id ≡ true) (same r.id n at) is in rw (at, is, here) refl
    go true at false is next = let here : bytes_eq n id ≡ false = subst (λ (x : Word). bytes_eq x id ≡ false) (same r.id n at) is in rw (at, is, here) (sym (append-nil (texts_under id rs)))
    go false at true is next =
        let apart : bytes_eq n id ≡ false = differs (bytes_eq n id) refl in
        rw (at, is, apart) (sym (append-nil r.values))
      where
        differs : (b : Bool) → bytes_eq n id ≡ b → b ≡ false
        differs true e = absurd (true≢false (sym (subst (λ (x : Word). bytes_eq r.id x ≡ true) (same r.id id is ∙ sym (same n id e)) ((bytes_eq-Decides r.id r.id).1 refl)) ∙ at))
        differs false e = refl
    go false at false is next = rw (at, is) next

values_more : (id n v : Word) (given : Given) → if_named id n v ++ values id given ≡ values id ((n, v) ∷ given)
values_more id n v given = go (bytes_eq n id) refl
  where
    go : (b : Bool) → bytes_eq n id ≡ b → if_named id n v ++ values id given ≡ values id ((n, v) ∷ given)
    go true is = rw is refl
    go false is = rw is refl

under_all : (id : Word) (given : Given) (rows : List Row) → texts_under id (all_added given rows) ≡ texts_under id rows ++ values id given
unfolding all_added
under_all id [] rows = sym (append-nil (texts_under id rows))
under_all id (g ∷ gs) rows = under_all id gs (value_added g.0 g.1 rows) ∙ ap (λ t. t ++ values id gs) (one_more id g.0 g.1 rows)
    ∙ append_assoc (texts_under id rows) (if_named id g.0 g.1) (values id gs) ∙ ap (λ t. texts_under id rows ++ t) (values_more id g.0 g.1 gs)

pub texts_given : (id : Word) (given : Given) → texts_under id (all_added given []) ≡ values id given
texts_given id given = under_all id given []

-- ---- what the code answers

raw_texts : (m : ArgMatches) (name : Word) → texts_in m name ≡ texts_under name (rows_of (found_of m))
raw_texts m name = ap (λ (x : Option (List Word)). unwrap_or x []) (raw_values-rows (found_of m) name)

refused_by : (o : Options) (rest : List Word) (k : ErrorKind) → given_by o rest ≡ None → IsGivenBy o rest (Err (refusal_of k))
refused_by o rest kind.OutOfMemory e = tt
refused_by o rest _ e = e

module _ (name : Word) (o : Options) (proper : IsProper o) where
  given_after_fault : (w : Word) (rest : List Word) (m : ArgMatches) → has_short rest ≡ false → fault_of (syntax name o) (w ∷ rest) ≡ [] → rows_of (found_of m) ≡ matches_of (syntax name o) (w ∷ rest)
      → (g : Option Given) → given_by o rest ≡ g → IsGivenBy o rest (Ok m)
  given_after_fault w rest m long fault rows None is = absurd (fails name o proper w rest long is fault)
  given_after_fault w rest m long fault rows (Some given) is =
      (given, is, λ id. raw_texts m id ∙ ap (texts_under id) (rows ∙ rows_given name o proper w rest long given is) ∙ texts_given id given)

  pub given_ok : (words : List (Bor Word)) (m : ArgMatches) → has_short (map (λ w. w.now) (drop 1 words)) ≡ false → fault_of (syntax name o) (map (λ w. w.now) words) ≡ []
      → rows_of (found_of m) ≡ matches_of (syntax name o) (map (λ w. w.now) words) → IsGiven o (map (λ w. w.now) words) (Ok m)
  given_ok [] m long fault rows = tt
  given_ok (w ∷ rest) m long fault rows = given_after_fault w.now (map (λ w. w.now) rest) m long fault rows (given_by o (map (λ w. w.now) rest)) refl

  among : (w : Word) (rest : List Word) (k : ErrorKind) → has_short rest ≡ false → IsAmong k (fault_of (syntax name o) (w ∷ rest)) → (g : Option Given) → given_by o rest ≡ g → IsGivenBy o rest (Err (refusal_of k))
  among w rest k long h None is = refused_by o rest k is
  among w rest k long h (Some given) is = absurd (subst (λ kinds. IsAmong k kinds) (passes name o proper w rest long given is) h)

  pub given_failed : (words : List (Bor Word)) (e : Error) → has_short (map (λ w. w.now) (drop 1 words)) ≡ false → HasKind (fault_of (syntax name o) (map (λ w. w.now) words)) e
      → IsGiven o (map (λ w. w.now) words) (Err (refusal_of (kind_of e)))
  given_failed [] e long h = tt
  given_failed (w ∷ rest) e long (inl oom) = subst (λ k. IsGivenBy o (map (λ w. w.now) rest) (Err (refusal_of k))) (sym oom) tt
  given_failed (w ∷ rest) e long (inr h) = among w.now (map (λ w. w.now) rest) (kind_of e) long h (given_by o (map (λ w. w.now) rest)) refl
