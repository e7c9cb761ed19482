-- What `clap` makes of a command's syntax when it builds it.
use Rattle.std.proofs.Common.{◌≡◌, ◌∙◌, Bool, true, false, cond, ◌&&◌, ◌||◌, not, refl, ap, ap₂, List, [], ◌∷◌, ◌++◌, map, Option, Some, None, is_some}
use Rattle.std.proofs.Math.Bool.{or-false}
use Rattle.std.specs.Prelude.{◌==◌, find, count_by}
use Rattle.std.specs.List.{list_all, list_any}
use Rattle.std.specs.Option.{option_map_or}
use Rattle.std.specs.Str.{bytes_eq}
use Rattle.std.proofs.lemmas.Slice.Eq.{bytes_eq-Decides}
use Rattle.clap.specs.Faults.{is_simple_and_free}
use Rattle.clap.specs.Simple.{Shape, built, filled_from, is_in_order, new_shape}
use Rattle.clap.specs.Walk.{Rule, arg_by_id, arg_by_index, arg_by_long, has_long, is_early_multiple}
use Rattle.clap.specs.declared.builder.value_parser.ValueParser.TheVariants as vp
use Rattle.host_words.specs.{Options, Word, has_name, words_name, IsProper, rules, syntax, valued_rule, plain_rule, words_rule}

abbrev pub built_valued : Word → Rule
built_valued name = record (valued_rule name) { range = Some (record { start_inclusive = 1; end_inclusive = 1 }); parser = Some vp.String }

abbrev pub built_plain : Word → Rule
built_plain name = record (plain_rule name) { parser = Some vp.String }

abbrev pub built_words : Rule
built_words = record words_rule { range = Some (record { start_inclusive = 1; end_inclusive = 1 }); parser = Some vp.String; index = Some 1 }

abbrev pub built_rules : Options → List Rule
built_rules o = map built_valued o.valued ++ (map built_plain o.plain ++ built_words ∷ [])

abbrev pub built_shape : Word → Options → Shape
built_shape name o = record (new_shape name) { rules = built_rules o; disable_help_flag = true; disable_version_flag = true; disable_help_subcommand = true; is_built = true }

-- ---- building

fills_plain : (ps : List Word) → filled_from 1 (map plain_rule ps ++ words_rule ∷ []) ≡ map built_plain ps ++ built_words ∷ []
fills_plain [] = refl
fills_plain (p ∷ ps) = ap (λ rs. built_plain p ∷ rs) (fills_plain ps)

fills : (vs ps : List Word) → filled_from 1 (map valued_rule vs ++ (map plain_rule ps ++ words_rule ∷ [])) ≡ map built_valued vs ++ (map built_plain ps ++ built_words ∷ [])
fills [] ps = fills_plain ps
fills (v ∷ vs) ps = ap (λ rs. built_valued v ∷ rs) (fills vs ps)

pub built_is : (name : Word) (o : Options) → built (syntax name o) ≡ record { top = built_shape name o; subs = [] }
built_is name o = ap (λ rs. record { top = record (built_shape name o) { rules = rs }; subs = [] }) (fills o.valued o.plain)

-- ---- what holds of each rule holds of all

module _ (p : Rule → Bool) (f g : Word → Rule) (w : Rule) (of_f : (n : Word) → p (f n) ≡ true) (of_g : (n : Word) → p (g n) ≡ true) (of_w : p w ≡ true) where
  all_plain : (ps : List Word) → list_all p (map g ps ++ w ∷ []) ≡ true
  all_plain [] = ap (λ b. b && true) of_w
  all_plain (x ∷ xs) = ap₂ (λ a b. a && b) (of_g x) (all_plain xs)

  pub all_rules : (vs ps : List Word) → list_all p (map f vs ++ (map g ps ++ w ∷ [])) ≡ true
  all_rules [] ps = all_plain ps
  all_rules (x ∷ xs) ps = ap₂ (λ a b. a && b) (of_f x) (all_rules xs ps)

module _ (p : Rule → Bool) (f g : Word → Rule) (w : Rule) (of_f : (n : Word) → p (f n) ≡ false) (of_g : (n : Word) → p (g n) ≡ false) (of_w : p w ≡ false) where
  none_plain : (ps : List Word) → list_any p (map g ps ++ w ∷ []) ≡ false
  none_plain [] = ap (λ b. b || false) of_w
  none_plain (x ∷ xs) = ap₂ (λ a b. a || b) (of_g x) (none_plain xs)

  pub none_rules : (vs ps : List Word) → list_any p (map f vs ++ (map g ps ++ w ∷ [])) ≡ false
  none_rules [] ps = none_plain ps
  none_rules (x ∷ xs) ps = ap₂ (λ a b. a || b) (of_f x) (none_rules xs ps)

counts_plain : (ps : List Word) → count_by (λ (a : Rule). is_some a.index) (map built_plain ps ++ built_words ∷ []) ≡ 1
counts_plain [] = refl
counts_plain (p ∷ ps) = counts_plain ps

counts : (vs ps : List Word) → count_by (λ (a : Rule). is_some a.index) (map built_valued vs ++ (map built_plain ps ++ built_words ∷ [])) ≡ 1
counts [] ps = counts_plain ps
counts (v ∷ vs) ps = counts vs ps

in_order : (o : Options) → is_in_order (built_rules o) ≡ true
in_order o = ap (λ n. not (list_any (is_early_multiple n) (built_rules o))) (counts o.valued o.plain)
    ∙ ap not (none_rules (is_early_multiple 1) built_valued built_plain built_words (λ n. refl) (λ n. refl) refl o.valued o.plain)

all_hold : (raw simple order free : Bool) → raw ≡ true → simple ≡ true → order ≡ true → free ≡ true → (((raw && true) && ((simple && order) && true)) && (free && true)) ≡ true
all_hold raw simple order free r s o f = rw (r, s, o, f) refl

pub is_simple_syntax : (name : Word) (o : Options) → is_simple_and_free (syntax name o) ≡ true
is_simple_syntax name o =
    let raw = all_rules (λ a. a.is_simple) valued_rule plain_rule words_rule (λ n. refl) (λ n. refl) refl o.valued o.plain in
    let simple = all_rules (λ a. a.is_simple) built_valued built_plain built_words (λ n. refl) (λ n. refl) refl o.valued o.plain in
    let free = all_rules (λ a. a.is_free) built_valued built_plain built_words (λ n. refl) (λ n. refl) refl o.valued o.plain in
    ap (λ rs. (((list_all (λ (a : Rule). a.is_simple) (rules o) && true) && ((list_all (λ (a : Rule). a.is_simple) rs && is_in_order rs) && true)) && (list_all (λ (a : Rule). a.is_free) rs && true))) (fills o.valued o.plain)
    ∙ all_hold _ _ _ _ raw simple (in_order o) free

-- ---- finding a rule

abbrev long_test : Word → Rule → Bool
long_test name a = not (is_some a.index) && has_long a name

same_text : (a b : Word) → bytes_eq a b ≡ true → a ≡ b
same_text a b e = (bytes_eq-Decides a b).0 e

module _ (f : Word → Rule) (test : Word → Rule → Bool) (tests : (n name : Word) → test name (f n) ≡ bytes_eq n name) (name : Word) (rest : List Rule) where
  pub find_named : (ns : List Word) → find (test name) (map f ns ++ rest) ≡ cond (has_name ns name) (Some (f name)) (find (test name) rest)
  find_named [] = refl
  find_named (n ∷ ns) = ap (λ b. cond b (Some (f n)) (find (test name) (map f ns ++ rest))) (tests n name) ∙ go (bytes_eq n name) (same_text n name) (find_named ns)
    where
      go : (b : Bool) → (b ≡ true → n ≡ name) → find (test name) (map f ns ++ rest) ≡ cond (has_name ns name) (Some (f name)) (find (test name) rest)
          → cond b (Some (f n)) (find (test name) (map f ns ++ rest)) ≡ cond (b || has_name ns name) (Some (f name)) (find (test name) rest)
      go true h next = ap (λ m. Some (f m)) (h refl)
      go false h next = next

-- the rule of a long name
abbrev pub rule_named : Options → Word → Option Rule
rule_named o name = cond (has_name o.valued name) (Some (built_valued name)) (cond (has_name o.plain name) (Some (built_plain name)) None)

pub by_long : (o : Options) (name : Word) → arg_by_long (built_rules o) name ≡ rule_named o name
by_long o name = find_named built_valued long_test (λ n m. or-false (bytes_eq n m)) name (map built_plain o.plain ++ built_words ∷ []) o.valued
    ∙ ap (cond (has_name o.valued name) (Some (built_valued name))) (find_named built_plain long_test (λ n m. or-false (bytes_eq n m)) name (built_words ∷ []) o.plain)

abbrev id_test : Word → Rule → Bool
id_test id a = bytes_eq a.id id

pub by_id_valued : (o : Options) (id : Word) → has_name o.valued id ≡ true → arg_by_id (built_rules o) id ≡ Some (built_valued id)
by_id_valued o id has = find_named built_valued id_test (λ n m. refl) id (map built_plain o.plain ++ built_words ∷ []) o.valued
    ∙ ap (λ b. cond b (Some (built_valued id)) (find (id_test id) (map built_plain o.plain ++ built_words ∷ []))) has

pub by_id_words : (o : Options) → IsProper o → arg_by_id (built_rules o) words_name ≡ Some built_words
by_id_words o proper = find_named built_valued id_test (λ n m. refl) words_name (map built_plain o.plain ++ built_words ∷ []) o.valued
    ∙ ap (λ b. cond b (Some (built_valued words_name)) (find (id_test words_name) (map built_plain o.plain ++ built_words ∷ []))) proper.valued
    ∙ find_named built_plain id_test (λ n m. refl) words_name (built_words ∷ []) o.plain
    ∙ ap (λ b. cond b (Some (built_plain words_name)) (Some built_words)) proper.plain

abbrev index_test : Rule → Bool
index_test a = option_map_or (λ k. k == 1) a.index false

skips : (f : Word → Rule) → ((n : Word) → index_test (f n) ≡ false) → (ns : List Word) (rest : List Rule) → find index_test (map f ns ++ rest) ≡ find index_test rest
skips f none [] rest = refl
skips f none (n ∷ ns) rest = ap (λ b. cond b (Some (f n)) (find index_test (map f ns ++ rest))) (none n) ∙ skips f none ns rest

pub by_index : (o : Options) → arg_by_index (built_rules o) 1 ≡ Some built_words
by_index o = skips built_valued (λ n. refl) o.valued (map built_plain o.plain ++ built_words ∷ []) ∙ skips built_plain (λ n. refl) o.plain (built_words ∷ [])
