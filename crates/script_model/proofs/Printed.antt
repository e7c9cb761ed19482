-- Lines of words that were printed are read again.
use Rattle.std.proofs.Common.{◌≡◌, ◌≢◌, ℕ, zero, suc, ◌-◌, ◌≤◌, Bool, true, false, not, cond, ◌&&◌, nat_le, List, [], ◌∷◌, ◌++◌, length, get_or, refl, inl, inr, ap, sym, ◌∙◌, arith, append_assoc}
use Rattle.std.specs.Prelude.{◌==◌, filter}
use Rattle.std.specs.List.{slice_split, onto_first, list_all, take_while}
use Rattle.std.specs.Str.Lines.{lines, lines_of_parts, strip_carriage_return}
use Rattle.std.proofs.lemmas.List.Splits.{slice_split-cons_yes, slice_split-cons_no, length-slice_split}
use Rattle.std.proofs.lemmas.List.Sums.{take_while-cons}
use Rattle.std.proofs.lemmas.Bool.Decides.{eqb_tells}
use Rattle.host_text.specs.{line}
use Rattle.script_model.specs.{words, is_blank, begins_comment, is_allowed, all_allowed}
use Rattle.script_model.proofs.FirstLine.{lines_more}
use Rattle.script_model.proofs.PrintedValues.{and_true, le_from, le_true}

-- ---- tests

pub ne_false : (a b : ℕ) → a ≢ b → (a == b) ≡ false
ne_false a b h = elim (eqb_tells a b) [ inl t ↦ absurd (h t.1) | inr f ↦ f.0 ]

pub weaker : {X : Type 0} (p q : X → Bool) (more : (x : X) → p x ≡ true → q x ≡ true) (xs : List X) → list_all p xs ≡ true → list_all q xs ≡ true
weaker p q more [] h = refl
weaker p q more (x ∷ xs) h = let both = and_true (p x) (list_all p xs) h in rw (more x both.0) (weaker p q more xs both.1)

pub all_append : {X : Type 0} (p : X → Bool) (xs ys : List X) → list_all p xs ≡ true → list_all p ys ≡ true → list_all p (xs ++ ys) ≡ true
all_append p [] ys h k = k
all_append p (x ∷ xs) ys h k = let both = and_true (p x) (list_all p xs) h in rw both.0 (all_append p xs ys both.1 k)

-- ---- splitting

-- what ends at the first element that passes
pub split_front : (p q : ℕ → Bool) (apart : (b : ℕ) → q b ≡ true → p b ≡ false) (w : List ℕ) (y : ℕ) (rest : List ℕ) → list_all q w ≡ true → p y ≡ true → slice_split p (w ++ y ∷ rest) ≡ w ∷ slice_split p rest
split_front p q apart [] y rest h k = slice_split-cons_yes p y rest k
split_front p q apart (b ∷ w) y rest h k =
    let both = and_true (q b) (list_all q w) h in
    slice_split-cons_no p b (w ++ y ∷ rest) (apart b both.0) ∙ ap (onto_first b) (split_front p q apart w y rest both.1 k)

pub split_whole : (p q : ℕ → Bool) (apart : (b : ℕ) → q b ≡ true → p b ≡ false) (w : List ℕ) → list_all q w ≡ true → slice_split p w ≡ w ∷ []
split_whole p q apart [] h = refl
split_whole p q apart (b ∷ w) h =
    let both = and_true (q b) (list_all q w) h in
    slice_split-cons_no p b w (apart b both.0) ∙ ap (onto_first b) (split_whole p q apart w both.1)

-- ---- words

-- a word that is no comment
abbrev pub is_word : List ℕ → Bool
is_word w = not (length w == 0) && (not (begins_comment w) && list_all is_allowed w)

not_blank : (b : ℕ) → is_allowed b ≡ true → is_blank b ≡ false
not_blank b h =
    let low : 33 ≤ b = le_from 33 b (and_true (nat_le 33 b) (nat_le b 126) h).0 in
    let a : b ≢ 32 = omega arith in
    let c : b ≢ 9 = omega arith in
    rw (ne_false b 32 a, ne_false b 9 c)

-- words with one space between
abbrev pub joined : List (List ℕ) → List ℕ
joined [] = []
joined (w ∷ []) = w
joined (w ∷ v ∷ ws) = w ++ 32 ∷ joined (v ∷ ws)

line-joined : (ws : List (List ℕ)) → line ws ≡ joined ws ++ 10 ∷ []
line-joined [] = refl
line-joined (w ∷ []) = refl
line-joined (w ∷ v ∷ ws) = ap (λ l. w ++ 32 ∷ l) (line-joined (v ∷ ws)) ∙ sym (append_assoc w (32 ∷ joined (v ∷ ws)) (10 ∷ []))

split_joined : (w : List ℕ) (ws : List (List ℕ)) → list_all (λ v. list_all is_allowed v) (w ∷ ws) ≡ true → slice_split is_blank (joined (w ∷ ws)) ≡ w ∷ ws
split_joined w [] h = split_whole is_blank is_allowed not_blank w (and_true (list_all is_allowed w) true h).0
split_joined w (v ∷ ws) h =
    let both = and_true (list_all is_allowed w) (list_all (λ u. list_all is_allowed u) (v ∷ ws)) h in
    split_front is_blank is_allowed not_blank w 32 (joined (v ∷ ws)) both.0 refl ∙ ap (λ us. w ∷ us) (split_joined v ws both.1)

filter_all : (p : List ℕ → Bool) (ws : List (List ℕ)) → list_all p ws ≡ true → filter p ws ≡ ws
filter_all p [] h = refl
filter_all p (w ∷ ws) h = let both = and_true (p w) (list_all p ws) h in rw both.0 (ap (λ us. w ∷ us) (filter_all p ws both.1))

while_all : (p : List ℕ → Bool) (ws : List (List ℕ)) → list_all p ws ≡ true → take_while p ws ≡ ws
while_all p [] h = refl
while_all p (w ∷ ws) h =
    let both = and_true (p w) (list_all p ws) h in
    take_while-cons p w ws ∙ ap (λ b. cond b (w ∷ take_while p ws) []) both.0 ∙ ap (λ us. w ∷ us) (while_all p ws both.1)

pub allowed_words : (ws : List (List ℕ)) → list_all is_word ws ≡ true → all_allowed ws ≡ true
allowed_words = weaker is_word (λ w. list_all is_allowed w) (λ w h. (and_true (not (begins_comment w)) (list_all is_allowed w) (and_true (not (length w == 0)) (not (begins_comment w) && list_all is_allowed w) h).1).1)

pub words_joined : (w : List ℕ) (ws : List (List ℕ)) → list_all is_word (w ∷ ws) ≡ true → words (joined (w ∷ ws)) ≡ w ∷ ws
words_joined w ws h =
    let full : list_all (λ v. not (length v == 0)) (w ∷ ws) ≡ true = weaker is_word (λ v. not (length v == 0)) (λ v k. (and_true (not (length v == 0)) (not (begins_comment v) && list_all is_allowed v) k).0) (w ∷ ws) h in
    let kept : list_all (λ v. not (begins_comment v)) (w ∷ ws) ≡ true = weaker is_word (λ v. not (begins_comment v)) (λ v k. (and_true (not (begins_comment v)) (list_all is_allowed v) (and_true (not (length v == 0)) (not (begins_comment v) && list_all is_allowed v) k).1).0) (w ∷ ws) h in
    ap (λ vs. take_while (λ v. not (begins_comment v)) (filter (λ v. not (length v == 0)) vs)) (split_joined w ws (allowed_words (w ∷ ws) h))
    ∙ ap (take_while (λ v. not (begins_comment v))) (filter_all (λ v. not (length v == 0)) (w ∷ ws) full)
    ∙ while_all (λ v. not (begins_comment v)) (w ∷ ws) kept

-- ---- lines

-- what stands in a printed line
abbrev pub is_plain : ℕ → Bool
is_plain b = nat_le 32 b && nat_le b 126

plain_allowed : (b : ℕ) → is_allowed b ≡ true → is_plain b ≡ true
plain_allowed b h =
    let both = and_true (nat_le 33 b) (nat_le b 126) h in
    let low : 33 ≤ b = le_from 33 b both.0 in
    rw (le_true 32 b (omega arith), both.1)

plain_joined : (ws : List (List ℕ)) → all_allowed ws ≡ true → list_all is_plain (joined ws) ≡ true
plain_joined [] h = refl
plain_joined (w ∷ []) h = weaker is_allowed is_plain plain_allowed w (and_true (list_all is_allowed w) true h).0
plain_joined (w ∷ v ∷ ws) h =
    let both = and_true (list_all is_allowed w) (all_allowed (v ∷ ws)) h in
    all_append is_plain w (32 ∷ joined (v ∷ ws)) (weaker is_allowed is_plain plain_allowed w both.0) (plain_joined (v ∷ ws) both.1)

plain_low : (b : ℕ) → is_plain b ≡ true → 32 ≤ b
plain_low b h = le_from 32 b (and_true (nat_le 32 b) (nat_le b 126) h).0

no_feed : (b : ℕ) → is_plain b ≡ true → (b == 10) ≡ false
no_feed b h = let low = plain_low b h in ne_false b 10 (let ne : b ≢ 10 = omega arith in ne)

no_return : (xs : List ℕ) (i : ℕ) → list_all is_plain xs ≡ true → get_or xs i 0 ≢ 13
no_return [] i h = λ e. absurd (let z : get_or {A = ℕ} [] i 0 ≡ 0 = refl in omega (arith, z, e))
no_return (x ∷ xs) zero h = let low = plain_low x (and_true (is_plain x) (list_all is_plain xs) h).0 in λ e. absurd (omega (arith, low, e))
no_return (x ∷ xs) (suc i) h = no_return xs i (and_true (is_plain x) (list_all is_plain xs) h).1

stripped : (x : List ℕ) → list_all is_plain x ≡ true → strip_carriage_return x ≡ x
stripped x h = rw (ne_false (get_or x (length x - 1) 0) 13 (no_return x (length x - 1) h))

pub lines_printed : (ws : List (List ℕ)) (rest : List ℕ) → list_all is_word ws ≡ true → lines (line ws ++ rest) ≡ joined ws ∷ lines rest
lines_printed ws rest h =
    let p : ℕ → Bool = λ b. b == 10 in
    let plain = plain_joined ws (allowed_words ws h) in
    ap (λ l. lines (l ++ rest)) (line-joined ws)
    ∙ ap lines (append_assoc (joined ws) (10 ∷ []) rest)
    ∙ ap lines_of_parts (split_front p is_plain no_feed (joined ws) 10 rest plain refl)
    ∙ lines_more (joined ws) (slice_split p rest) (omega (arith, length-slice_split p rest))
    ∙ ap (λ x. x ∷ lines rest) (stripped (joined ws) plain)
