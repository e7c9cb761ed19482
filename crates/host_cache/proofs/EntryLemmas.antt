-- The entries of a list, found by their blocks.
use Rattle.std.proofs.Common.{◌≡◌, ◌≢◌, inl, inr, ℕ, zero, suc, ◌+◌, Bool, true, false, Option, Some, None, List, [], ◌∷◌, ◌++◌, length, take, map, refl, sym, ◌∙◌, ap, subst, arith}
use Rattle.std.specs.Prelude.{nat_eq, cond, slice_get, option_map}
use Rattle.std.specs.Map.{remove_entry}
use Rattle.std.proofs.lemmas.Bool.{cases_eq}
use Rattle.std.proofs.lemmas.Bool.Decides.{nat_tests}
use Rattle.host_cache.specs.{line_at, in_front, AreApart, Line}

abbrev pub Entries : Type 0
Entries = List (ℕ × Line)

same_passes : (a b : ℕ) → a ≡ b → nat_eq a b ≡ true
same_passes a b same = grind (arith, nat_tests)

other_fails : (a b : ℕ) → a ≢ b → nat_eq a b ≡ false
other_fails a b other = grind (arith, nat_tests)

-- ---- the first entry, and the others

pub at_here : (e : ℕ × Line) (es : Entries) (k : ℕ) → e.0 ≡ k → line_at (e ∷ es) k ≡ Some e.1
at_here e es k same = ap (λ (t : Bool). cond t (Some e.1) (line_at es k)) (same_passes k e.0 (sym same))

pub at_other : (e : ℕ × Line) (es : Entries) (k : ℕ) → e.0 ≢ k → line_at (e ∷ es) k ≡ line_at es k
at_other e es k other = ap (λ (t : Bool). cond t (Some e.1) (line_at es k)) (other_fails k e.0 (λ x. other (sym x)))

rest_here : (e : ℕ × Line) (es : Entries) (b : ℕ) → e.0 ≡ b → remove_entry (nat_eq b) (e ∷ es) ≡ es
rest_here e es b same = ap (λ (t : Bool). cond t es (e ∷ remove_entry (nat_eq b) es)) (same_passes b e.0 (sym same))

rest_other : (e : ℕ × Line) (es : Entries) (b : ℕ) → e.0 ≢ b → remove_entry (nat_eq b) (e ∷ es) ≡ e ∷ remove_entry (nat_eq b) es
rest_other e es b other = ap (λ (t : Bool). cond t es (e ∷ remove_entry (nat_eq b) es)) (other_fails b e.0 (λ x. other (sym x)))

-- ---- an entry taken out

removed_other : (es : Entries) (b k : ℕ) → b ≢ k → line_at (remove_entry (nat_eq b) es) k ≡ line_at es k
removed_other [] b k other = refl
removed_other (e ∷ es) b k other = elim (cases_eq e.0 b) [
  | inl same ↦ ap (λ (l : Entries). line_at l k) (rest_here e es b same) ∙ sym (at_other e es k (λ x. other (sym same ∙ x)))
  | inr apart ↦
      ap (λ (l : Entries). line_at l k) (rest_other e es b apart)
      ∙ (elim (cases_eq e.0 k) [
        | inl found ↦ at_here e (remove_entry (nat_eq b) es) k found ∙ sym (at_here e es k found)
        | inr more ↦ at_other e (remove_entry (nat_eq b) es) k more ∙ removed_other es b k other ∙ sym (at_other e es k more)
      ])
]

removed_here : (es : Entries) (b : ℕ) → AreApart es → line_at (remove_entry (nat_eq b) es) b ≡ None
removed_here [] b apart = refl
removed_here (e ∷ es) b apart = elim (cases_eq e.0 b) [
  | inl same ↦ ap (λ (l : Entries). line_at l b) (rest_here e es b same) ∙ subst (λ (k : ℕ). line_at es k ≡ None) same apart.0
  | inr other ↦ ap (λ (l : Entries). line_at l b) (rest_other e es b other) ∙ at_other e (remove_entry (nat_eq b) es) b other ∙ removed_here es b apart.1
]

apart_removed : (es : Entries) (b : ℕ) → AreApart es → AreApart (remove_entry (nat_eq b) es)
apart_removed [] b apart = apart
apart_removed (e ∷ es) b apart = elim (cases_eq e.0 b) [
  | inl same ↦ subst (λ (l : Entries). AreApart l) (sym (rest_here e es b same)) apart.1
  | inr other ↦ subst (λ (l : Entries). AreApart l) (sym (rest_other e es b other)) (removed_other es b e.0 (λ x. other (sym x)) ∙ apart.0, apart_removed es b apart.1)
]

pub removed_absent : (es : Entries) (b : ℕ) → line_at es b ≡ None → remove_entry (nat_eq b) es ≡ es
removed_absent [] b absent = refl
removed_absent (e ∷ es) b absent = elim (cases_eq e.0 b) [
  | inl same ↦ let wrong : Some e.1 ≡ None = sym (at_here e es b same) ∙ absent in cc
  | inr other ↦ rest_other e es b other ∙ ap (λ (l : Entries). e ∷ l) (removed_absent es b (sym (at_other e es b other) ∙ absent))
]

length_removed : (es : Entries) (b : ℕ) (line : Line) → line_at es b ≡ Some line → length (remove_entry (nat_eq b) es) + 1 ≡ length es
length_removed [] b line found = cc
length_removed (e ∷ es) b line found = elim (cases_eq e.0 b) [
  | inl same ↦ let l : length (remove_entry (nat_eq b) (e ∷ es)) ≡ length es = ap (λ (l : Entries). length l) (rest_here e es b same) in omega (arith, l)
  | inr other ↦
      let l : length (remove_entry (nat_eq b) (e ∷ es)) ≡ length (e ∷ remove_entry (nat_eq b) es) = ap (λ (l : Entries). length l) (rest_other e es b other) in
      let rest = length_removed es b line (sym (at_other e es b other) ∙ found) in
      omega (arith, l, rest)
]

-- ---- an entry in front

pub front_here : (b : ℕ) (line : Line) (es : Entries) → line_at (in_front b line es) b ≡ Some line
front_here b line es = at_here (b, line) (remove_entry (nat_eq b) es) b refl

pub front_other : (b k : ℕ) (line : Line) (es : Entries) → b ≢ k → line_at (in_front b line es) k ≡ line_at es k
front_other b k line es other = at_other (b, line) (remove_entry (nat_eq b) es) k other ∙ removed_other es b k other

pub apart_front : (b : ℕ) (line : Line) (es : Entries) → AreApart es → AreApart (in_front b line es)
apart_front b line es apart = (removed_here es b apart, apart_removed es b apart)

pub length_front_found : (b : ℕ) (line old : Line) (es : Entries) → line_at es b ≡ Some old → length (in_front b line es) ≡ length es
length_front_found b line old es found = let rest = length_removed es b old found in omega (arith, rest)

pub length_front_absent : (b : ℕ) (line : Line) (es : Entries) → line_at es b ≡ None → length (in_front b line es) ≡ length es + 1
length_front_absent b line es absent = let rest : length (remove_entry (nat_eq b) es) ≡ length es = ap (λ (l : Entries). length l) (removed_absent es b absent) in omega (arith, rest)

-- ---- entries changed where they stand

abbrev pub each_line : (ℕ → Line → Line) → Entries → Entries
each_line f es = map (λ e. (e.0, f e.0 e.1)) es

pub at_each : (f : ℕ → Line → Line) (es : Entries) (k : ℕ) → line_at (each_line f es) k ≡ option_map (f k) (line_at es k)
at_each f [] k = refl
at_each f (e ∷ es) k = elim (cases_eq e.0 k) [
  | inl same ↦
      at_here (e.0, f e.0 e.1) (each_line f es) k same
      ∙ ap (λ (j : ℕ). Some (f j e.1)) same
      ∙ sym (ap (λ (o : Option Line). option_map (f k) o) (at_here e es k same))
  | inr other ↦
      at_other (e.0, f e.0 e.1) (each_line f es) k other
      ∙ at_each f es k
      ∙ sym (ap (λ (o : Option Line). option_map (f k) o) (at_other e es k other))
]

pub apart_each : (f : ℕ → Line → Line) (es : Entries) → AreApart es → AreApart (each_line f es)
apart_each f [] apart = apart
apart_each f (e ∷ es) apart = (at_each f es e.0 ∙ ap (λ (o : Option Line). option_map (f e.0) o) apart.0, apart_each f es apart.1)

-- ---- the last entry

pub push_other : (front : Entries) (e : ℕ × Line) (k : ℕ) → e.0 ≢ k → line_at (front ++ e ∷ []) k ≡ line_at front k
push_other [] e k other = at_other e [] k other
push_other (f ∷ fs) e k other = elim (cases_eq f.0 k) [
  | inl found ↦ at_here f (fs ++ e ∷ []) k found ∙ sym (at_here f fs k found)
  | inr more ↦ at_other f (fs ++ e ∷ []) k more ∙ push_other fs e k other ∙ sym (at_other f fs k more)
]

pub push_here : (front : Entries) (e : ℕ × Line) → AreApart (front ++ e ∷ []) → (line_at front e.0 ≡ None) × (line_at (front ++ e ∷ []) e.0 ≡ Some e.1)
push_here [] e apart = (refl, at_here e [] e.0 refl)
push_here (f ∷ fs) e apart =
    let rest = push_here fs e apart.1 in
    elim (cases_eq f.0 e.0) [
      | inl same ↦ let wrong : Some e.1 ≡ None = sym rest.1 ∙ ap (λ (k : ℕ). line_at (fs ++ e ∷ []) k) (sym same) ∙ apart.0 in cc
      | inr other ↦ (at_other f fs e.0 other ∙ rest.0, at_other f (fs ++ e ∷ []) e.0 other ∙ rest.1)
    ]

pub front_none : (fs gs : Entries) (k : ℕ) → line_at (fs ++ gs) k ≡ None → line_at fs k ≡ None
front_none [] gs k none = refl
front_none (f ∷ fs) gs k none = elim (cases_eq f.0 k) [
  | inl same ↦ let wrong : Some f.1 ≡ None = sym (at_here f (fs ++ gs) k same) ∙ none in cc
  | inr other ↦ at_other f fs k other ∙ front_none fs gs k (sym (at_other f (fs ++ gs) k other) ∙ none)
]

pub apart_pushed : (front : Entries) (e : ℕ × Line) → AreApart (front ++ e ∷ []) → AreApart front
apart_pushed [] e apart = tt
apart_pushed (f ∷ fs) e apart = (front_none fs (e ∷ []) f.0 apart.0, apart_pushed fs e apart.1)

-- a list that isn't empty is its last entry behind the others
pub record IsSplit (n : ℕ) (es : Entries) : Type 0 where
  pub front : Entries
  pub last : ℕ × Line
  pub whole : es ≡ front ++ last ∷ []
  pub taken : take n es ≡ front
  pub read : slice_get es n ≡ Some last

pub split_last : (n : ℕ) (es : Entries) → length es ≡ suc n → IsSplit n es
split_last n [] long = absurd (omega arith)
split_last zero (x ∷ []) long = record { front = []; last = x; whole = refl; taken = refl; read = refl }
split_last zero (x ∷ y ∷ ys) long = absurd (omega arith)
split_last (suc n) (x ∷ xs) long =
    let rest = split_last n xs (omega arith) in
    record {
      front = x ∷ rest.front;
      last = rest.last;
      whole = ap (λ (l : Entries). x ∷ l) rest.whole;
      taken = ap (λ (l : Entries). x ∷ l) rest.taken;
      read = rest.read;
    }
