-- What a look over the list for dirty entries finds.
use Rattle.std.proofs.Common.{◌≡◌, ◌⊎◌, inl, inr, ℕ, ◌<◌, ◌≤◌, Bool, true, false, Option, Some, None, [], ◌∷◌, refl, sym, ◌∙◌, ap, subst, arith}
use Rattle.std.specs.Prelude.{fold, min, nat_le, if◌then◌else◌}
use Rattle.std.proofs.lemmas.Bool.{cases_eq, cases_lt}
use Rattle.std.proofs.lemmas.Bool.Decides.{nat_tests}
use Rattle.host_cache.specs.{line_at, is_dirty, AreApart, lesser, nearer_of, first_dirty, Line}
use Rattle.host_cache.proofs.EntryLemmas.{Entries, at_here, at_other}
use Rattle.host_cache.proofs.CleanLemmas.{EachOf}

abbrev SomeOf : (ℕ → Line → Type 0) → Entries → Type 0
SomeOf P [] = ⊥
SomeOf P (e ∷ es) = P e.0 e.1 ⊎ SomeOf P es

abbrev scan : ℕ → Option ℕ → Entries → Option ℕ
scan from least lines = fold (λ least e. nearer_of from least e.0 e.1.dirty) least lines

passes : (from b : ℕ) → from ≤ b → nat_le from b ≡ true
passes from b le = grind (arith, nat_tests)

fails : (from b : ℕ) → b < from → nat_le from b ≡ false
fails from b lt = grind (arith, nat_tests)

taken : (from : ℕ) (least : Option ℕ) (b : ℕ) → from ≤ b → nearer_of from least b true ≡ Some (lesser least b)
taken from least b le = ap (λ (t : Bool). if t then Some (lesser least b) else least) (passes from b le)

passed : (from : ℕ) (least : Option ℕ) (b : ℕ) → b < from → nearer_of from least b true ≡ least
passed from least b lt = ap (λ (t : Bool). if t then Some (lesser least b) else least) (fails from b lt)

none_step : (from : ℕ) (least : Option ℕ) (b : ℕ) (d : Bool) → nearer_of from least b d ≡ None → (least ≡ None) × (from ≤ b → d ≡ false)
none_step from least b false is = (is, λ le. refl)
none_step from least b true is = elim (cases_lt b from) [
  | inl before ↦ (sym (passed from least b before) ∙ is, λ le. absurd (omega (arith, le, before)))
  | inr past ↦ let wrong : Some (lesser least b) ≡ None = sym (taken from least b past) ∙ is in cc
]

scan_none : (from : ℕ) (least : Option ℕ) (es : Entries) → scan from least es ≡ None → (least ≡ None) × EachOf (λ b l. from ≤ b → l.dirty ≡ false) es
scan_none from least [] is = (is, tt)
scan_none from least (e ∷ es) is =
    let rest = scan_none from (nearer_of from least e.0 e.1.dirty) es is in
    let first = none_step from least e.0 e.1.dirty rest.0 in
    (first.0, (first.1, rest.1))

-- b was found before, or here
from_step : (from : ℕ) (least : Option ℕ) (k : ℕ) (d : Bool) (b : ℕ) → nearer_of from least k d ≡ Some b → (least ≡ Some b) ⊎ ((from ≤ b) × (k ≡ b) × (d ≡ true))
from_step from least k false b is = inl is
from_step from None k true b is = elim (cases_lt k from) [
  | inl before ↦ inl (sym (passed from None k before) ∙ is)
  | inr past ↦
      let both : Some k ≡ Some b = sym (taken from None k past) ∙ is in
      let same : k ≡ b = cc in
      inr (omega (arith, same, past), same, refl)
]
from_step from (Some a) k true b is = elim (cases_lt k from) [
  | inl before ↦ inl (sym (passed from (Some a) k before) ∙ is)
  | inr past ↦
      let both : Some (min a k) ≡ Some b = sym (taken from (Some a) k past) ∙ is in
      let same : min a k ≡ b = cc in
      elim (cases_lt k a) [
        | inl less ↦ let here : k ≡ b = omega (arith, same, less) in inr (omega (arith, here, past), here, refl)
        | inr more ↦ let there : a ≡ b = omega (arith, same, more) in inl (ap (λ (n : ℕ). Some n) there)
      ]
]

least_step : (from : ℕ) (least : Option ℕ) (k : ℕ) (d : Bool) (b : ℕ) → ((a : ℕ) → nearer_of from least k d ≡ Some a → b ≤ a) → ((a : ℕ) → least ≡ Some a → b ≤ a) × (d ≡ true → from ≤ k → b ≤ k)
least_step from least k false b below = (below, λ is le. cc)
least_step from None k true b below = (λ a is. cc, λ is le. below k (taken from None k le))
least_step from (Some c) k true b below = (
  λ a is.
      let same : c ≡ a = cc in
      elim (cases_lt k from) [
        | inl before ↦ below a (passed from (Some c) k before ∙ is)
        | inr past ↦ let le = below (min c k) (taken from (Some c) k past) in omega (arith, le, same)
      ],
  λ is le. let less = below (min c k) (taken from (Some c) k le) in omega (arith, less),
)

record IsFound (from : ℕ) (least : Option ℕ) (es : Entries) (b : ℕ) : Type 0 where
  source : (least ≡ Some b) ⊎ ((from ≤ b) × SomeOf (λ k l. (k ≡ b) × (l.dirty ≡ true)) es)
  before : (a : ℕ) → least ≡ Some a → b ≤ a
  each : EachOf (λ k l. l.dirty ≡ true → from ≤ k → b ≤ k) es

scan_some : (from : ℕ) (least : Option ℕ) (es : Entries) (b : ℕ) → scan from least es ≡ Some b → IsFound from least es b
scan_some from least [] b is = record {
  source = inl is;
  before = λ a at. let both : Some a ≡ Some b = sym at ∙ is in let same : a ≡ b = cc in omega (arith, same);
  each = tt;
}
scan_some from least (e ∷ es) b is =
    let rest = scan_some from (nearer_of from least e.0 e.1.dirty) es b is in
    let lower = least_step from least e.0 e.1.dirty b rest.before in
    record {
      source = elim rest.source [
        | inl early ↦ (elim (from_step from least e.0 e.1.dirty b early) [
          | inl was ↦ inl was
          | inr here ↦ inr (here.0, inl (here.1, here.2))
        ])
        | inr later ↦ inr (later.0, inr later.1)
      ];
      before = lower.0;
      each = (lower.1, rest.each);
    }

-- ---- told by the blocks

found_each : (P : ℕ → Line → Type 0) (es : Entries) (k : ℕ) (line : Line) → EachOf P es → line_at es k ≡ Some line → P k line
found_each P [] k line each at = cc
found_each P (e ∷ es) k line each at = elim (cases_eq e.0 k) [
  | inl same ↦
      let here : Some e.1 ≡ Some line = sym (at_here e es k same) ∙ at in
      let is : e.1 ≡ line = cc in
      subst (λ (l : Line). P k l) is (subst (λ (j : ℕ). P j e.1) same each.0)
  | inr other ↦ found_each P es k line each.1 (sym (at_other e es k other) ∙ at)
]

found_some : (es : Entries) (b : ℕ) → AreApart es → SomeOf (λ k l. (k ≡ b) × (l.dirty ≡ true)) es → is_dirty (line_at es b) ≡ true
found_some [] b apart some = absurd some
found_some (e ∷ es) b apart (inl here) = ap (λ (o : Option Line). is_dirty o) (at_here e es b here.0) ∙ here.1
found_some (e ∷ es) b apart (inr later) =
    let rest = found_some es b apart.1 later in
    elim (cases_eq e.0 b) [
      | inl same ↦
          let none : is_dirty (line_at es b) ≡ false = ap (λ (o : Option Line). is_dirty o) (ap (λ (k : ℕ). line_at es k) (sym same) ∙ apart.0) in
          let wrong : ◌≡◌ {A = Bool} true false = sym rest ∙ none in
          cc
      | inr other ↦ ap (λ (o : Option Line). is_dirty o) (at_other e es b other) ∙ rest
    ]

clean_at : (es : Entries) (k : ℕ) (o : Option Line) → line_at es k ≡ o → ((line : Line) → o ≡ Some line → line.dirty ≡ false) → is_dirty (line_at es k) ≡ false
clean_at es k None at clean = ap (λ (o : Option Line). is_dirty o) at
clean_at es k (Some line) at clean = ap (λ (o : Option Line). is_dirty o) at ∙ clean line refl

not_true : (d : Bool) → (d ≡ true → ⊥) → d ≡ false
not_true true other = absurd (other refl)
not_true false other = refl

-- none dirty, where none is found
pub first_none : (from : ℕ) (es : Entries) → first_dirty from es ≡ None → (k : ℕ) → from ≤ k → is_dirty (line_at es k) ≡ false
first_none from es is k above =
    let each = (scan_none from None es is).1 in
    clean_at es k (line_at es k) refl (λ line at. found_each (λ b l. from ≤ b → l.dirty ≡ false) es k line each at above)

-- the block that is found is dirty, and none between `from` and it is
pub first_some : (from : ℕ) (es : Entries) (b : ℕ) → AreApart es → first_dirty from es ≡ Some b
    → (from ≤ b) × (is_dirty (line_at es b) ≡ true) × ((k : ℕ) → from ≤ k → k < b → is_dirty (line_at es k) ≡ false)
first_some from es b apart is =
    let found = scan_some from None es b is in
    let none : (k : ℕ) → from ≤ k → k < b → is_dirty (line_at es k) ≡ false = λ k above below.
    clean_at es k (line_at es k) refl (λ line at.
    not_true line.dirty (λ dirty. let le = found_each (λ j l. l.dirty ≡ true → from ≤ j → b ≤ j) es k line found.each at dirty above in omega (arith, le, below))) in
    elim found.source [
      | inl never ↦ let wrong : None ≡ Some b = never in cc
      | inr there ↦ (there.0, found_some es b apart there.1, none)
    ]
