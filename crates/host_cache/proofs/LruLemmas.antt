-- What calls of the list's type make of its entries.
use Rattle.std.proofs.Common.{◌≡◌, ◌≢◌, ◌⊎◌, inl, inr, ℕ, ◌-◌, ◌<◌, Bool, false, Option, Some, None, [], ◌∷◌, length, take, refl, sym, ◌∙◌, ap, arith}
use Rattle.std.specs.Prelude.{nat_eq, cond}
use Rattle.std.specs.Option.{option_map_or}
use Rattle.std.specs.Map.{lookup_entry, remove_entry}
use Rattle.std.proofs.lemmas.Bool.{cases_eq, eq-eqb}
use Rattle.std.proofs.lemmas.Bool.Decides.{nat_tests}
use Rattle.std.proofs.lemmas.List.{take_all}
use Rattle.lru.specs.LruCache.{LruCache, promoted, put_entries}
use Rattle.host_cache.specs.{line_at, in_front, Line}
use Rattle.host_cache.specs.declared.line.TheConstants.{ENTRIES}
use Rattle.host_cache.proofs.EntryLemmas.{Entries, at_here, at_other, removed_absent}

entry_other : (e : ℕ × Line) (es : Entries) (b : ℕ) → e.0 ≢ b → lookup_entry (nat_eq b) (e ∷ es) ≡ lookup_entry (nat_eq b) es
entry_other e es b other =
    let test : nat_eq b e.0 ≡ false = grind (arith, nat_tests) in
    ap (λ (t : Bool). cond t (Some e) (lookup_entry (nat_eq b) es)) test

found_entry : (es : Entries) (b : ℕ) (line : Line) → line_at es b ≡ Some line → lookup_entry (nat_eq b) es ≡ Some (b, line)
found_entry [] b line at = cc
found_entry (e ∷ es) b line at = elim (cases_eq e.0 b) [
  | inl same ↦
      let here : Some e.1 ≡ Some line = sym (at_here e es b same) ∙ at in
      let is : e.1 ≡ line = cc in
      ap (λ (t : Bool). cond t (Some e) (lookup_entry (nat_eq b) es)) (eq-eqb b e.0 (sym same)) ∙ (λ i. Some (same i, is i))
  | inr other ↦ entry_other e es b other ∙ found_entry es b line (sym (at_other e es b other) ∙ at)
]

no_entry : (es : Entries) (b : ℕ) → line_at es b ≡ None → lookup_entry (nat_eq b) es ≡ None
no_entry [] b absent = refl
no_entry (e ∷ es) b absent = elim (cases_eq e.0 b) [
  | inl same ↦ let wrong : Some e.1 ≡ None = sym (at_here e es b same) ∙ absent in cc
  | inr other ↦ entry_other e es b other ∙ no_entry es b (sym (at_other e es b other) ∙ absent)
]

pub promoted_found : (es : Entries) (b : ℕ) (line : Line) → line_at es b ≡ Some line → promoted (nat_eq b) es ≡ in_front b line es
promoted_found es b line at = ap (λ (o : Option (ℕ × Line)). option_map_or (λ e. e ∷ remove_entry (nat_eq b) es) o es) (found_entry es b line at)

pub promoted_absent : (es : Entries) (b : ℕ) → line_at es b ≡ None → promoted (nat_eq b) es ≡ es
promoted_absent es b absent = ap (λ (o : Option (ℕ × Line)). option_map_or (λ e. e ∷ remove_entry (nat_eq b) es) o es) (no_entry es b absent)

abbrev put_by : LruCache ℕ Line → ℕ → Line → Option (ℕ × Line) → Entries
put_by c b line o = option_map_or (λ e. (e.0, line) ∷ remove_entry (nat_eq b) c.entries) o ((b, line) ∷ take (c.cap - 1) c.entries)

put_found : (c : LruCache ℕ Line) (b : ℕ) (line : Line) (o : Option Line) → line_at c.entries b ≡ o → c.cap ≡ ENTRIES → (o ≢ None) ⊎ (length c.entries < ENTRIES) → put_entries nat_eq c b line ≡ in_front b line c.entries
put_found c b line (Some old) at cap room = ap (λ (o : Option (ℕ × Line)). put_by c b line o) (found_entry c.entries b old at)
put_found c b line None at cap (inl found) = absurd (found refl)
put_found c b line None at cap (inr free) =
    ap (λ (o : Option (ℕ × Line)). put_by c b line o) (no_entry c.entries b at)
    ∙ ap (λ (l : Entries). (b, line) ∷ l) (take_all (c.cap - 1) c.entries (omega (arith, cap, free)) ∙ sym (removed_absent c.entries b at))

-- a put into a list that has the block, or has room, is an entry in front
pub put_in_front : (c : LruCache ℕ Line) (b : ℕ) (line : Line) → c.cap ≡ ENTRIES → (line_at c.entries b ≢ None) ⊎ (length c.entries < ENTRIES) → put_entries nat_eq c b line ≡ in_front b line c.entries
put_in_front c b line cap room = put_found c b line (line_at c.entries b) refl cap room
