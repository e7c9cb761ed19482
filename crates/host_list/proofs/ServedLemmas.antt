-- The test tells the served entries, and so does whether an entry's number has a range.
use Rattle.std.proofs.Common.{◌≡◌, ◌≢◌, ◌≤◌, ◌<◌, ◌↔◌, ◌∙◌, ℕ, Bool, true, false, not, ◌||◌, true≢false, refl, sym, Result, Ok, Err}
use Rattle.std.specs.Prelude.{◌==◌, All, IfOk, IsErrOf, is_ok, max, min}
use Rattle.std.specs.Bool.{Decides}
use Rattle.std.specs.List.{list_all}
use Rattle.std.proofs.lemmas.Bool.Decides.{Decides-and, Decides-by_and, Decides-eqb, Decides-ltb}
use Rattle.std.proofs.lemmas.Bool.{le-leb, leb-true}
use Rattle.std.proofs.Math.Dec.{leb}
use Rattle.host_block.specs.declared.range.Range.{Range}
use Rattle.host_gpt.specs.{AreUsed, Entry}
use Rattle.host_list.specs.{TestTellsServed, serves, shares}
use Rattle.host_part.proofs.RangeLemmas.{entry_not_unused, served_not_bad}
use Rattle.host_part.specs.{IsBad, IsEntryOf, IsRangeOf, IsNumberUnused, Layout, Shares, PartError, BadEntry, Unused}

Decides-leb : (a b : ℕ) → Decides (leb a b) (a ≤ b)
Decides-leb a b = (leb-true a b, le-leb a b)

apart : (same shared : Bool) (N S : Type 0) → Decides same N → Decides shared S → Decides (same || not shared) ((N → ⊥) → S → ⊥)
apart true shared N S n s = (λ h differs. absurd (differs (n.0 refl)), λ h. refl)
apart false true N S n s = (λ h. absurd (true≢false (sym h)), λ h. absurd (h (λ is. true≢false (sym (n.1 is))) (s.0 refl)))
apart false false N S n s = (λ h differs is. true≢false (sym (s.1 is)), λ h. refl)

abbrev Parts : Layout → Entry → Type 0
Parts layout e = (layout.first_usable ≤ e.first) × ((e.first ≤ e.last) × ((e.last ≤ layout.last_usable) × ((layout.last_usable < layout.blocks)
    × All (λ f. f.number ≢ e.number → ¬ Shares e f) layout.entries)))

decides : (layout : Layout) (e : Entry) → Decides (serves layout e) (Parts layout e)
unfolding serves
decides layout e = Decides-and _ _ (Decides-leb layout.first_usable e.first) (Decides-and _ _ (Decides-leb e.first e.last) (Decides-and _ _ (Decides-leb e.last layout.last_usable)
    (Decides-and _ _ (Decides-ltb layout.last_usable layout.blocks)
    (Decides-by_and (λ f. f.number == e.number || not (shares e f)) (λ f. f.number ≢ e.number → ¬ Shares e f) (list_all (λ f. f.number == e.number || not (shares e f)))
    (λ f. apart (f.number == e.number) (shares e f) (f.number ≡ e.number) (Shares e f) (Decides-eqb f.number e.number) (Decides-leb (max e.first f.first) (min e.last f.last)))
    refl (λ _ _. refl) layout.entries))))

pub tells : TestTellsServed
tells layout e = (
  λ h. let p = (decides layout e).0 h in record { above = p.0; order = p.1.0; below = p.1.1.0; inside = p.1.1.1.0; alone = p.1.1.1.1 },
  λ s. (decides layout e).1 (s.above, (s.order, (s.below, (s.inside, s.alone)))),
)

pub has_range : (layout : Layout) (n : ℕ) (e : Entry) (r : Result Range PartError) → AreUsed layout.entries → IsEntryOf layout n e → IfOk r (IsRangeOf layout n)
    → (IsErrOf r Unused ↔ IsNumberUnused layout n) → (IsErrOf r BadEntry ↔ IsBad layout n) → is_ok r ≡ serves layout e
has_range layout n e (Err Unused) used is ok unused bad = absurd (entry_not_unused layout n e is (unused.0 refl))
has_range layout n e (Err BadEntry) used is ok unused bad = go (serves layout e) refl
  where
    go : (b : Bool) → serves layout e ≡ b → false ≡ serves layout e
    go true h = absurd (served_not_bad layout n e used is ((tells layout e).0 h) (bad.0 refl))
    go false h = sym h
has_range layout n e (Ok r) used is ok unused bad = go (serves layout e) refl
  where
    go : (b : Bool) → serves layout e ≡ b → true ≡ serves layout e
    go true h = sym h
    go false h =
        let not_bad : Ok r ≡ Err BadEntry = bad.1 (record { entry = e; is = is; not_served = λ s. true≢false (sym ((tells layout e).1 s) ∙ h) }) in
        cc
