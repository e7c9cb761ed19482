-- Entries by their numbers, and ranges.
use Rattle.std.proofs.Common.{◌≡◌, ◌≢◌, ℕ, ◌+◌, ◌-◌, ◌<◌, List, length, slice_index, get_or, sym, ◌∙◌, ap, subst, arith, inl, inr}
use Rattle.std.specs.Prelude.{Contains, map}
use Rattle.std.specs.List.Sorted.{IsStrictlyIncreasing}
use Rattle.std.proofs.lemmas.Bool.{cases_lt}
use Rattle.std.proofs.lemmas.List.{get_or-map, get_or_default, length-map}
use Rattle.std.proofs.lemmas.List.Kept.{AllPairs-from_increasing}
use Rattle.host_block.specs.declared.range.Range.{Range}
use Rattle.host_gpt.specs.{AreUsed, Entry}
use Rattle.host_part.specs.{OneRange, RangeLiesInside, RangesShareNoBlock, IsBad, IsEntryOf, IsNumberUnused, IsServed, Layout, Shares}

-- where numbers rise, entries with one number are one entry
same_entry : (es : List Entry) → IsStrictlyIncreasing (map (λ (e : Entry). e.number) es) → (e f : Entry) → Contains es e → Contains es f → e.number ≡ f.number → e ≡ f
same_entry es rising e f in_e in_f same = elim (cases_lt in_e.0 in_f.0) [
  | inl before ↦ absurd (omega (arith, same, apart in_e.0 in_f.0 e f in_e.1 in_f.1 in_e.2 in_f.2 before))
  | inr up ↦ elim (cases_lt in_f.0 in_e.0) [
    | inl before ↦ absurd (omega (arith, same, apart in_f.0 in_e.0 f e in_f.1 in_e.1 in_f.2 in_e.2 before))
    | inr down ↦
        let at : in_e.0 ≡ in_f.0 = omega arith in
        sym in_e.2 ∙ get_or_default es in_e.0 e f in_e.1 ∙ ap (λ (k : ℕ). get_or es k f) at ∙ in_f.2
  ]
]
  where
    number_at : (i : ℕ) (x : Entry) → i < length es → get_or es i x ≡ x → slice_index (map (λ (y : Entry). y.number) es) i ≡ x.number
    number_at i x within is = get_or-map (λ (y : Entry). y.number) es i x 0 within ∙ ap (λ (y : Entry). y.number) is

    apart : (i j : ℕ) (x y : Entry) → i < length es → j < length es → get_or es i x ≡ x → get_or es j y ≡ y → i < j → x.number < y.number
    apart i j x y in_x in_y is_x is_y before =
        let less = AllPairs-from_increasing (map (λ (z : Entry). z.number) es) rising i j 0 before (omega (arith, in_y, length-map es (λ (z : Entry). z.number))) in
        omega (arith, less, number_at i x in_x is_x, number_at j y in_y is_y)

pub ranges_share_no_block : RangesShareNoBlock
ranges_share_no_block layout m n r s differ is_r is_s b in_r in_s =
    let shared : Shares is_r.entry is_s.entry = omega (arith, is_r.starts, is_r.counts, is_s.starts, is_s.counts, is_r.served.order, is_s.served.order, in_r.0, in_r.1, in_s.0, in_s.1) in
    let at = is_s.is.listed in
    let alone = is_r.served.alone at.0 is_s.entry at.1 in
    subst (λ (f : Entry). f.number ≢ is_r.entry.number → ¬ Shares is_r.entry f) at.2 alone (λ same. differ (sym is_r.is.number ∙ sym same ∙ is_s.is.number)) shared

pub range_lies_inside : RangeLiesInside
range_lies_inside layout n r is b in_r =
    let served = is.served in (
      omega (arith, served.above, is.starts, in_r.0),
      omega (arith, served.below, served.order, is.starts, is.counts, in_r.1),
      omega (arith, served.below, served.inside, served.order, is.starts, is.counts, in_r.1),
    )

same_range : (r s : Range) → r.first ≡ s.first → r.count ≡ s.count → r ≡ s
same_range r s first count = grind arith

pub one_range : OneRange
one_range layout n r s used is_r is_s =
    let same = same_entry layout.entries used.rising is_r.entry is_s.entry is_r.is.listed is_s.is.listed (is_r.is.number ∙ sym is_s.is.number) in
    same_range r s
    (is_r.starts ∙ ap (λ (e : Entry). e.first) same ∙ sym is_s.starts)
    (is_r.counts ∙ ap (λ (e : Entry). e.last - e.first + 1) same ∙ sym is_s.counts)

-- a served entry's number isn't bad
pub served_not_bad : (layout : Layout) (n : ℕ) (e : Entry) → AreUsed layout.entries → IsEntryOf layout n e → IsServed layout e → ¬ IsBad layout n
served_not_bad layout n e used is served bad =
    let same = same_entry layout.entries used.rising e bad.entry is.listed bad.is.listed (is.number ∙ sym bad.is.number) in
    bad.not_served (subst (λ (x : Entry). IsServed layout x) same served)

-- an entry's number isn't unused
pub entry_not_unused : (layout : Layout) (n : ℕ) (e : Entry) → IsEntryOf layout n e → ¬ IsNumberUnused layout n
entry_not_unused layout n e is unused =
    let at = is.listed in
    let differs = unused at.0 e at.1 in
    subst (λ (x : Entry). x.number ≢ n) at.2 differs is.number
