-- Which partitions of a table are served.
use Rattle.std.proofs.Common.{◌≡◌, ◌≢◌, ◌∙◌, ℕ, zero, suc, ◌+◌, ◌-◌, ◌≤◌, refl, sym, ap, subst, arith}
use Rattle.std.specs.Prelude.{◌<◌, slice_index_or}
use Rattle.host_block.specs.declared.range.Range.{Range}
use Rattle.host_gpt.specs.{Entry}
use Rattle.host_part.specs.{IsEntryOf, IsRangeOf, IsServed, Shares}
use Rattle.model_rows.specs.{layout, PartitionsAreServed}
use Rattle.model_rows.specs.Partitions.{entry}

first_is_served : IsServed layout (entry 1 34 63)
first_is_served = record {
  above = omega arith;
  order = omega arith;
  below = omega arith;
  inside = omega arith;
  alone = alone;
}
  where
    alone : (k : ℕ) (d : Entry) → k < 3 → (slice_index_or layout.entries k d).number ≢ 1
        → ¬ Shares (entry 1 34 63) (slice_index_or layout.entries k d)
    alone zero d h differs shared = differs refl
    alone (suc zero) d h differs shared = omega (arith, shared)
    alone (suc (suc zero)) d h differs shared = omega (arith, shared)
    alone (suc (suc (suc k))) d h differs shared = absurd (omega (arith, h))

second_is_bad : ¬ IsServed layout (entry 3 64 70)
second_is_bad served = let alone = served.alone 2 (entry 4 70 80) (omega arith) in
    alone (omega arith) (omega arith)

-- the entry with number 1, with number 3, and that none has number 2
number_of_first : (k : ℕ) (e d : Entry) → k < 3 → slice_index_or layout.entries k d ≡ e
    → e.number ≡ 1 → entry 1 34 63 ≡ e
number_of_first zero e d h is n = is
number_of_first (suc zero) e d h is n = absurd (let q : 3 ≡ e.number =
    ap (λ (x : Entry). x.number) is in omega (arith, q, n))
number_of_first (suc (suc zero)) e d h is n = absurd (let q : 4 ≡ e.number =
    ap (λ (x : Entry). x.number) is in omega (arith, q, n))
number_of_first (suc (suc (suc k))) e d h is n = absurd (omega (arith, h))

number_of_second : (k : ℕ) (e d : Entry) → k < 3 → slice_index_or layout.entries k d ≡ e
    → e.number ≡ 3 → entry 3 64 70 ≡ e
number_of_second zero e d h is n = absurd (let q : 1 ≡ e.number = ap (λ (x : Entry). x.number) is in
    omega (arith, q, n))
number_of_second (suc zero) e d h is n = is
number_of_second (suc (suc zero)) e d h is n = absurd (let q : 4 ≡ e.number =
    ap (λ (x : Entry). x.number) is in omega (arith, q, n))
number_of_second (suc (suc (suc k))) e d h is n = absurd (omega (arith, h))

no_second : (k : ℕ) (d : Entry) → k < 3 → (slice_index_or layout.entries k d).number ≡ 2 → ⊥
no_second zero d h n = let q : 1 ≡ 2 = n in absurd (omega (arith, q))
no_second (suc zero) d h n = let q : 3 ≡ 2 = n in absurd (omega (arith, q))
no_second (suc (suc zero)) d h n = let q : 4 ≡ 2 = n in absurd (omega (arith, q))
no_second (suc (suc (suc k))) d h n = absurd (omega (arith, h))

-- an entry of the table with number 2
second_entry : (e : Entry) → IsEntryOf layout 2 e → ⊥
second_entry e is =
    no_second is.listed.0 e is.listed.1 (ap (λ (x : Entry). x.number) is.listed.2 ∙ is.number)

its_first : (range : Range) (of : IsRangeOf layout 1 range) → entry 1 34 63 ≡ of.entry
its_first range of =
    number_of_first of.is.listed.0 of.entry of.entry of.is.listed.1 of.is.listed.2 of.is.number

one_less : ¬ IsRangeOf layout 1 (record { first = 34; count = 29 })
one_less of =
    let counts : 29 ≡ of.entry.last - of.entry.first + 1 = of.counts in
    let right : 30 ≡ of.entry.last - of.entry.first + 1 =
    ap (λ (x : Entry). x.last - x.first + 1) (its_first _ of) in
    absurd (omega (arith, counts, right))

one_later : ¬ IsRangeOf layout 1 (record { first = 35; count = 30 })
one_later of =
    let starts : 35 ≡ of.entry.first = of.starts in
    let right : 34 ≡ of.entry.first = ap (λ (x : Entry). x.first) (its_first _ of) in
    absurd (omega (arith, starts, right))

of_a_bad_one : (range : Range) → ¬ IsRangeOf layout 3 range
of_a_bad_one range of =
    let its = number_of_second of.is.listed.0 of.entry of.entry of.is.listed.1 of.is.listed.2
    of.is.number in
    second_is_bad (subst (λ (e : Entry). IsServed layout e) (sym its) of.served)

pub partitions_are_served : PartitionsAreServed
partitions_are_served = record {
  first_is_served = first_is_served;
  its_range = record {
    entry = entry 1 34 63;
    is = record { listed = (0, omega arith, refl); number = refl };
    served = first_is_served;
    starts = refl;
    counts = refl;
  };
  second_is_bad = second_is_bad;
  one_less = one_less;
  one_later = one_later;
  of_a_bad_one = of_a_bad_one;
  of_none = λ range of. second_entry of.entry of.is;
  bad = record {
    entry = entry 3 64 70;
    is = record {
      listed = (1, omega arith, refl);
      number = refl;
    };
    not_served = second_is_bad;
  };
  not_unused = λ h. h 1 (entry 3 64 70) (omega arith) refl;
  unused = no_second;
  not_bad = λ h. second_entry h.entry h.is;
  before_the_usable = λ served. let q : 34 ≤ 33 = served.above in absurd (omega (arith, q));
  past_the_usable = λ served. let q : 95 ≤ 94 = served.below in absurd (omega (arith, q));
  ends_first = λ served. let q : 90 ≤ 89 = served.order in absurd (omega (arith, q));
  past_the_image = λ served. let q : 94 < 94 = served.inside in absurd (omega (arith, q));
}
