-- Each field of a lawful report refuses a report.
use Rattle.std.proofs.Common.{◌≡◌, ◌≢◌, ℕ, zero, suc, ◌<◌, Bool, true, false, List, [], ◌∷◌, length, get_or, replicate, refl, subst, lit<, lit≤, ap, arith}
use Rattle.std.specs.Prelude.{Contains, slice_index_or}
use Rattle.host_block.specs.declared.range.Range.{Range}
use Rattle.host_gpt.proofs.LawLemmas.{one_table}
use Rattle.host_gpt.specs.{entries_from, units, used, number_at, IsTable, Entry, Primary}
use Rattle.host_model.specs.{judged, Step}
use Rattle.host_part.specs.{IsRangeOf, Layout, Shares}
use Rattle.host_record.specs.{opcode}
use Rattle.host_report.specs.{IsOnTable, closing_flush}
use Rattle.model_rows.proofs.Table.{is_valid}
use Rattle.model_rows.specs.{EachReportFieldIsNeeded, ImageIsNeeded, RunIsNeeded, ScriptIsNeeded, beside, its_block, on_partition}
use Rattle.model_rows.specs.Table as table

never : false ≡ true → ⊥
never e = cc e

abbrev first_of : List ℕ → ℕ
first_of xs = get_or xs 0 0

-- ---- the small table

abbrev entry : Entry
entry = record {
  number = 1;
  type_id = replicate 16 1;
  id = replicate 16 2;
  first = 2;
  last = 2;
  attributes = 0;
  name = 97 ∷ replicate 35 0;
}

abbrev layout : Layout
layout = record { first_usable = 2; last_usable = 2; blocks = 4; entries = entry ∷ [] }

is_table : IsTable table.image Primary (replicate 16 9) 2 2 (entry ∷ [])
unfolding number_at units used entries_from
is_table = record {
  chosen = (lit≤ tt, is_valid);
  read = record {
    disk_id = refl;
    first_usable = refl;
    last_usable = refl;
    used = refl;
  };
}

only_entry : (e : Entry) → Contains (entry ∷ []) e → entry ≡ e
only_entry e found = at found.0 found.1 found.2
  where
    at : (k : ℕ) → k < 1 → slice_index_or (entry ∷ []) k e ≡ e → entry ≡ e
    at zero within is = is
    at (suc k) within is = absurd (omega (arith, within))

alone : (k : ℕ) (e : Entry) → k < 1 → (slice_index_or (entry ∷ []) k e).number ≢ 1
    → ¬ Shares entry (slice_index_or (entry ∷ []) k e)
alone zero e within other = absurd (other refl)
alone (suc k) e within other = absurd (omega (arith, within))

is_its_block : IsRangeOf layout 1 its_block
is_its_block = record {
  entry = entry;
  is = record { listed = (0, lit< tt, refl); number = refl };
  served = record {
    above = lit≤ tt;
    order = lit≤ tt;
    below = lit≤ tt;
    inside = lit< tt;
    alone = alone;
  };
  starts = refl;
  counts = refl;
}

-- the entry of a session that stands on the small table
its_entry : (part : ℕ) (range : Range) (on : IsOnTable table.image (on_partition 4 part range))
    → entry ≡ on.ranges.0.entry
its_entry part range on =
    let same = one_table table.image Primary Primary on.disk_id (replicate 16 9) on.first_usable 2
    on.last_usable 2 on.entries (entry ∷ []) on.table is_table in
    only_entry on.ranges.0.entry (subst (λ (entries : List Entry).
    Contains entries on.ranges.0.entry) same.same_entries on.ranges.0.is.listed)

another_part : ¬ IsOnTable table.image (on_partition 4 2 its_block)
another_part on =
    let first : 1 ≡ on.ranges.0.entry.number =
    ap (λ (e : Entry). e.number) (its_entry 2 its_block on) in
    let second : on.ranges.0.entry.number ≡ 2 = on.ranges.0.is.number in
    absurd (omega (arith, first, second))

another_range : ¬ IsOnTable table.image (on_partition 4 1 beside)
another_range on =
    let first : 2 ≡ on.ranges.0.entry.first = ap (λ (e : Entry). e.first) (its_entry 1 beside on) in
    let second : 1 ≡ on.ranges.0.entry.first = on.ranges.0.starts in
    absurd (omega (arith, first, second))

-- ---- the rows

image : ImageIsNeeded
image = record {
  blocks = λ h. let q : 127 ≡ 128 = h.blocks in absurd (omega (arith, q));
  size = λ h. let q : 512 ≡ 4096 = h.size 0 [] (lit< tt) in absurd (omega (arith, q));
  served = record {
    disk_id = replicate 16 9;
    first_usable = 2;
    last_usable = 2;
    entries = entry ∷ [];
    table = is_table;
    ranges = (is_its_block, tt);
  };
  part = another_part;
  range = another_range;
  no_table = λ h. let q : 0 ≡ 69 = ap first_of h.table.chosen.1.agrees.begins in
      absurd (omega (arith, q));
  which = λ h. h.table.chosen.0 (lit≤ tt, is_valid);
}

-- whether the last of ten steps failed
abbrev last_failed : List Step → Bool
last_failed steps = (get_or steps 9 (closing_flush true)).faulted

-- the session of the first of them
abbrev first_session : List Step → ℕ
first_session steps = (get_or steps 0 (closing_flush true)).session

run : RunIsNeeded
unfolding opcode judged
run = record {
  numbers = λ h. let q : 2 ≡ 1 = ap first_of h.numbers in absurd (omega (arith, q));
  sessions = λ h. never (h.sessions.0.answered.exactly refl);
  missing = λ h. let q : 10 ≡ 1 = ap length h.closing in absurd (omega (arith, q));
  hidden_fault = λ h. let q : true ≡ false = ap last_failed h.closing in cc q;
  made_up_fault = λ h. let q : false ≡ true = ap last_failed h.closing in cc q;
  flush_first = λ h. let q : 0 ≡ 1 = ap first_session h.closing in absurd (omega (arith, q));
}

script : ScriptIsNeeded
unfolding opcode judged
script = record {
  part = λ h. let q : 1 ≡ 2 = h.part in absurd (omega (arith, q));
  finish = λ h. absurd (cc h.finish);
  calls = λ h. never h.calls;
  too_few = λ h. never h.calls;
  waits = λ h. never h.waits;
  one_more = λ h. h;
  missing = λ h. h.1;
}

pub each_report_field_is_needed : EachReportFieldIsNeeded
each_report_field_is_needed = record { image = image; run = run; script = script }
