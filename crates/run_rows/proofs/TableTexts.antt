-- The words of a table's text, by computing.
use Rattle.std.proofs.Common.{◌≡◌, ℕ, List, refl, ap, arith, length}
use Rattle.std.specs.Prelude.{get_or}
use Rattle.host_list.specs.{guid_text, name_text, attributes_text}
use Rattle.run_rows.specs.{TablesHaveTheirText}

pub tables_have_their_text : TablesHaveTheirText
unfolding guid_text name_text attributes_text
tables_have_their_text = record {
  marks = (refl, refl);
  not_part = λ e. absurd (let n : 3 ≡ 4 = ap length e in omega (arith, n));
  guid = refl;
  not_stored = λ e. absurd (let n : 51 ≡ 48 = ap (λ (xs : List ℕ). get_or xs 1 0) e in omega (arith, n));
  name = refl;
  not_past = λ e. absurd (let n : 3 ≡ 4 = ap length e in omega (arith, n));
  not_quote = λ e. absurd (let n : 6 ≡ 1 = ap length e in omega (arith, n));
  attributes = refl;
  not_decimal = λ e. absurd (let n : 16 ≡ 2 = ap length e in omega (arith, n));
}
