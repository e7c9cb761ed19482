-- Bytes and blocks as a text has them.
use Rattle.std.proofs.Common.{◌≡◌, ℕ, List, get_or, refl, ap, arith}
use Rattle.model_rows.specs.{BytesArePrinted}

abbrev first_of : List ℕ → ℕ
first_of xs = get_or xs 0 0

pub bytes_are_printed : BytesArePrinted
bytes_are_printed = record {
  low_digits = refl;
  not_upper = λ e. let q : 97 ≡ 65 = ap first_of e in absurd (omega (arith, q));
  not_exchanged = λ e. let q : 97 ≡ 49 = ap first_of e in absurd (omega (arith, q));
  two_digits = refl;
  same = refl;
  zeros = refl;
  differs = refl;
  differs_first = refl;
  words = refl;
}
