-- Wrong headers and arrays, and a backup.
use Rattle.std.proofs.Common.{◌≡◌, ℕ, ◌*◌, ◌^◌, ◌<◌, ◌≤◌, inl, inr, List, get_or, refl, lit<, lit≤, ap, arith}
use Rattle.host_gpt.specs.{Agrees, number_at, used, IsValid}
use Rattle.model_rows.proofs.Table.{is_valid}
use Rattle.model_rows.specs.{BackupIsTaken, WrongArraysAreRefused, WrongHeadersAreRefused, WrongTablesAreRefused, backup_block, damaged}

abbrev first_of : List ℕ → ℕ
first_of xs = get_or xs 0 0

headers : WrongHeadersAreRefused
unfolding number_at
headers = record {
  signature = λ h. let q : 70 ≡ 69 = ap first_of h.begins in absurd (omega (arith, q));
  size_of_91 = λ h. let q : 92 ≤ 91 = h.long in absurd (omega (arith, q));
  longer_than_its_block = λ h. let q : 604 ≤ 512 = h.fits in absurd (omega (arith, q));
  another_byte = λ h. let q : 920786453 ≡ 1596910104 = h.crc in absurd (omega (arith, q));
  another_place = λ h. let q : 1 ≡ 2 = h.place in absurd (omega (arith, q));
  own_field = λ h. let q : 920786453 ≡ 651061591 = h in absurd (omega (arith, q));
  entry_size = λ h. let q : 192 ≡ 128 * 2 ^ h.0 = h.1 in absurd (omega (arith, q));
}

arrays : WrongArraysAreRefused
unfolding number_at used
arrays = record {
  crc = λ h. let q : 1929565171 ≡ 352139669 = h.crc in absurd (omega (arith, q));
  begins_past = λ h. let q : 4 < 4 = h 0 (lit< tt) in absurd (omega (arith, q));
  ends_past = λ h. let q : 4 < 4 = h 512 (lit< tt) in absurd (omega (arith, q));
  ends_with_it = λ k below. omega (arith, below);
  many = inl (lit< tt);
  long = inr (lit< tt);
  most = λ large. elim large [ inl many ↦ omega (arith, many) | inr long ↦ omega (arith, long) ];
  unused = refl;
}

-- ---- the backup

agrees : Agrees 3 backup_block
unfolding number_at
agrees = record {
  begins = refl;
  long = lit≤ tt;
  fits = lit≤ tt;
  crc = refl;
  place = refl;
  entries = (0, refl);
}

backup_is_valid : IsValid damaged 3
unfolding number_at
backup_is_valid = record {
  agrees = agrees;
  small = λ large. elim large [ inl many ↦ omega (arith, many) | inr long ↦ omega (arith, long) ];
  inside = λ k below. omega (arith, below);
  crc = refl;
}

in_block_one : ¬ IsValid damaged 1
in_block_one h = let q : 0 ≡ 69 = ap first_of h.agrees.begins in absurd (omega (arith, q))

backup : BackupIsTaken
unfolding number_at
backup = record {
  backup = (λ h. in_block_one h.1, (lit≤ tt, backup_is_valid));
  primary = λ h. in_block_one h.1;
  not_both = λ h. h.0 (lit≤ tt, is_valid);
  in_block_one = in_block_one;
  not_large = λ h. elim h.1.large [
    | inl many ↦ omega (arith, many)
    | inr long ↦ omega (
      arith,
      long,
    )
  ];
}

pub wrong_tables_are_refused : WrongTablesAreRefused
wrong_tables_are_refused = record { headers = headers; arrays = arrays; backup = backup }
