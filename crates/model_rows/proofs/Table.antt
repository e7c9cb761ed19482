-- The table of a small image.
use Rattle.std.proofs.Common.{◌≡◌, refl, inl, inr, arith}
use Rattle.host_gpt.specs.{crc_of, entries_from, used, units, Agrees, number_at, header_of, IsValid, array_of}
use Rattle.model_rows.specs.Table.{image}
use Rattle.model_rows.specs.{header_block, TableIsRead}

agrees : Agrees 1 header_block
unfolding number_at
agrees = record {
  begins = refl;
  long = omega arith;
  fits = omega arith;
  crc = refl;
  place = refl;
  entries = (0, refl);
}

array_crc_holds : (header_of header_block).array_crc
    ≡ crc_of (array_of image (header_of header_block))
unfolding number_at
array_crc_holds = refl

pub is_valid : IsValid image 1
unfolding number_at
is_valid = record {
  agrees = agrees;
  small = λ large. elim large [ inl many ↦ omega (arith, many) | inr long ↦ omega (arith, long) ];
  inside = λ k below. omega (arith, below);
  crc = array_crc_holds;
}

pub table_is_read : TableIsRead
unfolding number_at units used entries_from
table_is_read = record {
  none = refl;
  letter = refl;
  digits = refl;
  zeros = refl;
  agrees = agrees;
  array_crc_holds = array_crc_holds;
  one_entry = refl;
  is_valid = is_valid;
  is_table = record {
    chosen = (omega arith, is_valid);
    read = record { disk_id = refl; first_usable = refl; last_usable = refl; used = refl };
  };
}
