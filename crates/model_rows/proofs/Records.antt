-- The record codec on worked values.
use Rattle.std.proofs.Common.{◌≡◌, ℕ, ◌+◌, List, get_or, refl, ap, arith}
use Rattle.host_record.specs.{opcode, all_zero, is_padded, response_fields, status_number}
use Rattle.model_rows.specs.{RecordsAreAsWritten}
use Rattle.std.specs.Prelude.{ℤ, pos, negsuc}
use Rattle.host_record.specs.declared.request.Request.{Request}
use Rattle.host_record.specs.declared.status.Status.{Status}
use Rattle.host_record.specs.declared.status.Status.TheVariants as status

abbrev magnitude : ℤ → ℕ
magnitude (pos n) = n
magnitude (negsuc n) = n + 1

no_status : (status : Status) → ¬ (status_number status ≡ negsuc 0)
no_status status.Ok e = let q : 0 ≡ 1 = ap magnitude e in absurd (omega (arith, q))
no_status status.NotSupported e = let q : 2 ≡ 1 = ap magnitude e in absurd (omega (arith, q))
no_status status.NoMemory e = let q : 4 ≡ 1 = ap magnitude e in absurd (omega (arith, q))
no_status status.InvalidArgs e = let q : 10 ≡ 1 = ap magnitude e in absurd (omega (arith, q))
no_status status.OutOfRange e = let q : 14 ≡ 1 = ap magnitude e in absurd (omega (arith, q))
no_status status.TooSmall e = let q : 15 ≡ 1 = ap magnitude e in absurd (omega (arith, q))
no_status status.NotFound e = let q : 25 ≡ 1 = ap magnitude e in absurd (omega (arith, q))
no_status status.Io e = let q : 40 ≡ 1 = ap magnitude e in absurd (omega (arith, q))

pub records_are_as_written : RecordsAreAsWritten
unfolding opcode all_zero is_padded response_fields
records_are_as_written = record {
  its_bytes = refl;
  its_fields = refl;
  its_opcode = refl;
  its_group = (refl, refl, refl);
  no_opcode = (refl, refl, refl);
  answer_status = refl;
  answer_is = (refl, refl, refl);
  count_over_the_group = λ e. let q : 5 ≡ 3 = ap (λ (xs : List ℕ). get_or xs 8 0) e in
      absurd (omega (arith, q));
  exchanged = λ e. let q : 7 ≡ 5 = ap (λ (r : Request). r.reqid) e in absurd (omega (arith, q));
  member = refl;
  closes_alone = refl;
  free_bytes = refl;
  no_status = no_status;
}
