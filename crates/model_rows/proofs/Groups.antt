-- An instance of a group on small values.
use Rattle.std.proofs.Common.{[], ◌∷◌, refl, arith}
use Rattle.host_group.specs.{IsEnd}
use Rattle.model_rows.specs.{first_row, end, second_row, third_row, GroupsAreAsWritten}

is_end : IsEnd (first_row ∷ second_row ∷ third_row ∷ []) end
is_end = record {
  status = refl;
  count = refl;
  closed_by = refl;
  device_front = refl;
  memory_front = refl;
}

pub groups_are_as_written : GroupsAreAsWritten
groups_are_as_written = record {
  lesser_index = omega arith;
  told_status = (refl, refl);
  three = refl;
  in_order = refl;
  counts = (refl, refl, refl);
  rises = (omega arith, (omega arith, (omega arith, omega arith)));
  words = (refl, refl, refl);
  told = refl;
  is_end = is_end;
  one_end = (end, refl, is_end);
  none = refl;
  second_cell = refl;
}
