-- Disks in memory on small values.
use Rattle.std.proofs.Common.{refl}
use Rattle.model_rows.specs.{MemoryDisksAreAsWritten}

pub memory_disks_are_as_written : MemoryDisksAreAsWritten
memory_disks_are_as_written = record {
  one_more = refl;
  last_count_stays = refl;
  error_counted = refl;
  answer_not_counted = refl;
  want_not_counted = refl;
  first_entry_counts = refl;
  sync_fails = refl;
  other_number = refl;
  other_kind = refl;
  whole_blocks = refl;
  put_in_order = refl;
  blocks_joined = refl;
  last_write_read = refl;
  nothing_done = refl;
  write_done = refl;
}
