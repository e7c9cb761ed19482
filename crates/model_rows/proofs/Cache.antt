-- What a cache holds, on small values.
use Rattle.std.proofs.Common.{refl}
use Rattle.model_rows.specs.{CacheIsAsWritten}

pub cache_is_as_written : CacheIsAsWritten
cache_is_as_written = record {
  content_on_disk = refl;
  content_in_list = refl;
  content_of_victim = refl;
  moved_to_front = refl;
  rising = refl;
  rising_calls = refl;
  clean_below_two = refl;
  victim_call = refl;
  evicted = refl;
  not_evicted = refl;
}
