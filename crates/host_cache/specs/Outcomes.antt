-- How a call of a cache ended.
use Rattle.std.specs.Prelude.{Result, Ok, Err}
use Rattle.host_block.specs.Disk.{Outcome, done, failed, refused}
use Rattle.host_io.specs.declared.disk.DiskError.{DiskError}
use Rattle.host_io.specs.declared.disk.DiskError.TheVariants as disk
use Rattle.host_cache.specs.declared.error.CacheError.{CacheError}
use Rattle.host_cache.specs.declared.error.CacheError.TheVariants.{Disk, Oom}

-- what an error of the disk is to the caller of the cache
abbrev pub cache_error_of : DiskError → CacheError
cache_error_of disk.Failed = Disk
cache_error_of disk.Oom = Oom

abbrev pub cache_error_outcome : CacheError → Outcome
cache_error_outcome Disk = failed
cache_error_outcome Oom = refused

abbrev pub cache_outcome : {T : Type 0} → Result T CacheError → Outcome
cache_outcome (Ok x) = done
cache_outcome (Err e) = cache_error_outcome e
