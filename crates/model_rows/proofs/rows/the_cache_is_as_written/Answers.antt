use Rattle.model_rows.proofs.Cache.{cache_is_as_written}
use Rattle.model_rows.proofs.rows.the_cache_is_as_written.Goals as goal

pub returns : goal.returns
returns c = cache_is_as_written
