use Rattle.std.proofs.Common.{◌-◌, ◌≤◌}
use Rattle.host_cache.specs.{shape_of, HasSameContent}
use Rattle.host_cache.proofs.DirtyLemmas.{HasWrittenBelow}
use Rattle.host_cache.proofs.cache.Cache.write_dirty.Given as goal

abbrev pub invariant-loop-b : goal.invariant-loop-b
invariant-loop-b g l =
    let old = l.initial.self in
    record {
      written : HasWrittenBelow l.from old l.self;
      content : HasSameContent old l.self;
      within : l.from ≤ (shape_of old).blocks;
    }

abbrev pub decreases-loop-b : goal.decreases-loop-b
decreases-loop-b g l = (shape_of l.initial.self).blocks - l.from
