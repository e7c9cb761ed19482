use Rattle.std.proofs.Common.{ℕ, length, sym, subst}
use Rattle.host_block.specs.{done}
use Rattle.host_cache.specs.{IsFlush, cache_outcome, disk_of, shape_of, held_of, Runs}
use Rattle.host_cache.proofs.ListLemmas.{on_ok}
use Rattle.host_cache.proofs.LawLemmas.{flush_survives_proof, flush_is_kept_proof}
use Rattle.disk_client.proofs.cache.keeps.flush_kept.Goals as goal

pub returns-clause-along : goal.returns-clause-along
returns-clause-along g c told =
    let D = g.D.Disk in
    let old = c.args.cache.now in
    let new = c.flush.new.self in
    let o = cache_outcome c.flush.result in
    let runs : Runs (IsFlush (length g.seen.0)) old o new = subst (λ (n : ℕ). Runs (IsFlush n) old o new) (sym c.requires.1.0) c.flush.ensures.calls in
    (runs.calls, flush_survives_proof g.seen.0 g.seen.1 (shape_of old).size (held_of old) (held_of new) runs.calls o (D.state (disk_of old)) (D.state (disk_of new)) (c.requires.1.1 told) runs.ruled (runs.made.state told))

pub returns-clause-kept : goal.returns-clause-kept
returns-clause-kept g c =
    let D = g.D.Disk in
    let old = c.args.cache.now in
    let new = c.flush.new.self in
    on_ok c.flush.result _ (λ is told flush barrier.
    let runs : Runs (IsFlush (length g.seen.0)) old done new =
    subst (λ o. Runs (IsFlush (length g.seen.0)) old o new) is (subst (λ (n : ℕ). Runs (IsFlush n) old (cache_outcome c.flush.result) new) (sym c.requires.1.0) c.flush.ensures.calls) in
    flush_is_kept_proof g.seen.0 g.seen.1 flush (shape_of old).size (held_of old) (held_of new) runs.calls (D.state (disk_of old)) (D.state (disk_of new)) (c.requires.1.1 told) barrier runs.ruled (runs.made.state told))
