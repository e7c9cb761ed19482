use Rattle.std.proofs.Common.{sym, ◌∙◌, ap}
use Rattle.host_io.specs.{Shape}
use Rattle.host_cache.specs.{cache_outcome, held_of}
use Rattle.host_cache.proofs.CacheLemmas.{kept_on, clean_sync, content_sync}
use Rattle.host_cache.proofs.cache.Cache.sync.Goals as goal

pub invariant_of-self : goal.invariant_of-self
invariant_of-self g c =
    let D = g.D.Disk in
    let d = c.args.self.now in
    let made = c.sync_disk.ensures.made in
    record {
      cap = d.cap;
      in_word = d.in_word;
      same_blocks = d.same_blocks ∙ ap (λ (sh : Shape). sh.blocks) (sym made.shape);
      same_size = d.same_size ∙ ap (λ (sh : Shape). sh.size) (sym made.shape);
      kept = kept_on (D.shape d.disk) (D.shape c.sync_disk.new.disk) (held_of d) made.shape d.kept;
      clean = clean_sync d c.sync_disk.new.disk (cache_outcome c.sync_disk.result) (λ told. (g.met.D.Disk.of_size d.disk told).count) made;
    }

pub returns-clause-content : goal.returns-clause-content
returns-clause-content g c told k below =
    let d = c.args.self.now in
    content_sync d c.sync_disk.new.disk (cache_outcome c.sync_disk.result) (λ told. (g.met.D.Disk.of_size d.disk told).count) c.sync_disk.ensures.made told k below
