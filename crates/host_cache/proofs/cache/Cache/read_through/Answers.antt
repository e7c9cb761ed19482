use Rattle.std.proofs.Common.{sym, ◌∙◌, ap}
use Rattle.host_io.specs.{Shape}
use Rattle.host_cache.specs.{cache_outcome, held_of}
use Rattle.host_cache.proofs.CacheLemmas.{kept_on, state_read, clean_read}
use Rattle.host_cache.proofs.cache.Cache.read_through.Goals as goal

pub invariant_of-self : goal.invariant_of-self
invariant_of-self g c =
    let D = g.D.Disk in
    let d = c.args.self.now in
    let made = c.read_disk.ensures.made in
    record {
      cap = d.cap;
      in_word = d.in_word;
      same_blocks = d.same_blocks ∙ ap (λ (sh : Shape). sh.blocks) (sym made.shape);
      same_size = d.same_size ∙ ap (λ (sh : Shape). sh.size) (sym made.shape);
      kept = kept_on (D.shape d.disk) (D.shape c.read_disk.new.disk) (held_of d) made.shape d.kept;
      clean = clean_read d c.read_disk.new.disk c.args.b (cache_outcome c.read_disk.result) made;
    }

pub returns-clause-state : goal.returns-clause-state
returns-clause-state g c told = state_read c.args.self.now.disk c.read_disk.new.disk c.args.b (cache_outcome c.read_disk.result) c.read_disk.ensures.made told
