use Rattle.std.proofs.Common.{sym, ◌∙◌, ap, subst}
use Rattle.host_block.specs.{done}
use Rattle.host_io.specs.{Shape}
use Rattle.host_cache.specs.Held.{Held}
use Rattle.host_cache.specs.{cached, IsCacheKept, held_of, cache_error_outcome}
use Rattle.host_cache.proofs.CacheLemmas.{kept_written, clean_written, content_written}
use Rattle.host_cache.proofs.StepLemmas.{after_error}
use Rattle.host_cache.proofs.cache.Cache.write_victim.Goals as goal

pub invariant_of-self-in-Ok : goal.invariant_of-self-in-Ok
invariant_of-self-in-Ok g c =
    let d = c.args.self.now in
    let made = c.in-Ok.ensures.made in
    record {
      cap = d.cap;
      in_word = d.in_word;
      same_blocks = d.same_blocks ∙ ap (λ (sh : Shape). sh.blocks) (sym made.shape);
      same_size = d.same_size ∙ ap (λ (sh : Shape). sh.size) (sym made.shape);
      kept = kept_written d c.write_disk.new.disk c.in-Some.victim c.as_slice.result.now done c.in-Some.is c.as_slice.ensures made;
      clean = clean_written d c.write_disk.new.disk c.in-Some.victim c.as_slice.result.now done c.in-Some.is c.as_slice.ensures made;
    }

pub returns-in-Ok-clause-content : goal.returns-in-Ok-clause-content
returns-in-Ok-clause-content g c told k below =
    content_written c.args.self.now c.write_disk.new.disk c.in-Some.victim c.as_slice.result.now done c.in-Some.is c.as_slice.ensures c.in-Ok.ensures.made told k

pub invariant_of-self-in-Err-1 : goal.invariant_of-self-in-Err-1
invariant_of-self-in-Err-1 g c =
    let D = g.D.Disk in
    let d = c.args.self.now in
    let made = c.in-Err.ensures.made in
    let o = cache_error_outcome c.in-Err.error in
    let kept = kept_written d c.write_disk.new.disk c.in-Some.victim c.as_slice.result.now o c.in-Some.is c.as_slice.ensures made in
    record {
      cap = d.cap;
      in_word = d.in_word;
      same_blocks = d.same_blocks ∙ ap (λ (sh : Shape). sh.blocks) (sym made.shape);
      same_size = d.same_size ∙ ap (λ (sh : Shape). sh.size) (sym made.shape);
      kept = subst (λ (h : Held). IsCacheKept (D.shape c.write_disk.new.disk).blocks (D.shape c.write_disk.new.disk).size h) (after_error c.in-Err.error (held_of d)) kept;
      clean = clean_written d c.write_disk.new.disk c.in-Some.victim c.as_slice.result.now o c.in-Some.is c.as_slice.ensures made;
    }

pub returns-in-Err-clause-content : goal.returns-in-Err-clause-content
returns-in-Err-clause-content g c told k below =
    let D = g.D.Disk in
    let d = c.args.self.now in
    let new = c.write_disk.new.disk in
    ap (λ (h : Held). cached h (D.state new) k) (sym (after_error c.in-Err.error (held_of d)))
    ∙ content_written d new c.in-Some.victim c.as_slice.result.now (cache_error_outcome c.in-Err.error) c.in-Some.is c.as_slice.ensures c.in-Err.ensures.made told k
