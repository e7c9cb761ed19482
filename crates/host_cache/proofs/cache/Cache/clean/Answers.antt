use Rattle.std.proofs.Common.{◌≡◌, refl, sym, ◌∙◌, ap, subst}
use Rattle.host_io.specs.{Shape}
use Rattle.host_cache.specs.{line_at, cached, clean_lines, write_calls, dirty_at, IsCacheKept, AreClean, cache_outcome}
use Rattle.host_cache.proofs.EntryLemmas.{Entries}
use Rattle.host_cache.proofs.StepLemmas.{holding}
use Rattle.host_cache.proofs.ListLemmas.{kept_clean_lines, clean_clean_lines, content_clean_lines}
use Rattle.host_cache.proofs.CacheLemmas.{kept_on, told_before}
use Rattle.host_cache.proofs.cache.Cache.clean.Goals as goal

pub invariant_of-self : goal.invariant_of-self
invariant_of-self g c =
    let D = g.D.Disk in
    let d = c.args.self.now in
    let o = cache_outcome c.clean_entry.result in
    let made = c.clean_entry.ensures.made in
    let calls = write_calls o (dirty_at c.args.b (line_at d.lines.entries c.args.b)) in
    let new = c.clean_entry.new.disk in
    let is : c.clean_entry.new.lines.entries ≡ clean_lines o c.args.b d.lines.entries = ap (λ l. l.entries) c.clean_entry.ensures.lines in
    record {
      cap = ap (λ l. l.cap) c.clean_entry.ensures.lines ∙ d.cap;
      in_word = d.in_word;
      same_blocks = d.same_blocks ∙ ap (λ (sh : Shape). sh.blocks) (sym made.shape);
      same_size = d.same_size ∙ ap (λ (sh : Shape). sh.size) (sym made.shape);
      kept = subst (λ (l : Entries). IsCacheKept (D.shape new).blocks (D.shape new).size (holding l d.victim)) (sym is)
          (kept_on (D.shape d.disk) (D.shape new) (holding (clean_lines o c.args.b d.lines.entries) d.victim) made.shape
          (kept_clean_lines o (D.shape d.disk).blocks (D.shape d.disk).size c.args.b d.lines.entries d.victim d.kept));
      clean = λ told.
          let before = told_before calls d.disk new made told in
          subst (λ (l : Entries). AreClean (D.state new) l) (sym is)
          (clean_clean_lines o (D.state d.disk) (D.state new) d.lines.entries c.args.b c.requires (made.state before) (d.clean before));
    }

pub returns-clause-calls : goal.returns-clause-calls
returns-clause-calls g c =
    let d = c.args.self.now in
    record {
      calls = write_calls (cache_outcome c.clean_entry.result) (dirty_at c.args.b (line_at d.lines.entries c.args.b));
      ruled = record { calls_are = refl; leaves = ap (λ l. holding l.entries d.victim) c.clean_entry.ensures.lines };
      made = c.clean_entry.ensures.made;
    }

pub returns-clause-content : goal.returns-clause-content
returns-clause-content g c told k below =
    let D = g.D.Disk in
    let d = c.args.self.now in
    ap (λ l. cached (holding l.entries d.victim) (D.state c.clean_entry.new.disk) k) c.clean_entry.ensures.lines
    ∙ content_clean_lines (cache_outcome c.clean_entry.result) (D.state d.disk) (D.state c.clean_entry.new.disk) d.lines.entries d.victim c.args.b c.requires (c.clean_entry.ensures.made.state told) k

pub clean_entry-requires-clause-fits : goal.clean_entry-requires-clause-fits
clean_entry-requires-clause-fits g c line at = c.args.self.now.kept.lines c.args.b line at
