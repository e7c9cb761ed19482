use Rattle.std.proofs.Common.{◌≡◌, [], refl, sym, ◌∙◌, ap, subst}
use Rattle.host_block.specs.{Outcome}
use Rattle.host_cache.specs.{cached, put_lines, IsCacheKept, AreClean, cache_outcome, held_of}
use Rattle.host_cache.proofs.EntryLemmas.{Entries}
use Rattle.host_cache.proofs.StepLemmas.{holding, content_put}
use Rattle.host_cache.proofs.ListLemmas.{kept_put_lines, clean_put_lines, put_error, not_failed, on_ok, on_err}
use Rattle.host_cache.proofs.MadeLemmas.{made_none}
use Rattle.host_cache.proofs.cache.Cache.put.Goals as goal

pub invariant_of-self : goal.invariant_of-self
invariant_of-self g c =
    let D = g.D.Disk in
    let d = c.args.self.now in
    let o = cache_outcome c.put_entry.result in
    let is : c.put_entry.new.lines.entries ≡ put_lines o c.args.b c.args.line d.lines.entries = ap (λ l. l.entries) c.put_entry.ensures.lines in
    record {
      cap = ap (λ l. l.cap) c.put_entry.ensures.lines ∙ d.cap;
      in_word = d.in_word;
      same_blocks = d.same_blocks;
      same_size = d.same_size;
      kept = subst (λ (l : Entries). IsCacheKept (D.shape d.disk).blocks (D.shape d.disk).size (holding l d.victim)) (sym is)
          (kept_put_lines o (D.shape d.disk).blocks (D.shape d.disk).size c.args.b c.args.line (held_of d) d.kept c.requires.victim (c.requires.block, c.requires.piece) c.requires.room);
      clean = λ told. subst (λ (l : Entries). AreClean (D.state d.disk) l) (sym is) (clean_put_lines o (D.state d.disk) c.args.b c.args.line d.lines.entries (c.requires.clean told) (d.clean told));
    }

pub returns-clause-calls : goal.returns-clause-calls
returns-clause-calls g c =
    let d = c.args.self.now in
    record {
      calls = [];
      ruled = record {
        calls_are = refl;
        not_failed = not_failed c.put_entry.result c.put_entry.ensures.memory;
        leaves = ap (λ l. holding l.entries d.victim) c.put_entry.ensures.lines;
      };
      made = made_none g.D.Disk d.disk;
    }

pub returns-clause-written : goal.returns-clause-written
returns-clause-written g c =
    let D = g.D.Disk in
    let d = c.args.self.now in
    on_ok c.put_entry.result _ (λ is told k below.
    ap (λ l. cached (holding l.entries d.victim) (D.state d.disk) k) c.put_entry.ensures.lines
    ∙ ap (λ (o : Outcome). cached (holding (put_lines o c.args.b c.args.line d.lines.entries) d.victim) (D.state d.disk) k) is
    ∙ content_put (D.state d.disk) c.args.b c.args.line (held_of d) k)

pub returns-clause-content : goal.returns-clause-content
returns-clause-content g c =
    let D = g.D.Disk in
    let d = c.args.self.now in
    on_err c.put_entry.result _ (λ e is told k below.
    ap (λ l. cached (holding l.entries d.victim) (D.state d.disk) k) c.put_entry.ensures.lines
    ∙ ap (λ (o : Outcome). cached (holding (put_lines o c.args.b c.args.line d.lines.entries) d.victim) (D.state d.disk) k) is
    ∙ ap (λ (l : Entries). cached (holding l d.victim) (D.state d.disk) k) (put_error e c.args.b c.args.line d.lines.entries))
