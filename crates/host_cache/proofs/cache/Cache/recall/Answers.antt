use Rattle.std.proofs.Common.{◌≡◌, true, false, [], MatchOption, nat_eq, sym, ◌∙◌, ap, subst}
use Rattle.host_cache.specs.Held.{Held}
use Rattle.host_cache.specs.{line_at, cached, Finds, IsCacheKept, AreClean, held_of}
use Rattle.host_block.specs.{done}
use Rattle.lru.specs.LruCache.{promoted}
use Rattle.host_cache.proofs.EntryLemmas.{Entries}
use Rattle.host_cache.proofs.StepLemmas.{holding}
use Rattle.host_cache.proofs.ListLemmas.{kept_promoted, clean_promoted, content_promoted, finds_promoted}
use Rattle.host_cache.proofs.cache.Cache.recall.Goals as goal

pub invariant_of-self : goal.invariant_of-self
invariant_of-self g c =
    let D = g.D.Disk in
    let d = c.args.self.now in
    let is : c.copy_entry.new.lines.entries ≡ promoted (nat_eq c.args.b) d.lines.entries = ap (λ l. l.entries) c.copy_entry.ensures.lines in
    record {
      cap = ap (λ l. l.cap) c.copy_entry.ensures.lines ∙ d.cap;
      in_word = d.in_word;
      same_blocks = d.same_blocks;
      same_size = d.same_size;
      kept = subst (λ (l : Entries). IsCacheKept (D.shape d.disk).blocks (D.shape d.disk).size (holding l d.victim)) (sym is)
          (kept_promoted (D.shape d.disk).blocks (D.shape d.disk).size c.args.b (held_of d) d.kept c.requires.victim);
      clean = λ told. subst (λ (l : Entries). AreClean (D.state d.disk) l) (sym is) (clean_promoted (D.state d.disk) c.args.b d.lines.entries (d.clean told));
    }

pub copy_entry-requires : goal.copy_entry-requires
copy_entry-requires g c line at = (c.args.self.now.kept.lines c.args.b line at).1 ∙ sym c.requires.piece

pub returns-clause-found : goal.returns-clause-found
returns-clause-found g c =
    let D = g.D.Disk in
    let d = c.args.self.now in
    let is : holding c.copy_entry.new.lines.entries d.victim ≡ holding (promoted (nat_eq c.args.b) d.lines.entries) d.victim = ap (λ l. holding l.entries d.victim) c.copy_entry.ensures.lines in
    subst (λ (h : Held). MatchOption (line_at d.lines.entries c.args.b) ((c.copy_entry.result ≡ false) × (h ≡ held_of d)) (λ line. (c.copy_entry.result ≡ true) × Finds c.args.b c.copy_entry.new.into line (held_of d) [] done h))
    (sym is) (finds_promoted c.args.b (held_of d) c.copy_entry.result c.copy_entry.new.into c.copy_entry.ensures.found)

pub returns-clause-content : goal.returns-clause-content
returns-clause-content g c told k below =
    let D = g.D.Disk in
    let d = c.args.self.now in
    let is : c.copy_entry.new.lines.entries ≡ promoted (nat_eq c.args.b) d.lines.entries = ap (λ l. l.entries) c.copy_entry.ensures.lines in
    ap (λ (l : Entries). cached (holding l d.victim) (D.state d.disk) k) is ∙ content_promoted (D.state d.disk) c.args.b (held_of d) k
