use Rattle.std.proofs.Common.{◌≡◌, length, sym, ◌∙◌, ap, subst, arith}
use Rattle.host_cache.specs.Held.{Held}
use Rattle.host_cache.specs.{cached, with_room, IsCacheKept, AreClean, held_of}
use Rattle.host_cache.specs.declared.line.TheConstants.{ENTRIES}
use Rattle.host_cache.proofs.StepLemmas.{holding, room_full, kept_room, clean_room, content_room}
use Rattle.host_cache.proofs.cache.Cache.evict.Goals as goal

pub invariant_of-self : goal.invariant_of-self
invariant_of-self g c =
    let D = g.D.Disk in
    let d = c.args.self.now in
    let full : length d.lines.entries ≡ ENTRIES = omega (arith, c.if-len-lt-ENTRIES.false, c.len.ensures.len, d.kept.room) in
    let is : holding c.take_last.new.lines.entries c.take_last.result ≡ with_room (held_of d) = (λ i. holding (c.take_last.ensures.lines i).entries (c.take_last.ensures.victim i)) ∙ sym (room_full (held_of d) full) in
    record {
      cap = ap (λ l. l.cap) c.take_last.ensures.lines ∙ d.cap;
      in_word = d.in_word;
      same_blocks = d.same_blocks;
      same_size = d.same_size;
      kept = subst (λ (h : Held). IsCacheKept (D.shape d.disk).blocks (D.shape d.disk).size h) (sym is) (kept_room (D.shape d.disk).blocks (D.shape d.disk).size (held_of d) d.kept);
      clean = λ told. subst (λ (h : Held). AreClean (D.state d.disk) h.lines) (sym is) (clean_room (D.shape d.disk).blocks (D.shape d.disk).size (D.state d.disk) (held_of d) d.kept (d.clean told));
    }

pub returns-clause-content : goal.returns-clause-content
returns-clause-content g c told k below =
    let D = g.D.Disk in
    let d = c.args.self.now in
    let full : length d.lines.entries ≡ ENTRIES = omega (arith, c.if-len-lt-ENTRIES.false, c.len.ensures.len, d.kept.room) in
    let is : holding c.take_last.new.lines.entries c.take_last.result ≡ with_room (held_of d) = (λ i. holding (c.take_last.ensures.lines i).entries (c.take_last.ensures.victim i)) ∙ sym (room_full (held_of d) full) in
    ap (λ (h : Held). cached h (D.state d.disk) k) is
    ∙ content_room (D.shape d.disk).blocks (D.shape d.disk).size (D.state d.disk) (held_of d) d.kept (d.clean told) c.requires k
