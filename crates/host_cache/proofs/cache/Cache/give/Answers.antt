use Rattle.std.proofs.Common.{IsTrue, sym, ◌∙◌, ap, subst}
use Rattle.host_cache.specs.Held.{Held}
use Rattle.host_cache.specs.{line_at, cache_outcome}
use Rattle.host_cache.proofs.RunLemmas.{same_as, faulted_as, runs_found, found_bytes, runs_missed, missed, on_ok_map}
use Rattle.host_cache.proofs.cache.Cache.give.Goals as goal

pub returns-then-recall-clause-calls : goal.returns-then-recall-clause-calls
returns-then-recall-clause-calls g c =
    runs_found c.args.b c.recall.new.into c.recall.result c.args.self.now c.recall.new.self c.if-recall.true c.recall.ensures.found c.recall.ensures.disk

pub returns-then-recall-clause-bytes : goal.returns-then-recall-clause-bytes
returns-then-recall-clause-bytes g c told = found_bytes c.args.b c.recall.new.into c.recall.result c.args.self.now c.recall.new.self c.if-recall.true c.recall.ensures.found

pub load-requires-clause-victim : goal.load-requires-clause-victim
load-requires-clause-victim g c =
    let miss = missed c.args.b c.recall.new.into c.recall.result c.args.self.now c.recall.new.self c.if-recall.false c.recall.ensures.found in
    ap (λ (h : Held). h.victim) miss.1 ∙ c.requires.victim

pub load-requires-clause-absent : goal.load-requires-clause-absent
load-requires-clause-absent g c =
    let miss = missed c.args.b c.recall.new.into c.recall.result c.args.self.now c.recall.new.self c.if-recall.false c.recall.ensures.found in
    ap (λ (h : Held). line_at h.lines c.args.b) miss.1 ∙ miss.0

pub returns-clause-calls : goal.returns-clause-calls
returns-clause-calls g c =
    runs_missed c.args.b c.recall.new.into c.load.new.into c.recall.result (cache_outcome c.load.result) c.args.self.now c.recall.new.self c.load.new.self c.if-recall.false c.recall.ensures.found c.recall.ensures.disk
    c.load.ensures.calls

pub returns-clause-fault : goal.returns-clause-fault
returns-clause-fault g c is = faulted_as c.args.self.now c.recall.new.self c.load.new.self c.recall.ensures.disk (c.load.ensures.fault is)

pub returns-clause-bytes : goal.returns-clause-bytes
returns-clause-bytes g c told =
    let D = g.D.Disk in
    on_ok_map c.load.result (λ is. is ∙ c.recall.ensures.content told c.args.b c.requires.block) (c.load.ensures.bytes (subst (λ d. IsTrue (D.shape d).tells) (sym c.recall.ensures.disk) told))

pub returns-clause-content : goal.returns-clause-content
returns-clause-content g c = same_as c.args.self.now c.recall.new.self c.load.new.self c.recall.ensures.disk c.recall.ensures.content c.load.ensures.content
