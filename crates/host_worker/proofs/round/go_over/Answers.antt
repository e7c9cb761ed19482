use Rattle.std.proofs.Common.{◌≡◌, ℕ, ◌+◌, refl, sym, ap, subst, ◌∙◌, arith}
use Rattle.host_hand.specs.{done_at, Visit}
use Rattle.host_worker.specs.{Turn, HasVisited, IsFound}
use Rattle.host_worker.proofs.Closed.{has_worked_then}
use Rattle.host_worker.proofs.Rounds.{did_is, found_all, found_did, found_more, found_nothing, not_did, others_more}
use Rattle.host_worker.proofs.round.go_over.Goals as goal

pub returns-then-is_did-clause-answer : goal.returns-then-is_did-clause-answer
returns-then-is_did-clause-answer g c =
    let v = subst (λ (a : Visit). HasVisited c.loop-k.k 0 c.loop-k.hand c.visit-answer.new.hand a) (did_is c.visit-answer.result (sym c.is_did.ensures ∙ c.if-is_did.true)) c.visit-answer.ensures.visited in
    found_did c.args.from c.loop-k.k c.args.to c.args.hand.now c.loop-k.hand c.visit-answer.new.hand _ refl v c.loop-k.auto.k c.loop-k-test.true c.loop-k.invariant.1.number c.loop-k.invariant.2

pub returns-then-is_did-clause-once : goal.returns-then-is_did-clause-once
returns-then-is_did-clause-once g c =
    let did : done_at c.visit-answer.result ≡ 1 = ap done_at (did_is c.visit-answer.result (sym c.is_did.ensures ∙ c.if-is_did.true)) in
    omega (arith, c.loop-k.invariant.4, c.visit-answer.ensures.once, did)

pub returns-clause-once : goal.returns-clause-once
returns-clause-once g c = omega (arith, c.loop-k.invariant.4, found_nothing c.args.from c.loop-k.k c.loop-k.hand c.loop-k.found c.loop-k.invariant.3)

pub loop-k-preserved : goal.loop-k-preserved
loop-k-preserved g c =
    let v = c.visit-answer.ensures in
    let inv = c.loop-k.invariant in (
      v.hand,
      has_worked_then _ _ _ inv.1 v.worked,
      others_more c.args.from c.loop-k.k 0 c.loop-k.hand c.visit-answer.new.hand c.visit-answer.result v.visited c.args.hand.now c.loop-k.auto.k inv.2,
      subst (λ (t : Turn). IsFound c.args.from (c.loop-k.k + 1) c.visit-answer.new.hand t) (sym c.found_after-found.ensures)
          (found_more c.args.from c.loop-k.k c.loop-k.hand c.visit-answer.new.hand c.visit-answer.result c.loop-k.found (sym c.is_did.ensures ∙ c.if-is_did.false) c.loop-k.auto.k v.visited inv.3),
      omega (arith, inv.4, v.once, not_did c.visit-answer.result (sym c.is_did.ensures ∙ c.if-is_did.false)),
    )

pub returns-clause-answer : goal.returns-clause-answer
returns-clause-answer g c =
    let inv = c.loop-k.invariant in
    let end : c.loop-k.k ≡ c.args.to = omega (arith, c.loop-k-test.false, c.loop-k.auto.k-end c.requires.places.0) in
    found_all c.args.from c.args.to c.args.hand.now c.loop-k.hand c.loop-k.found (subst (λ (k : ℕ). IsFound c.args.from k c.loop-k.hand c.loop-k.found) end inv.3)
