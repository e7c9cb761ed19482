use Rattle.std.proofs.Common.{◌≡◌, ℕ, ◌≤◌, sym, ap, subst, ◌∙◌, arith}
use Rattle.host_worker.specs.{Turn, Did, IsRound, things_in}
use Rattle.host_worker.proofs.Closed.{has_worked_then}
use Rattle.host_worker.proofs.Forced.{forced_of_each}
use Rattle.host_worker.proofs.Rounds.{did_wide, done_is, not_done, nothing_in, things_joined, two_rounds}
use Rattle.host_worker.proofs.round.turn.Goals as goal

pub returns-then-has_done-clause-answer : goal.returns-then-has_done-clause-answer
returns-then-has_done-clause-answer g c =
    let first = c.go_over-behind in
    let start = c.args.hand.now.next in
    let did = done_is first.result (sym c.has_done.ensures ∙ c.if-has_done.true) in
    subst (λ (n : ℕ). IsRound 0 n c.args.hand.now first.new.hand Did) c.count_of-count.ensures
    (did_wide start c.count_of-count.result c.args.hand.now first.new.hand
    (subst (λ (t : Turn). IsRound start c.count_of-count.result c.args.hand.now first.new.hand t) did first.ensures.answer))

pub returns-clause-worked : goal.returns-clause-worked
returns-clause-worked g c = has_worked_then _ _ _ c.go_over-behind.ensures.worked c.go_over-before.ensures.worked

pub returns-clause-answer : goal.returns-clause-answer
returns-clause-answer g c =
    let first = c.go_over-behind in
    let second = c.go_over-before in
    let start = c.args.hand.now.next in
    let count = c.count_of-count.result in
    let fits : start ≤ count = omega (arith, c.requires.hand.next, c.count_of-count.ensures) in
    let both = two_rounds start count fits c.args.hand.now first.new.hand second.new.hand first.ensures.worked.number first.ensures.others second.ensures.others
    first.result second.result (not_done first.result (sym c.has_done.ensures ∙ c.if-has_done.false)) first.ensures.answer second.ensures.answer in
    subst (λ (n : ℕ). IsRound 0 n c.args.hand.now second.new.hand c.joined.result) c.count_of-count.ensures
    (subst (λ (t : Turn). IsRound 0 count c.args.hand.now second.new.hand t) (sym c.joined.ensures) both)

pub returns-then-has_done-clause-once : goal.returns-then-has_done-clause-once
returns-then-has_done-clause-once g c =
    let first = c.go_over-behind in
    let did : things_in first.result ≡ 1 = ap things_in (done_is first.result (sym c.has_done.ensures ∙ c.if-has_done.true)) in
    omega (arith, first.ensures.once, did)

pub returns-clause-once : goal.returns-clause-once
returns-clause-once g c =
    let first = c.go_over-behind in
    let second = c.go_over-before in
    let undone = sym c.has_done.ensures ∙ c.if-has_done.false in
    omega (arith, first.ensures.once, second.ensures.once, nothing_in first.result undone, ap things_in c.joined.ensures, things_joined first.result second.result undone)

pub returns-then-has_done-clause-forced : goal.returns-then-has_done-clause-forced
returns-then-has_done-clause-forced g c = forced_of_each c.args.server.now c.go_over-behind.new.hand c.go_over-behind.ensures.hand

pub returns-clause-forced : goal.returns-clause-forced
returns-clause-forced g c = forced_of_each c.args.server.now c.go_over-before.new.hand c.go_over-before.ensures.hand
