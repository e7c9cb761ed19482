-- A turn that begins at a client's session.
use Rattle.std.proofs.Common.{◌≡◌, false, length, sym, ap, ◌∙◌, arith}
use Rattle.host_hand.specs.{done_at}
use Rattle.host_worker.specs.{has_done, things_in}
use Rattle.host_worker.proofs.Closed.{has_worked_then}
use Rattle.host_worker.proofs.Rounds.{did_is, done_is, found_undone, not_did, nothing_in, own_told, things_joined}
use Rattle.host_worker.proofs.round.turn_at.Goals as goal

pub returns-then-is_did-clause-once : goal.returns-then-is_did-clause-once
returns-then-is_did-clause-once g c =
    let did : done_at c.visit-own.result ≡ 1 = ap done_at (did_is c.visit-own.result (sym c.is_did.ensures ∙ c.if-is_did.true)) in
    omega (arith, c.visit-own.ensures.once, did)

pub returns-then-has_done-clause-once : goal.returns-then-has_done-clause-once
returns-then-has_done-clause-once g c =
    let did : things_in c.go_over-behind.result ≡ 1 = ap things_in (done_is c.go_over-behind.result (sym c.has_done.ensures ∙ c.if-has_done.true)) in
    let none = not_did c.visit-own.result (sym c.is_did.ensures ∙ c.if-is_did.false) in
    omega (arith, c.visit-own.ensures.once, none, c.go_over-behind.ensures.once, did)

pub returns-then-has_done-clause-worked : goal.returns-then-has_done-clause-worked
returns-then-has_done-clause-worked g c = has_worked_then _ _ _ c.visit-own.ensures.worked c.go_over-behind.ensures.worked

pub returns-clause-worked : goal.returns-clause-worked
returns-clause-worked g c = has_worked_then _ _ _ (has_worked_then _ _ _ c.visit-own.ensures.worked c.go_over-behind.ensures.worked) c.go_over-before.ensures.worked

pub returns-clause-once : goal.returns-clause-once
returns-clause-once g c =
    let first = c.go_over-behind in
    let second = c.go_over-before in
    let none = not_did c.visit-own.result (sym c.is_did.ensures ∙ c.if-is_did.false) in
    let undone = sym c.has_done.ensures ∙ c.if-has_done.false in
    let found : has_done c.found_after.result ≡ false = ap has_done c.found_after.ensures ∙ found_undone first.result c.visit-own.result undone in
    omega (arith, c.visit-own.ensures.once, none, first.ensures.once, second.ensures.once, nothing_in first.result undone, ap things_in c.joined.ensures, things_joined c.found_after.result second.result found)

pub returns-clause-told : goal.returns-clause-told
returns-clause-told g c =
    own_told c.args.place (length c.args.note.pushed) c.count_of-count.result c.args.hand.now c.visit-own.new.hand c.go_over-behind.new.hand c.go_over-before.new.hand c.visit-own.result c.joined.result
    (sym c.is_did.ensures ∙ c.if-is_did.false) c.visit-own.ensures.visited c.go_over-behind.ensures.others c.go_over-before.ensures.others
