use Rattle.std.proofs.Common.{◌≡◌, ℕ, ◌+◌, ◌-◌, List, Vec, length, sym, subst, arith}
use Rattle.std.specs.declared.alloc.Global.{Global}
use Rattle.host_session.specs.{SessionHand}
use Rattle.host_worker.specs.{AreSharesDealt}
use Rattle.host_worker.proofs.Dealt.{AreDealtFrom, dealt_all, dealt_more, dealt_none, some_left}
use Rattle.host_worker.proofs.prepare.deal.Goals as goal

pub loop-init : goal.loop-init
loop-init c =
    let whole : c.args.hands ≡ c.args.hands - 0 = omega arith in
    let d = dealt_none c.args.hands c.args.sessions.now.items c.in-Ok.shares.items c.in-Ok.ensures.items c.requires.full in (
      subst (λ (n : ℕ). AreDealtFrom n c.args.sessions.now.items c.args.sessions.now.items c.in-Ok.shares.items) whole d,
      c.in-Ok.ensures.len,
      c.in-Ok.ensures.capacity,
    )

pub last_share-requires : goal.last_share-requires
last_share-requires c = record { some = some_left (c.args.hands - c.loop.counter) c.loop.sessions.items (omega (arith, c.loop-test.true)) c.loop.invariant.0.hands_left }

pub loop-preserved : goal.loop-preserved
loop-preserved c =
    let i = c.loop.invariant in
    let old = c.args.sessions.now.items in
    let left : ℕ = c.args.hands - (c.loop.counter + 1) in
    let one : c.args.hands - c.loop.counter ≡ left + 1 = omega (arith, c.loop-test.true) in
    let d = subst (λ (n : ℕ). AreDealtFrom n old c.loop.sessions.items c.loop.shares.items) one i.0 in (
      subst (λ (l : List (Vec SessionHand Global)). AreDealtFrom left old c.last_share.new.sessions.items l) (sym c.push_reserved.ensures.items)
          (dealt_more left old c.loop.sessions.items c.last_share.new.sessions.items c.loop.shares.items c.in_ok-share.share d c.in_ok-share.ensures),
      omega (arith, i.1, c.push_reserved.ensures.len),
      omega (arith, i.2, c.push_reserved.ensures.capacity),
    )

pub returns : goal.returns
returns c =
    let i = c.loop.invariant in
    let done : c.args.hands - c.loop.counter ≡ 0 = omega (arith, c.loop-test.false) in
    let count : length c.loop.shares.items ≡ c.args.hands = omega (arith, i.1, c.loop.shares.ok.0, c.loop-test.false, c.loop.auto.counter-end) in
    subst (λ (l : List (Vec SessionHand Global)). AreSharesDealt c.args.hands c.args.sessions.now.items c.loop.sessions.items l) (sym c.reverse.ensures.items)
    (dealt_all c.args.hands (c.args.hands - c.loop.counter) c.args.sessions.now.items c.loop.sessions.items c.loop.shares.items done count i.0)
