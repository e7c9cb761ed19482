use Rattle.std.proofs.Common.{sym, subst}
use Rattle.host_rings.specs.{FoundNoSlip, SlipTakerState}
use Rattle.host_session.specs.{HasFoundAnswer, HasThrown}
use Rattle.host_session.proofs.Thrown.{answer_found, thrown_none, thrown_one}
use Rattle.host_session.proofs.messages.next_answer.Goals as goal

pub loop-init : goal.loop-init
loop-init g c = (tt, tt, thrown_none c.args.sent c.args.taker.now)

pub loop-preserved : goal.loop-preserved
loop-preserved g c = (tt, tt, thrown_one c.args.sent c.args.taker.now c.loop.taker c.pop.new.self c.in_ok-slip.slip c.loop.invariant.2 c.in_ok-slip.ensures c.in_default.ensures)

pub returns-in_err-slip : goal.returns-in_err-slip
returns-in_err-slip g c =
    let e = c.in_err-slip.ensures in
    subst (λ r. HasFoundAnswer c.args.sent c.args.taker.now c.pop.new.self r) (sym c.from_residual.ensures) (record {
      before = subst (λ (t : SlipTakerState). HasThrown c.args.sent c.args.taker.now t) (sym e.0) c.loop.invariant.2;
      empty = subst (λ (t : SlipTakerState). FoundNoSlip t) (sym e.0) e.1;
    })

pub returns-in-Some-answer_in : goal.returns-in-Some-answer_in
returns-in-Some-answer_in g c =
    let e = c.in-Some-answer_in.ensures in
    answer_found c.args.sent c.args.taker.now c.loop.taker c.pop.new.self c.in_ok-slip.slip c.loop.invariant.2 c.in_ok-slip.ensures c.in-Some-answer_in.response e.0 e.1
