use Rattle.std.proofs.Common.{sym, subst, arith}
use Rattle.host_block.specs.{Flush}
use Rattle.host_device.specs.{entries_added, step_made}
use Rattle.host_turn.specs.{seen_by}
use Rattle.host_hand.specs.{Carried, HasCarried}
use Rattle.host_hand.specs.declared.work.Work.TheVariants as work
use Rattle.host_hand.proofs.BlockRuns.{plain_run}
use Rattle.host_hand.proofs.CarryEnds.{flush_carried}
use Rattle.host_hand.proofs.carry.flush.Goals as goal

pub returns-clause-carried : goal.returns-clause-carried
returns-clause-carried g c = λ pool h.
    let e = c.args.errand.now in
    let r = c.step_at-run.result in
    let bytes = c.empty.result in
    let s = seen_by c.args.device_seat.now in
    let u = seen_by c.step_at-run.new.seat in
    subst (λ (x : Carried). HasCarried e work.Flush pool x h h s u) (sym c.end_of.ensures)
    (flush_carried e pool r (entries_added r.answer (step_made e.hand e.session e.index 0 Flush 0 bytes)) h s u c.requires.kind
    (plain_run e (record { k = 0; op = Flush; block = 0 }) bytes r.answer) c.step_at-run.ensures.step (omega (arith, c.step_at-run.ensures.front)))
