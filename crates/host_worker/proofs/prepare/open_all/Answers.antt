use Rattle.std.proofs.Common.{◌≡◌, ℕ, length, take, refl, subst, arith}
use Rattle.std.proofs.lemmas.Option.{slice_get_read}
use Rattle.host_frames.specs.{pool_id}
use Rattle.host_worker.specs.{AreOpened}
use Rattle.host_worker.proofs.Opening.{count_more, opened_all, opened_more, opened_none}
use Rattle.host_worker.proofs.prepare.open_all.Goals as goal

pub loop-k-init : goal.loop-k-init
loop-k-init c = (
  opened_none c.args.specs.now c.args.hands (pool_id c.args.pool.now) (record { sessions = c.in-Ok.sessions; clients = c.in-Ok-with_capacity.clients }) c.in-Ok.ensures.items c.in-Ok-with_capacity.ensures.items,
  c.in-Ok.ensures.capacity,
  c.in-Ok-with_capacity.ensures.capacity,
  c.in-Ok.ensures.len,
  c.in-Ok-with_capacity.ensures.len,
)

pub loop-k-preserved : goal.loop-k-preserved
loop-k-preserved c =
    let i = c.loop-k.invariant in
    let h = c.in_ok-add.ensures in
    let at = slice_get_read c.args.specs.now (length c.args.specs.now) c.loop-k.k c.index-specs-k.result refl c.loop-k-test.true c.index-specs-k.is in (
      opened_more c.args.specs.now c.loop-k.k c.args.hands (pool_id c.args.pool.now) c.index-specs-k.result c.loop-k.opened c.add.new.self at i.0 h,
      omega (arith, i.1, h.room.0),
      omega (arith, i.2, h.room.1),
      count_more c.loop-k.opened.sessions c.add.new.self.sessions h.session c.loop-k.k h.sessions_are i.3,
      count_more c.loop-k.opened.clients c.add.new.self.clients h.client c.loop-k.k h.clients_are i.4,
    )

pub returns : goal.returns
returns c =
    let end : c.loop-k.k ≡ length c.args.specs.now = omega (arith, c.loop-k-test.false, c.loop-k.auto.k-end) in
    opened_all c.args.specs.now c.args.hands (pool_id c.args.pool.now) c.loop-k.opened
    (subst (λ (n : ℕ). AreOpened (take n c.args.specs.now) c.args.hands c.args.hands (pool_id c.args.pool.now) c.loop-k.opened) end c.loop-k.invariant.0)
