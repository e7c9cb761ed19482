use Rattle.std.proofs.Common.{arith}
use Rattle.host_frames.specs.{pool_id}
use Rattle.host_worker.proofs.Opening.{all_there, opened_still, shares_of_clients}
use Rattle.host_worker.proofs.prepare.prepare.Goals as goal

pub deal-requires : goal.deal-requires
deal-requires g c = record { full = all_there c.args.specs.now c.args.hands (pool_id c.in_ok-pool.pool) c.in_ok-opened.opened c.in_ok-opened.ensures }

pub returns : goal.returns
returns g c =
    let opened = c.in_ok-opened.opened in
    let dealt = c.in_ok-shares.ensures in
    record {
      pool = c.in_ok-pool.ensures.pool;
      opened = opened_still c.args.specs.now c.args.hands (pool_id c.in_ok-pool.pool) opened c.in_ok-opened.ensures c.deal.new.sessions c.in_ok-shares.shares.items dealt;
      shares = (dealt.count, shares_of_clients c.args.specs.now c.args.hands (pool_id c.in_ok-pool.pool) opened c.in_ok-opened.ensures c.deal.new.sessions c.in_ok-shares.shares.items dealt);
      seats = (omega (arith, c.in_ok-pool.ensures.seats.0, c.in_ok-pool.pool_seats.ok.0), c.in_ok-pool.ensures.seats.1);
      room = (c.in-Ok.ensures.items, c.in-Ok.ensures.capacity, c.in_ok-ends.ensures.empty, c.in_ok-ends.ensures.room, c.in_ok-ends.ensures.kept);
    }
