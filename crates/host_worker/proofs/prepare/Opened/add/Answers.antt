use Rattle.std.proofs.Common.{refl}
use Rattle.host_worker.proofs.Opening.{is_opened}
use Rattle.host_worker.proofs.prepare.Opened.add.Goals as goal

pub returns : goal.returns
returns c = record {
  session = _;
  client = c.in_ok-shared.client;
  sessions_are = c.push_reserved.ensures.items;
  clients_are = c.push_reserved-2.ensures.items;
  room = (c.push_reserved.ensures.capacity, c.push_reserved-2.ensures.capacity);
  names = (refl, c.of-opened.ensures);
  opened = is_opened c.args.spec.now c.args.hands _ _ c.in_ok-shared.shared c.in_ok-shared.client c.in_ok-shared.ensures refl c.of-opened.ensures c.new.ensures;
  new_client = c.in_ok-shared.ensures.end;
}
