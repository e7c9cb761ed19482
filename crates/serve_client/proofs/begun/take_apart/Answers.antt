use Rattle.std.proofs.Common.{◌++◌, ◌∙◌, ap, arith}
use Rattle.std.specs.Option.{option_to_list}
use Rattle.serve_client.proofs.Beginning.{popped}
use Rattle.serve_client.proofs.begun.take_apart.Goals as goal

pub returns-clause-client : goal.returns-clause-client
returns-clause-client g c =
    (popped c.args.started.clients.items c.pop.new.self.items c.unwrap-client.result (omega (arith, c.requires.clients, c.args.started.clients.ok.0))
    (c.pop.ensures.items ∙ ap (λ o. c.pop.new.self.items ++ option_to_list o) c.unwrap-client.ensures)).1

pub returns-clause-hand : goal.returns-clause-hand
returns-clause-hand g c =
    (popped c.args.started.hands.items c.pop-2.new.self.items c.unwrap-hand.result (omega (arith, c.requires.hands, c.args.started.hands.ok.0))
    (c.pop-2.ensures.items ∙ ap (λ o. c.pop-2.new.self.items ++ option_to_list o) c.unwrap-hand.ensures)).1

pub returns-clause-clients_room : goal.returns-clause-clients_room
returns-clause-clients_room g c = (
  (popped c.args.started.clients.items c.pop.new.self.items c.unwrap-client.result (omega (arith, c.requires.clients, c.args.started.clients.ok.0))
      (c.pop.ensures.items ∙ ap (λ o. c.pop.new.self.items ++ option_to_list o) c.unwrap-client.ensures)).0,
  omega (arith, c.requires.clients, c.args.started.clients.ok.0, c.args.started.clients.ok.1, c.pop.ensures.capacity),
)

pub returns-clause-hands_room : goal.returns-clause-hands_room
returns-clause-hands_room g c = (
  (popped c.args.started.hands.items c.pop-2.new.self.items c.unwrap-hand.result (omega (arith, c.requires.hands, c.args.started.hands.ok.0))
      (c.pop-2.ensures.items ∙ ap (λ o. c.pop-2.new.self.items ++ option_to_list o) c.unwrap-hand.ensures)).0,
  omega (arith, c.requires.hands, c.args.started.hands.ok.0, c.args.started.hands.ok.1, c.pop-2.ensures.capacity),
)
