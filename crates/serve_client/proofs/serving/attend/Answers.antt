use Rattle.std.proofs.Common.{◌≡◌, ◌++◌, ◌∷◌, [], List, length, map, refl, sym, ap, subst, ◌∙◌, append_assoc}
use Rattle.host_model.specs.{Drained}
use Rattle.host_session.specs.{ClientState}
use Rattle.host_worker.specs.{AreAccounted, AreEnded, hand_end, AreClosed, AreHands, received_events, Hand}
use Rattle.host_worker.proofs.Shared.{client_still}
use Rattle.host_play.specs.{IsSquare}
use Rattle.host_play.proofs.Accounts.{square_ended}
use Rattle.host_play.proofs.Parts.{square_new}
use Rattle.host_play.proofs.Quiet.{silent_drain}
use Rattle.serve_client.proofs.Alone.{accounted, are_closed, are_hands}
use Rattle.serve_client.proofs.Asked.{may_first}
use Rattle.serve_client.proofs.serving.attend.Goals as goal

pub ask_all-requires-clause-may : goal.ask_all-requires-clause-may
ask_all-requires-clause-may g c = may_first c.args.begun.client c.requires.new

pub drain-requires-clause-client : goal.drain-requires-clause-client
drain-requires-clause-client g c = client_still c.args.begun.server c.args.begun.client c.ask_all.new.client c.ask_all.ensures.plan c.requires.client

pub drain-requires-clause-hand : goal.drain-requires-clause-hand
drain-requires-clause-hand g c = c.ask_all.ensures.helped.hand

pub finish-requires-clause-clients : goal.finish-requires-clause-clients
finish-requires-clause-clients g c =
    let b = c.args.begun in
    let d = c.drain.ensures.drained in
    subst (λ (l : List ClientState). AreClosed b.server l) (sym (c.push_reserved.ensures.items ∙ ap (λ (l : List ClientState). l ++ c.drain.new.client ∷ []) c.requires.clients_room.0))
    (are_closed c.drain.new.hand c.drain.new.client b.server b.client.plan c.requires.plans (d.plan ∙ c.ask_all.ensures.plan) d.closed_is)

pub finish-requires-clause-hands : goal.finish-requires-clause-hands
finish-requires-clause-hands g c =
    let b = c.args.begun in
    let number = c.drain.ensures.worked.number ∙ (c.ask_all.ensures.helped.number_is ∙ c.requires.number) in
    subst (λ (l : List (Hand g.row.D.Denot g.D.Disk)). AreHands b.server l) (sym (c.push_reserved-2.ensures.items ∙ ap (λ (l : List (Hand g.row.D.Denot g.D.Disk)). l ++ c.drain.new.hand ∷ []) c.requires.hands_room.0))
    (are_hands c.drain.new.hand c.drain.new.client b.server c.requires.one_hand number c.drain.ensures.hand)

pub finish-requires-clause-accounted : goal.finish-requires-clause-accounted
finish-requires-clause-accounted g c =
    let b = c.args.begun in
    let d = c.drain.ensures.drained in
    let square = c.ask_all.ensures.helped.account (square_new b.hand c.requires.new_hand b.client c.requires.new) in
    let ended = square_ended c.ask_all.new.hand c.drain.new.hand c.ask_all.new.client c.drain.new.client (received_events d.answers ++ Drained ∷ []) c.drain.ensures.worked
    (d.log_is ∙ append_assoc c.ask_all.new.client.log (received_events d.answers) (Drained ∷ [])) (silent_drain d.answers) square in
    subst (λ (l : List (Hand g.row.D.Denot g.D.Disk)). AreAccounted l c.push_reserved.new.self.items) (sym (c.push_reserved-2.ensures.items ∙ ap (λ (l : List (Hand g.row.D.Denot g.D.Disk)). l ++ c.drain.new.hand ∷ []) c.requires.hands_room.0))
    (subst (λ (l : List ClientState). AreAccounted (c.drain.new.hand ∷ []) l) (sym (c.push_reserved.ensures.items ∙ ap (λ (l : List ClientState). l ++ c.drain.new.client ∷ []) c.requires.clients_room.0))
    (accounted c.drain.new.hand c.drain.new.client ended))

pub returns-clause-attended : goal.returns-clause-attended
returns-clause-attended g c =
    let clients = c.push_reserved.ensures.items ∙ ap (λ (l : List ClientState). l ++ c.drain.new.client ∷ []) c.requires.clients_room.0 in
    record {
      client = c.drain.new.client;
      hands = map hand_end c.push_reserved-2.new.self.items;
      ended = subst (λ (l : List ClientState). AreEnded l (map hand_end c.push_reserved-2.new.self.items) c.finish.result.ends) clients c.finish.ensures.ended;
      sent_are = sym c.sent-sent.ensures;
    }
