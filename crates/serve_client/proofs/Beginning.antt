-- A server with one session begins.
use Rattle.std.proofs.Common.{◌≡◌, ℕ, zero, suc, ◌+◌, ◌^◌, ◌<◌, ◌≤◌, Bool, List, [], ◌∷◌, ◌++◌, length, map, All, Some, refl, sym, ap, subst, ◌∙◌, arith, length-append, vec_capacity}
use Rattle.std.specs.Prelude.{slice_get}
use Rattle.std.proofs.lemmas.List.Elements.{All-cons, All-nil}
use mathlib.Core.List.{map-map}
use Rattle.host_device.specs.{Device}
use Rattle.host_io.specs.declared.disk.Disk as disk
use Rattle.host_session.specs.{ClientState, IsNewClient, SessionSpec}
use Rattle.host_turn.specs.{opening_of}
use Rattle.host_worker.specs.{Hand, Server, Session, Started, IsHandOf, IsClientOf, IsServer, AreSpecs, IsPlanned, IsStarted}
use Rattle.host_worker.proofs.Lists.{at_place, map_at, map_from}
use Rattle.serve_client.specs.declared.begun.Begun.{Begun}
use Rattle.serve_client.specs.{Load, IsBegunOver, spec_for}

-- the one element of a list was popped
pub popped : {A : Type 0} (old new : List A) (x : A) → length old ≡ 1 → old ≡ new ++ x ∷ [] → (new ≡ []) × (old ≡ x ∷ [])
popped old [] x n e = (refl, e)
popped old (y ∷ new) x n e = absurd (omega (arith, n, ap length e, length-append new (x ∷ [])))

pub one_spec : (load : Load) (keeps : Bool) (blocks : ℕ) → load.range.first + load.range.count ≤ blocks → blocks < 2 ^ 64 → AreSpecs keeps blocks load.size (spec_for load keeps ∷ [])
one_spec load keeps blocks fits word = record {
  few = omega arith;
  numbers = λ k spec at. number k spec at;
  planned = All-cons (IsPlanned load.size) (spec_for load keeps) [] (record { depth = (omega arith, omega arith); size_is = refl }) (All-nil (IsPlanned load.size));
  kept = All-cons (λ (spec : SessionSpec). spec.keeps ≡ keeps) (spec_for load keeps) [] refl (All-nil (λ (spec : SessionSpec). spec.keeps ≡ keeps));
  parts = All-cons (λ (spec : SessionSpec). (spec.part.first + spec.part.count ≤ blocks) × (spec.part.first + spec.part.count < 2 ^ 64)) (spec_for load keeps) [] (fits, omega (arith, fits, word))
      (All-nil (λ (spec : SessionSpec). (spec.part.first + spec.part.count ≤ blocks) × (spec.part.first + spec.part.count < 2 ^ 64)));
}
  where
    number : (k : ℕ) (spec : SessionSpec) → slice_get (spec_for load keeps ∷ []) k ≡ Some spec → spec.number ≡ k + 1
    number zero spec at = let same : spec_for load keeps ≡ spec = cc at in ap (λ (s : SessionSpec). s.number) (sym same)
    number (suc k) spec at = absurd (cc at)

module _ {D : Type 0} {g : disk.Ghosts D} (device : Device D g) (load : Load) (keeps : Bool) (started : Started D g) (is : IsStarted device (spec_for load keeps ∷ []) 1 started) (begun : Begun D g)
    (server_is : begun.server ≡ started.server) (client_is : started.clients.items ≡ begun.client ∷ []) (hand_is : started.hands.items ≡ begun.hand ∷ [])
    (clients_room : (begun.clients.items ≡ []) × (1 ≤ vec_capacity begun.clients)) (hands_room : (begun.hands.items ≡ []) × (1 ≤ vec_capacity begun.hands)) where
  first_client : slice_get started.clients.items 0 ≡ Some begun.client
  first_client = ap (λ (l : List ClientState). slice_get l 0) client_is

  first_hand : slice_get started.hands.items 0 ≡ Some begun.hand
  first_hand = ap (λ (l : List (Hand D g)). slice_get l 0) hand_is

  records_are : begun.client.plan.spec.records ≡ load.records
  records_are =
      let s = map_from (λ (x : Session). x.opened.value) started.server.sessions.items 0 begun.client (ap (λ (l : List ClientState). slice_get l 0) is.clients_are ∙ first_client) in
      let own : begun.client.plan.spec ≡ s.0.spec = ap (λ (c : ClientState). c.plan.spec) s.2 ∙ (is.server.sessions 0 s.0 s.1).spec in
      let at : Some s.0.spec ≡ Some (spec_for load keeps) = sym (map_at (λ (x : Session). x.spec) started.server.sessions.items 0 s.0 s.1) ∙ ap (λ (l : List SessionSpec). slice_get l 0) is.specs_are in
      let same : s.0.spec ≡ spec_for load keeps = cc at in
      ap (λ (q : SessionSpec). q.records) (own ∙ same)

  pub begun_over : IsBegunOver device load begun
  begun_over = record {
    begins = record {
      server = subst (λ (s : Server D g). IsServer s) (sym server_is) is.server;
      one_hand = ap (λ (s : Server D g). s.hands) server_is ∙ is.hand_count;
      client = subst (λ (s : Server D g). IsClientOf s begun.client) (sym server_is) (at_place (IsClientOf started.server) started.clients.items 0 begun.client is.clients.0 first_client);
      new = at_place IsNewClient started.clients.items 0 begun.client is.clients.1 first_client;
      records_are = records_are;
      plans = ap (λ (s : Server D g). map (λ (x : Session). x.opened.value.plan) s.sessions.items) server_is
          ∙ (sym (map-map (λ (c : ClientState). c.plan) (λ (x : Session). x.opened.value) started.server.sessions.items)
          ∙ ap (map (λ (c : ClientState). c.plan)) (is.clients_are ∙ client_is));
      number = (is.hands_are 0 begun.hand first_hand).0;
      hand = subst (λ (s : Server D g). IsHandOf s begun.hand) (sym server_is) (is.hands_are 0 begun.hand first_hand).1;
      new_hand = (is.hands_are 0 begun.hand first_hand).2;
      clients_room = clients_room;
      hands_room = hands_room;
    };
    opening = ap (λ (s : Server D g). opening_of s.device) server_is ∙ is.opening;
  }
