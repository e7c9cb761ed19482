-- What stands before the sessions begin, from a server that was started.
use Rattle.std.proofs.Common.{◌≡◌, ℕ, suc, ◌+◌, ◌-◌, ◌<◌, List, [], ◌∷◌, length, map, reverse, All, Option, Some, None, refl, sym, ap, subst, ◌∙◌, arith, IfSome, Vec}
use Rattle.std.specs.declared.alloc.Global.{Global}
use Rattle.std.specs.Prelude.{slice_get}
use Rattle.std.specs.List.{cons_option, filter_map, range_with_len}
use Rattle.std.proofs.lemmas.List.{reverse-reverse}
use Rattle.std.proofs.lemmas.List.Elements.{All-append, All-cons, All-head, All-nil, All-tail}
use Rattle.std.proofs.lemmas.Option.{slice_get_within}
use mathlib.Core.List.{map-map}
use Rattle.host_block.specs.declared.range.Range.{Range}
use Rattle.host_device.specs.{Device}
use Rattle.host_io.specs.declared.disk.Disk as disk
use Rattle.host_model.specs.{below}
use Rattle.host_session.specs.{ClientState, IsNewClient, SessionSpec}
use Rattle.host_worker.specs.{Hand, Session, Started, IsHandOf, IsNewHand, IsClientOf, plan_of_session, IsStarted}
use Rattle.host_worker.proofs.Lists.{at_place, each_place, map_at, map_from}
use Rattle.script_model.specs.{PlannedSession}
use Rattle.host_play.specs.{Actor, Client, Props, IsCast, IsClientReady, AreAllPieces, IsMadeOf, IsOneOf, clients_in, hands_in, numbers_of, of_clients, told_by_client, specs_from, ArePieces, IsStaged}
use Rattle.host_play.proofs.Reporting.{spec_at, specs_length}
use Rattle.host_log.proofs.Places.{some_at}
use Rattle.host_play.proofs.Reversed.{map-filter_map, map-reverse, reverse_cons}

-- ---- lists

-- elements whose numbers are their places
numbered_from : {A : Type 0} (f : A → ℕ) (n : ℕ) (xs : List A) → ((k : ℕ) (x : A) → slice_get xs k ≡ Some x → f x ≡ n + k) → map f xs ≡ range_with_len n (length xs)
numbered_from f n [] h = refl
numbered_from f n (x ∷ xs) h =
    let first : f x ≡ n = let t = h 0 x refl in omega (arith, t) in
    let rest : map f xs ≡ range_with_len (n + 1) (length xs) = numbered_from f (n + 1) xs (λ k y at. let t = h (suc k) y at in omega (arith, t)) in
    ap (λ (a : ℕ). a ∷ map f xs) first ∙ ap (λ l. n ∷ l) rest

all-reverse : {A : Type 0} (P : A → Type 0) (xs : List A) → All P xs → All P (reverse xs)
all-reverse P [] h = All-nil P
all-reverse P (x ∷ xs) h = subst (λ l. All P l) (sym (reverse_cons x xs)) (All-append P (reverse xs) (x ∷ []) (all-reverse P xs (All-tail P x xs h)) (All-cons P x [] (All-head P x xs h) (All-nil P)))

module _ {D : Type 0} {g : disk.Ghosts D} (made : Device D g) (specs : List SessionSpec) (count : ℕ) (started : Started D g) (is : IsStarted made specs count started) (actors : List (Actor D g)) (hands_are : hands_in actors ≡ started.hands.items) (clients_are : clients_in actors ≡ started.clients.items) where
  pub numbers : numbers_of actors ≡ below count
  numbers =
      let same : map (λ (hand : Hand D g). hand.number) (hands_in actors) ≡ numbers_of actors =
      map-reverse (λ (hand : Hand D g). hand.number) (map (λ (actor : Actor D g). actor.hand) actors) ∙ ap reverse (map-map (λ (hand : Hand D g). hand.number) (λ (actor : Actor D g). actor.hand) actors) in
      sym same ∙ ap (map (λ (hand : Hand D g). hand.number)) hands_are
      ∙ numbered_from (λ (hand : Hand D g). hand.number) 0 started.hands.items (λ k hand at. let t = (is.hands_are k hand at).0 in omega (arith, t))
      ∙ ap (λ n. range_with_len 0 n) is.all_hands

  pub fixed : of_clients (λ client. client.plan) actors ≡ map plan_of_session started.server.sessions.items
  fixed =
      ap reverse (map-filter_map (λ (client : ClientState). client.plan) (λ (actor : Actor D g). told_by_client (λ client. client) actor.client) (λ (actor : Actor D g). told_by_client (λ client. client.plan) actor.client) (λ actor. told_both actor.client) actors)
      ∙ sym (map-reverse (λ (client : ClientState). client.plan) (filter_map (λ (actor : Actor D g). told_by_client (λ client. client) actor.client) actors))
      ∙ ap (map (λ (client : ClientState). client.plan)) (clients_are ∙ sym is.clients_are)
      ∙ map-map (λ (client : ClientState). client.plan) (λ (s : Session). s.opened.value) started.server.sessions.items
    where
      told_both : (o : Option Client) → cons_option (told_by_client (λ client. client.plan) o) [] ≡ map (λ (client : ClientState). client.plan) (cons_option (told_by_client (λ client. client) o) [])
      told_both None = refl
      told_both (Some c) = refl

  -- the session of the client at a place
  opened_at : (k : ℕ) (client : ClientState) → slice_get started.clients.items k ≡ Some client → (s : Session) × (slice_get started.server.sessions.items k ≡ Some s) × (client ≡ s.opened.value)
  opened_at k client at = map_from (λ (s : Session). s.opened.value) started.server.sessions.items k client (ap (λ l. slice_get l k) is.clients_are ∙ at)

  spec_is : (k : ℕ) (client : ClientState) → slice_get started.clients.items k ≡ Some client → slice_get specs k ≡ Some client.plan.spec
  spec_is k client at =
      let o = opened_at k client at in
      let same : client.plan.spec ≡ o.0.spec = ap (λ (c : ClientState). c.plan.spec) o.2 ∙ (is.server.sessions k o.0 o.1).spec in
      ap (λ l. slice_get l k) (sym is.specs_are) ∙ map_at (λ (s : Session). s.spec) started.server.sessions.items k o.0 o.1 ∙ ap Some (sym same)

  module _ (plans : List PlannedSession) (ranges : List Range) (size depth : ℕ) (pieces : List (Vec (List ℕ) Global)) (same_length : length ranges ≡ length plans) (specs_are : specs ≡ specs_from 1 plans ranges size depth) (all_pieces : AreAllPieces size plans pieces) where
    ready : (client : Client) → IsOneOf started.clients.items pieces client → IsClientReady plans client
    ready client one =
        let k = one.place in
        let spec_there : slice_get (specs_from 1 plans ranges size depth) k ≡ Some client.end.plan.spec = ap (λ l. slice_get l k) (sym specs_are) ∙ spec_is k client.end one.end_is in
        let within : k < length plans = omega (arith, slice_get_within (specs_from 1 plans ranges size depth) k client.end.plan.spec spec_there, specs_length 1 plans ranges size depth same_length) in
        let plan = some_at plans k within in
        let spec = spec_at 1 plans ranges size depth k plan.0 client.end.plan.spec plan.1 spec_there in
        let number : client.end.plan.spec.number - 1 ≡ k = let t = ap (λ (sp : SessionSpec). sp.number) spec.2 in omega (arith, t) in
        record {
          new = at_place IsNewClient started.clients.items k client.end is.clients.1 one.end_is;
          plan = plan.0;
          stands = ap (slice_get plans) number ∙ plan.1;
          room = record {
            records = ap (λ (sp : SessionSpec). sp.records) spec.2;
            attaches = ap (λ (sp : SessionSpec). sp.attaches) spec.2;
            events = ap (λ (sp : SessionSpec). sp.events) spec.2;
          };
          pieces = subst (λ n. ArePieces n plan.0.lines client.pieces.items) (sym (ap (λ (sp : SessionSpec). sp.size) spec.2)) (all_pieces.each k plan.0 client.pieces plan.1 one.pieces_are);
        }

    cast_one : (a : Actor D g) → IsHandOf started.server a.hand × IsNewHand a.hand → IsMadeOf started.clients.items pieces a → IsCast started.server plans a
    cast_one a hand one = record {
      hand = hand.0;
      new_hand = hand.1;
      of_server = own a.client one;
      ready = begins a.client one;
    }
      where
        own : (o : Option Client) → IfSome o (IsOneOf started.clients.items pieces) → IfSome o (λ client. IsClientOf started.server client.end)
        own None h = tt
        own (Some c) h = at_place (IsClientOf started.server) started.clients.items h.place c.end is.clients.0 h.end_is

        begins : (o : Option Client) → IfSome o (IsOneOf started.clients.items pieces) → IfSome o (IsClientReady plans)
        begins None h = tt
        begins (Some c) h = ready c h

    pub cast : All (IsMadeOf started.clients.items pieces) actors → All (IsCast started.server plans) actors
    cast made_of =
        let P : Hand D g → Type 0 = λ hand. IsHandOf started.server hand × IsNewHand hand in
        let all : All P started.hands.items = each_place P started.hands.items (λ k hand at. ((is.hands_are k hand at).1, (is.hands_are k hand at).2)) in
        let mapped : All P (map (λ (actor : Actor D g). actor.hand) actors) =
        subst (λ l. All P l) (reverse-reverse (map (λ (actor : Actor D g). actor.hand) actors)) (all-reverse P (hands_in actors) (subst (λ l. All P l) (sym hands_are) all)) in
        each_place (IsCast started.server plans) actors (λ k a at.
        cast_one a (at_place P (map (λ (actor : Actor D g). actor.hand) actors) k a.hand mapped (map_at (λ (actor : Actor D g). actor.hand) actors k a at)) (at_place (IsMadeOf started.clients.items pieces) actors k a made_of at))

-- all stands, once the server was started and all were cast
pub is_staged : {D : Type 0} {g : disk.Ghosts D} (made : Device D g) (props : Props D g) (count : ℕ) (started : Started D g) (is : IsStarted made props.specs.items count started) (actors : Vec (Actor D g) Global) → hands_in actors.items ≡ started.hands.items → clients_in actors.items ≡ started.clients.items
    → All (IsMadeOf started.clients.items props.pieces.items) actors.items → IsStaged made props count (record { server = started.server; actors = actors; clients = props.clients; hands = props.hands })
is_staged made props count started is actors hands_are clients_are made_of = record {
  server = is.server;
  opening = is.opening;
  hand_count = is.hand_count;
  specs_are = is.specs_are;
  numbers = numbers made props.specs.items count started is actors.items hands_are clients_are;
  clients = fixed made props.specs.items count started is actors.items hands_are clients_are;
  cast = λ plans ranges size depth same specs_are pieces_are. cast made props.specs.items count started is actors.items hands_are clients_are plans ranges size depth props.pieces.items same specs_are pieces_are made_of;
  room = (refl, refl);
}
