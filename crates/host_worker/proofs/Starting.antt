-- The hands are made, and a server runs.
use Rattle.std.proofs.Common.{◌≡◌, ℕ, zero, suc, ◌+◌, ◌-◌, ◌^◌, ◌<◌, ◌≤◌, List, [], ◌∷◌, ◌++◌, length, reverse, All, Option, Some, refl, sym, ap, subst, ◌∙◌, arith, length-append, Vec, vec_len}
use Rattle.std.specs.Prelude.{MatchOption, slice_get, slice_set}
use Rattle.std.specs.declared.alloc.Global.{Global}
use Rattle.std.proofs.lemmas.List.{length-map, reverse-append}
use Rattle.std.proofs.lemmas.Option.{slice_get_within}
use Rattle.atomic_table.specs.Seated.{TableId}
use Rattle.host_device.specs.{Device, DeviceFixed, fixed_of, shape_of, steps_of}
use Rattle.host_frames.specs.{PoolSeat, IsNewSeat, frame_count, page_size, pool_id}
use Rattle.host_frames.specs.Seats as frames
use Rattle.host_hand.proofs.Others.{begins}
use Rattle.host_io.specs.declared.disk.Disk as disk
use Rattle.host_model.specs.{Step}
use Rattle.host_session.specs.{SessionHand, SessionSpec, ClientState, IsFreshHand, IsHand}
use Rattle.host_turn.specs.{BookSeat, book_id, opening_of, seen_by}
use Rattle.host_turn.specs.Seats as turns
use Rattle.host_worker.specs.{Hand, ClosingRoom, Server, Session, AreNamed, IsClosingRoom, IsHandOf, IsNewHand, IsPartOf, IsClientOf, IsServer, IsSession, block_count, block_size, keeps_of, plan_of_session, IsNewShare, IsSessionOpenedFor, openings_of, specs_of, Started, AreOpened, AreShares, AreSpecs, IsPlanned, IsStarted}
use Rattle.host_worker.proofs.Dealt.{before_end}
use Rattle.host_log.proofs.Places.{some_at, get_last, nil_of}
use Rattle.host_worker.proofs.Lists.{at_place, each_place, map_at, map_from, set_elsewhere, set_here}

-- without the last
pub fewer : {A : Type 0} (P : A → Type 0) (all xs : List A) (x : A) → all ≡ xs ++ x ∷ [] → All P all → All P xs
fewer {A} P all xs x are p = each_place P xs (λ k y at. at_place P all k y p (ap (λ (l : List A). slice_get l k) are ∙ before_end xs x y k at))

pub fewer_len : {A : Type 0} (old new : Vec A Global) (x : A) (n : ℕ) → old.items ≡ new.items ++ x ∷ [] → vec_len old ≡ n + 1 → vec_len new ≡ n
fewer_len old new x n are count = omega (arith, old.ok.0, new.ok.0, ap length are, length-append new.items (x ∷ []), count)

pub fewer_shares : (openings : List ClientState) (all shares : List (Vec SessionHand Global)) (share : Vec SessionHand Global) → all ≡ shares ++ share ∷ [] → AreShares openings all → AreShares openings shares
fewer_shares openings all shares share are p = λ n x at. p n x (ap (λ (l : List (Vec SessionHand Global)). slice_get l n) are ∙ before_end shares share x n at)

module _ {D : Type 0} {g : disk.Ghosts D} where
  -- hand n as it is made
  pub record IsMade (book : TableId) (device : Device D g) (pool : TableId × ℕ) (openings : List ClientState) (n : ℕ) (hand : Hand D g) : Type 0 where
    pub number_is : hand.number ≡ n
    pub device_seat : turns.IsNewSeat (λ d. (steps_of d).items) fixed_of book device n hand.device_seat
    pub pool_seat : IsNewSeat pool hand.pool_seat
    pub share : IsNewShare openings n hand.sessions.items
    pub next_is : hand.next ≡ 0

  -- room was put into its hands
  pub made_with : (book : TableId) (device : Device D g) (pool : TableId × ℕ) (openings : List ClientState) (n : ℕ) (hand : Hand D g) (r : Option (ClosingRoom D g)) → IsMade book device pool openings n hand → IsMade book device pool openings n (record hand { room = r })
  made_with book device pool openings n hand r m = record { number_is = m.number_is; device_seat = m.device_seat; pool_seat = m.pool_seat; share = m.share; next_is = m.next_is }

  -- the hands from number `left` on were made, the last first
  pub record AreMade (book : TableId) (device : Device D g) (pool : TableId × ℕ) (openings : List ClientState) (left : ℕ) (hands : List (Hand D g)) : Type 0 where
    pub each : (n : ℕ) (hand : Hand D g) → slice_get (reverse hands) n ≡ Some hand → IsMade book device pool openings (left + n) hand

  pub made_none : (book : TableId) (device : Device D g) (pool : TableId × ℕ) (openings : List ClientState) (left : ℕ) (hands : List (Hand D g)) → hands ≡ [] → AreMade book device pool openings left hands
  made_none book device pool openings left hands e = record { each = λ n hand at. absurd (none n hand (ap (λ (l : List (Hand D g)). slice_get (reverse l) n) (sym e) ∙ at)) }
    where
      none : (n : ℕ) (hand : Hand D g) → slice_get [] n ≡ Some hand → ⊥
      none n hand at = cc at

  pub made_more : (book : TableId) (device : Device D g) (pool : TableId × ℕ) (openings : List ClientState) (left : ℕ) (hands : List (Hand D g)) (hand : Hand D g) → AreMade book device pool openings (left + 1) hands → IsMade book device pool openings left hand → AreMade book device pool openings left (hands ++ hand ∷ [])
  made_more book device pool openings left hands hand m one = record { each = λ n x at. at_number n x (ap (λ (l : List (Hand D g)). slice_get l n) (sym (reverse-append hands (hand ∷ []))) ∙ at) }
    where
      at_number : (n : ℕ) (x : Hand D g) → slice_get (hand ∷ reverse hands) n ≡ Some x → IsMade book device pool openings (left + n) x
      at_number zero x at =
          let same : hand ≡ x = cc at in
          let plain : left + 0 ≡ left = omega arith in
          subst (λ (k : ℕ). IsMade book device pool openings k x) (sym plain) (subst (λ (y : Hand D g). IsMade book device pool openings left y) same one)
      at_number (suc n) x at =
          let plain : (left + 1) + n ≡ left + suc n = omega arith in
          subst (λ (k : ℕ). IsMade book device pool openings k x) plain (m.each n x at)

  -- one more was made of the last seats and the last share
  pub one_made : (book : TableId) (device : Device D g) (pool : TableId × ℕ) (openings : List ClientState) (n : ℕ) (seat : BookSeat (Device D g) Step (DeviceFixed D)) (hand : Hand D g) (seats seats' : List PoolSeat) (shares shares' : List (Vec SessionHand Global))
      → hand.number ≡ n → hand.device_seat ≡ seat → hand.next ≡ 0 → seats ≡ seats' ++ hand.pool_seat ∷ [] → shares ≡ shares' ++ hand.sessions ∷ [] → length shares' ≡ n
      → turns.IsNewSeat (λ d. (steps_of d).items) fixed_of book device n seat → All (IsNewSeat pool) seats → AreShares openings shares → IsMade book device pool openings n hand
  one_made book device pool openings n seat hand seats seats' shares shares' number_is seat_is next_is seats_are shares_are count new_seat new_seats new_shares = record {
    number_is = number_is;
    device_seat = subst (λ (q : BookSeat (Device D g) Step (DeviceFixed D)). turns.IsNewSeat (λ d. (steps_of d).items) fixed_of book device n q) (sym seat_is) new_seat;
    pool_seat = at_place (IsNewSeat pool) seats (length seats') hand.pool_seat new_seats (ap (λ (l : List PoolSeat). slice_get l (length seats')) seats_are ∙ get_last seats' hand.pool_seat);
    share = subst (λ (k : ℕ). IsNewShare openings k hand.sessions.items) count
        (new_shares (length shares') hand.sessions (ap (λ (l : List (Vec SessionHand Global)). slice_get l (length shares')) shares_are ∙ get_last shares' hand.sessions));
    next_is = next_is;
  }

  -- the first hand got the room
  pub first_has_room : (book : TableId) (device : Device D g) (pool : TableId × ℕ) (openings : List ClientState) (hands : List (Hand D g)) (first : Hand D g) (room : ClosingRoom D g) (P : ClosingRoom D g → Type 0)
      → slice_get (reverse hands) 0 ≡ Some first → P room → AreMade book device pool openings 0 hands
      → (n : ℕ) (hand : Hand D g) → slice_get (slice_set (reverse hands) 0 (record first { room = Some room })) n ≡ Some hand → IsMade book device pool openings n hand × (hand.number ≡ 0 → MatchOption hand.room ⊥ P)
  first_has_room book device pool openings hands first room P there p m zero hand at =
      let is : hand ≡ record first { room = Some room } = set_here (reverse hands) 0 (record first { room = Some room }) hand at in
      let one = made_with book device pool openings 0 first (Some room) (m.each 0 first there) in
      subst (λ (h : Hand D g). IsMade book device pool openings 0 h × (h.number ≡ 0 → MatchOption h.room ⊥ P)) (sym is) (one, λ e. p)
  first_has_room book device pool openings hands first room P there p m (suc n) hand at =
      let stood : slice_get (reverse hands) (suc n) ≡ Some hand = sym (set_elsewhere (reverse hands) 0 (suc n) (record first { room = Some room }) (λ e. omega (arith, e))) ∙ at in
      let one : IsMade book device pool openings (0 + suc n) hand = m.each (suc n) hand stood in
      (subst (λ (k : ℕ). IsMade book device pool openings k hand) (omega arith) one, λ e. absurd (omega (arith, e, one.number_is)))

  -- ---- the server

  module _ (device : Device D g) (specs : List SessionSpec) (hands : ℕ) (server : Server D g)
      (fresh : (steps_of device).items ≡ []) (opening : opening_of server.device ≡ device)
      (specs_ok : AreSpecs (steps_of device).kept (shape_of device).blocks (shape_of device).size specs)
      (specs_are : specs_of server.sessions.items ≡ specs)
      (opened : (k : ℕ) (s : Session) → slice_get server.sessions.items k ≡ Some s → IsSessionOpenedFor hands 0 (pool_id server.pool) s)
      (hand_count : server.hands ≡ hands) where
    pub sessions_run : (k : ℕ) (s : Session) → slice_get server.sessions.items k ≡ Some s → IsSession (keeps_of server) (block_count server) (block_size server) server.hands (pool_id server.pool) k s
    sessions_run k s at =
        let o = opened k s at in
        let here : slice_get specs k ≡ Some s.spec = ap (λ (l : List SessionSpec). slice_get l k) (sym specs_are) ∙ map_at (λ (x : Session). x.spec) server.sessions.items k s at in
        let planned = at_place (IsPlanned (shape_of device).size) specs k s.spec specs_ok.planned here in
        let part = at_place (λ (x : SessionSpec). (x.part.first + x.part.count ≤ (shape_of device).blocks) × (x.part.first + x.part.count < 2 ^ 64)) specs k s.spec specs_ok.parts here in
        record {
          number = specs_ok.numbers k s.spec here;
          spec = o.spec;
          plan = (o.plan.0 ∙ sym hand_count, o.plan.1);
          shared = o.shared;
          size_is = planned.size_is ∙ ap (λ (d : Device D g). (shape_of d).size) (sym opening);
          keeps_is = at_place (λ (x : SessionSpec). x.keeps ≡ (steps_of device).kept) specs k s.spec specs_ok.kept here ∙ ap (λ (d : Device D g). (steps_of d).kept) (sym opening);
          part = (subst (λ (d : Device D g). s.spec.part.first + s.spec.part.count ≤ (shape_of d).blocks) (sym opening) part.0, part.1);
          room = (nil_of s.hands.items o.dealt.count, omega (arith, o.room, hand_count));
        }

    module _ (openings : List ClientState) (are : openings_of server.sessions.items ≡ openings) (n : ℕ) (less : n < hands) (hand : Hand D g)
        (m : IsMade (book_id server.device) device (pool_id server.pool) openings n hand) where
      seen_none : seen_by hand.device_seat ≡ []
      seen_none = m.device_seat.3 ∙ fresh

      part_of : (k : ℕ) (s : Session) (h : SessionHand) → slice_get server.sessions.items k ≡ Some s → slice_get hand.sessions.items k ≡ Some h → IsPartOf s hand.number h (seen_by hand.device_seat)
      part_of k s h at here =
          let c : slice_get openings k ≡ Some s.opened.value = ap (λ (l : List ClientState). slice_get l k) (sym are) ∙ map_at (λ (x : Session). x.opened.value) server.sessions.items k s at in
          let e = m.share.each k s.opened.value h c here in
          record {
            hand = subst (λ (j : ℕ). IsHand (plan_of_session s) j h) (sym m.number_is) e.0;
            keeps = begins s.spec hand.number (seen_by h.intake) (seen_by h.memory) (seen_by hand.device_seat) h.sender.pushed e.1.intake e.1.memory seen_none e.1.sender;
          }

      pub made_hand : (hand.number ≡ 0 → MatchOption hand.room ⊥ (IsClosingRoom (keeps_of server) server.hands (length server.sessions.items))) → IsHandOf server hand
      made_hand closing = record {
        closing = closing;
        number = omega (arith, m.number_is, less, hand_count);
        device = record {
          book_is = m.device_seat.0;
          outside = m.device_seat.1;
          number_is = m.device_seat.2 ∙ sym m.number_is;
          plan_is = m.device_seat.4 ∙ ap (λ (d : Device D g). Some (fixed_of d)) (sym opening);
        };
        pool = m.pool_seat.0;
        count = m.share.count ∙ (ap length (sym are) ∙ length-map server.sessions.items (λ (x : Session). x.opened.value));
        next = omega (arith, m.next_is);
        each = part_of;
        named = subst (λ (l : List Step). AreNamed (length server.sessions.items) hand.number l) (sym seen_none) refl;
      }

      pub new_hand : IsNewHand hand
      new_hand = record {
        device = seen_none;
        pool = (m.pool_seat.1, m.pool_seat.2, m.pool_seat.3);
        sessions = each_place IsFreshHand hand.sessions.items (λ k h here.
            let c = some_at openings k (omega (arith, m.share.count, slice_get_within hand.sessions.items k h here)) in
            let e = m.share.each k c.0 h c.1 here in e.1);
      }

  -- a client as it was opened is one of the server
  pub its_client : (server : Server D g) (running : IsServer server) (k : ℕ) (client : ClientState) → slice_get (openings_of server.sessions.items) k ≡ Some client → IsClientOf server client
  its_client server running k client at =
      let s = map_from (λ (x : Session). x.opened.value) server.sessions.items k client at in
      let r = running.sessions k s.0 s.1 in
      let num : client.plan.spec.number ≡ k + 1 = ap (λ (c : ClientState). c.plan.spec.number) s.2 ∙ (ap (λ (x : SessionSpec). x.number) r.spec ∙ r.number) in
      let place : client.plan.spec.number - 1 ≡ k = omega (arith, num) in
      record {
        session = s.0;
        stands = ap (λ (j : ℕ). slice_get server.sessions.items j) place ∙ s.1;
        plan = ap (λ (c : ClientState). c.plan) s.2;
      }

  -- all that was made is a server with its clients and hands
  pub is_started : (device : Device D g) (specs : List SessionSpec) (hands : ℕ) (started : Started D g)
      → (steps_of device).items ≡ [] → opening_of started.server.device ≡ device → turns.seat_count started.server.device ≡ hands → 1 ≤ hands
      → (frame_count started.server.pool ≡ 4096) × (page_size started.server.pool ≡ (shape_of device).size) × (frames.seat_count started.server.pool ≡ hands)
      → AreSpecs (steps_of device).kept (shape_of device).blocks (shape_of device).size specs
      → AreOpened specs hands 0 (pool_id started.server.pool) (record { sessions = started.server.sessions; clients = started.clients })
      → started.server.hands ≡ hands → length started.hands.items ≡ hands
      → ((n : ℕ) (hand : Hand D g) → slice_get started.hands.items n ≡ Some hand → IsMade (book_id started.server.device) device (pool_id started.server.pool) started.clients.items n hand × (hand.number ≡ 0 → MatchOption hand.room ⊥ (IsClosingRoom (steps_of device).kept hands (length started.server.sessions.items))))
      → IsStarted device specs hands started
  is_started device specs hands started fresh opening seats some pool specs_ok opened hand_count count made = record {
    server = running;
    opening = opening;
    hand_count = hand_count;
    specs_are = opened.specs_are;
    clients_are = opened.clients_are;
    clients = (
      each_place (IsClientOf started.server) started.clients.items (λ k client at. its_client started.server running k client (ap (λ (l : List ClientState). slice_get l k) opened.clients_are ∙ at)),
      opened.new,
    );
    all_hands = count;
    hands_are = λ n hand at.
        let m = made n hand at in
        let less : n < hands = omega (arith, count, slice_get_within started.hands.items n hand at) in
        (m.0.number_is, is_hand n hand less m.0 m.1, new_hand device specs hands started.server fresh opening specs_ok opened.specs_are opened.sessions hand_count started.clients.items opened.clients_are n less hand m.0);
  }
    where
      running : IsServer started.server
      running = record {
        device = (ap (λ (d : Device D g). (steps_of d).items) opening ∙ fresh, seats ∙ sym hand_count);
        pool = (pool.0, pool.2 ∙ sym hand_count, pool.1 ∙ ap (λ (d : Device D g). (shape_of d).size) (sym opening));
        sessions = sessions_run device specs hands started.server fresh opening specs_ok opened.specs_are opened.sessions hand_count;
        some = omega (arith, some, hand_count);
      }

      is_hand : (n : ℕ) (hand : Hand D g) → n < hands → IsMade (book_id started.server.device) device (pool_id started.server.pool) started.clients.items n hand → (hand.number ≡ 0 → MatchOption hand.room ⊥ (IsClosingRoom (steps_of device).kept hands (length started.server.sessions.items))) → IsHandOf started.server hand
      is_hand n hand less m closing = made_hand device specs hands started.server fresh opening specs_ok opened.specs_are opened.sessions hand_count started.clients.items opened.clients_are n less hand m
          (subst (λ (d : Device D g). hand.number ≡ 0 → MatchOption hand.room ⊥ (IsClosingRoom (steps_of d).kept started.server.hands (length started.server.sessions.items))) (sym opening)
          (subst (λ (k : ℕ). hand.number ≡ 0 → MatchOption hand.room ⊥ (IsClosingRoom (steps_of device).kept k (length started.server.sessions.items))) (sym hand_count) closing))
