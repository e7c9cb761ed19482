-- Hands, once the first gave the room for closing away.
use Rattle.std.proofs.Common.{◌≡◌, ℕ, zero, suc, ◌+◌, ◌<◌, ◌≤◌, List, [], ◌∷◌, ◌++◌, length, map, All, Option, Some, None, IsSome, MatchOption, refl, sym, ap, ap₂, subst, ◌∙◌, arith}
use Rattle.std.specs.Prelude.{slice_get, slice_set, vec_capacity, vec_len}
use Rattle.std.specs.List.{cons_option}
use Rattle.std.proofs.lemmas.List.{length-map}
use Rattle.host_io.specs.declared.disk.Disk as disk
use Rattle.host_session.specs.{SessionHand}
use Rattle.host_turn.specs.{IsSeatOutside, seat_count}
use Rattle.host_frames.specs.{pool_id, seat_pool}
use Rattle.host_frames.specs.Seats as frames
use Rattle.host_worker.specs.{Hand, ClosingRoom, Server, Session, AreBack, AreHands, HasRoomFor, HasTakenBack, parts_in, without_room, IsClosingRoom, IsServer, keeps_of}
use Rattle.host_worker.proofs.Lists.{each_place, map_at, map_from}

module _ {D : Type 0} {g : disk.Ghosts D} where
  -- ---- lists of hands that differ in their rooms alone

  -- one gave its room away
  pub given_room : (hands : List (Hand D g)) (k : ℕ) (hand left : Hand D g) → slice_get hands k ≡ Some hand → without_room left ≡ without_room hand → map without_room (slice_set hands k left) ≡ map without_room hands
  given_room [] k hand left at e = refl
  given_room (x ∷ hands) zero hand left at e =
      let same : x ≡ hand = cc at in
      ap (λ (y : Hand D g). y ∷ map without_room hands) (e ∙ ap (λ (y : Hand D g). without_room y) (sym same))
  given_room (x ∷ hands) (suc k) hand left at e = ap (λ (l : List (Hand D g)). without_room x ∷ l) (given_room hands k hand left at e)

  back_in : {B : Type 0} (f : Hand D g → B) → ((hand : Hand D g) → f (without_room hand) ≡ f hand) → (hands : List (Hand D g)) → map f (map without_room hands) ≡ map f hands
  back_in {B} f same [] = refl
  back_in {B} f same (x ∷ hands) = ap₂ (λ (a : B) (l : List B). a ∷ l) (same x) (back_in f same hands)

  pub same_map : {B : Type 0} (f : Hand D g → B) → ((hand : Hand D g) → f (without_room hand) ≡ f hand) → (new old : List (Hand D g)) → map without_room new ≡ map without_room old → map f new ≡ map f old
  same_map f same new old e = sym (back_in f same new) ∙ (ap (λ (l : List (Hand D g)). map f l) e ∙ back_in f same old)

  parts_back : (k : ℕ) (hands : List (Hand D g)) → parts_in k (map without_room hands) ≡ parts_in k hands
  parts_back k [] = refl
  parts_back k (x ∷ hands) = ap (λ (l : List SessionHand). cons_option (slice_get x.sessions.items k) l) (parts_back k hands)

  same_parts : (k : ℕ) (new old : List (Hand D g)) → map without_room new ≡ map without_room old → parts_in k new ≡ parts_in k old
  same_parts k new old e = sym (parts_back k new) ∙ (ap (λ (l : List (Hand D g)). parts_in k l) e ∙ parts_back k old)

  same_length : (new old : List (Hand D g)) → map without_room new ≡ map without_room old → length new ≡ length old
  same_length new old e = sym (length-map new without_room) ∙ (ap length e ∙ length-map old without_room)

  pub back_of : (new old : List (Hand D g)) → map without_room new ≡ map without_room old → (sessions sessions' : List Session) → AreBack new sessions sessions' → AreBack old sessions sessions'
  back_of new old e sessions sessions' b = record {
    count = b.count;
    each = λ k s s' at at'.
        let x = b.each k s s' at at' in
        (x.0, x.1, x.2, x.3 ∙ ap (λ (l : List SessionHand). s.hands.items ++ l) (same_parts k new old e));
  }

  -- ---- the room

  kept_some : (P : ClosingRoom D g → Type 0) (o : Option (ClosingRoom D g)) → MatchOption o ⊥ P → IsSome o
  kept_some P None m = absurd m
  kept_some P (Some r) m = refl

  kept_good : (P : ClosingRoom D g → Type 0) (o : Option (ClosingRoom D g)) (r : ClosingRoom D g) → o ≡ Some r → MatchOption o ⊥ P → P r
  kept_good P o r e m = subst (λ (x : Option (ClosingRoom D g)). MatchOption x ⊥ P) e m

  module _ (server : Server D g) (running : IsServer server) (hands : List (Hand D g)) (own : AreHands server hands) where
    some_hands : 0 < length hands
    some_hands = omega (arith, own.count, running.some)

    pub room_kept : (0 < length hands) × ((hand : Hand D g) → slice_get hands 0 ≡ Some hand → IsSome hand.room)
    room_kept = (some_hands, λ hand at. let o = own.each 0 hand at in kept_some (IsClosingRoom (keeps_of server) server.hands (length server.sessions.items)) hand.room (o.1.closing o.0))

    first_hand : (hand : Hand D g) × (slice_get hands 0 ≡ Some hand)
    first_hand = at hands some_hands
      where
        at : (xs : List (Hand D g)) → 0 < length xs → (hand : Hand D g) × (slice_get xs 0 ≡ Some hand)
        at [] less = absurd (omega (arith, less))
        at (x ∷ xs) less = (x, refl)

    pub room_of_all : (room : ClosingRoom D g) → ((hand : Hand D g) → slice_get hands 0 ≡ Some hand → hand.room ≡ Some room) → IsClosingRoom (keeps_of server) server.hands (length server.sessions.items) room
    room_of_all room is =
        let o = own.each 0 first_hand.0 first_hand.1 in
        kept_good (IsClosingRoom (keeps_of server) server.hands (length server.sessions.items)) first_hand.0.room room (is first_hand.0 first_hand.1) (o.1.closing o.0)

    module _ (left : List (Hand D g)) (e : map without_room left ≡ map without_room hands) (room : ClosingRoom D g) (c : IsClosingRoom (keeps_of server) server.hands (length server.sessions.items) room) where
      pub room_for : HasRoomFor (length left) room server.sessions.items
      room_for =
          let n : length left ≡ server.hands = same_length left hands e ∙ own.count in
          record {
            device_seats = omega (arith, n, ap length c.device_seats_fit.0, c.device_seats_fit.1);
            pool_seats = omega (arith, n, ap length c.pool_seats_fit.0, c.pool_seats_fit.1);
            sessions_have = each_place (λ (s : Session). length s.hands.items + length left ≤ vec_capacity s.hands) server.sessions.items (λ k s at.
                let r = running.sessions k s at in
                omega (arith, n, ap length r.room.0, r.room.1));
          }

      pub shares_fit : All (λ (hand : Hand D g). length hand.sessions.items ≡ length server.sessions.items) left
      shares_fit = each_place (λ (hand : Hand D g). length hand.sessions.items ≡ length server.sessions.items) left (λ k hand at.
          let size : Hand D g → ℕ = λ x. length x.sessions.items in
          let there : slice_get (map size hands) k ≡ Some (size hand) = ap (λ (l : List ℕ). slice_get l k) (sym (same_map size (λ x. refl) left hands e)) ∙ map_at size left k hand at in
          let w = map_from size hands k (size hand) there in
          w.2 ∙ (own.each k w.0 w.1).1.count)

      -- ---- the seats

      module _ (room' : ClosingRoom D g) (sessions : List Session) (t : HasTakenBack left room room' server.sessions.items sessions) where
        pub device_seats_are : room'.device_seats.items ≡ map (λ (hand : Hand D g). hand.device_seat) hands
        device_seats_are = t.device_seats ∙ (ap (λ l. l ++ map (λ (hand : Hand D g). hand.device_seat) left) c.device_seats_fit.0 ∙ same_map (λ (hand : Hand D g). hand.device_seat) (λ x. refl) left hands e)

        pub pool_seats_are : room'.pool_seats.items ≡ map (λ (hand : Hand D g). hand.pool_seat) hands
        pool_seats_are = t.pool_seats ∙ (ap (λ l. l ++ map (λ (hand : Hand D g). hand.pool_seat) left) c.pool_seats_fit.0 ∙ same_map (λ (hand : Hand D g). hand.pool_seat) (λ x. refl) left hands e)

        pub all_device_seats : (vec_len room'.device_seats ≡ seat_count server.device) × (0 < vec_len room'.device_seats)
        all_device_seats =
            let n : length room'.device_seats.items ≡ length hands = ap length device_seats_are ∙ length-map hands (λ (hand : Hand D g). hand.device_seat) in
            let m : vec_len room'.device_seats ≡ length room'.device_seats.items = omega (arith, room'.device_seats.ok.0) in
            (omega (arith, n, m, own.count, running.device.1), omega (arith, n, m, some_hands))

        pub device_seats_outside : All (λ q. IsSeatOutside server.device q) room'.device_seats.items
        device_seats_outside = subst (λ l. All (λ q. IsSeatOutside server.device q) l) (sym device_seats_are)
            (each_place (λ q. IsSeatOutside server.device q) (map (λ (hand : Hand D g). hand.device_seat) hands) (λ k q at.
            let w = map_from (λ (hand : Hand D g). hand.device_seat) hands k q at in
            let o = own.each k w.0 w.1 in
            subst (λ y. IsSeatOutside server.device y) (sym w.2) (o.1.device.book_is, o.1.device.outside)))

        pub all_pool_seats : vec_len room'.pool_seats ≡ frames.seat_count server.pool
        all_pool_seats =
            let n : length room'.pool_seats.items ≡ length hands = ap length pool_seats_are ∙ length-map hands (λ (hand : Hand D g). hand.pool_seat) in
            let m : vec_len room'.pool_seats ≡ length room'.pool_seats.items = omega (arith, room'.pool_seats.ok.0) in
            omega (arith, n, m, own.count, running.pool.1)

        pub pool_seats_of_it : All (λ q. seat_pool q ≡ pool_id server.pool) room'.pool_seats.items
        pool_seats_of_it = subst (λ l. All (λ q. seat_pool q ≡ pool_id server.pool) l) (sym pool_seats_are)
            (each_place (λ q. seat_pool q ≡ pool_id server.pool) (map (λ (hand : Hand D g). hand.pool_seat) hands) (λ k q at.
            let w = map_from (λ (hand : Hand D g). hand.pool_seat) hands k q at in
            ap seat_pool w.2 ∙ (own.each k w.0 w.1).1.pool))

        pub all_back : AreBack hands server.sessions.items sessions
        all_back = back_of left hands e server.sessions.items sessions t.sessions

        pub ends_kept : room'.ends.kept ≡ keeps_of server
        ends_kept = ap (λ x. x.kept) t.ends ∙ c.ends_kept

        pub ends_room : (room'.ends.items ≡ []) × (length sessions ≤ room'.ends.room)
        ends_room = (ap (λ x. x.items) t.ends ∙ c.ends_fit.0, omega (arith, ap (λ x. x.room) t.ends, c.ends_fit.1, t.sessions.count))
