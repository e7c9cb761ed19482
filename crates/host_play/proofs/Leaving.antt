-- What holds of the hands and clients once all have played their parts.
use Rattle.std.proofs.Common.{◌≡◌, ◌⊎◌, ℕ, zero, suc, ◌+◌, Bool, true, false, ◌||◌, List, [], ◌∷◌, ◌++◌, length, map, reverse, Option, Some, None, refl, sym, ap, subst, ◌∙◌, inl, inr, ⊎_elim, arith}
use Rattle.std.specs.Prelude.{slice_get}
use Rattle.std.specs.List.{cons_option, filter_map, list_any, range_with_len, sum_by}
use Rattle.std.proofs.lemmas.List.{length-map, map-append}
use Rattle.std.proofs.lemmas.List.Sums.{sum_by_push}
use Rattle.std.proofs.lemmas.List.FromFn.{length-range_with_len}
use mathlib.Core.List.{map-map}
use Rattle.host_frames.specs.{PoolSeat, SomeIsRefused, SomeSeatRefused, frames_asked, claims, given_back, granted}
use Rattle.host_log.specs.{total}
use Rattle.host_log.proofs.Totals.{total_snoc}
use Rattle.host_io.specs.declared.disk.Disk as disk
use Rattle.host_model.specs.{below}
use Rattle.host_report.specs.{is_short_of_frames}
use Rattle.host_session.specs.{ClientState}
use Rattle.host_log.proofs.Places.{get_snoc}
use Rattle.host_worker.specs.{Hand, Server, AreAccounted, frames_of, pages_attached, pages_wanted, pool_seats_of, released_of, AreClosed, AreHands, IsHandOf, plan_of_session}
use Rattle.host_worker.proofs.Lists.{each_place, map_at}
use Rattle.script_model.specs.{PlannedSession}
use Rattle.host_play.specs.{Actor, Client, HasActed, HasPlayedPart, HasPlayedSession, IsSquareWith, AllHavePlayed, clients_in, hands_in, of_clients, told_by_client}
use Rattle.host_play.proofs.Reversed.{map-filter_map, map-reverse, reverse_cons, zipped_found, zipped_map}
use Rattle.host_play.proofs.Accounts.{or_left}

-- the number that stands at a place of the numbers from n on
number_at : (n count k x : ℕ) → slice_get (range_with_len n count) k ≡ Some x → x ≡ n + k
number_at n zero k x at = absurd (cc at)
number_at n (suc count) zero x at = let same : n ≡ x = cc at in omega (arith, same)
number_at n (suc count) (suc k) x at = let t = number_at (n + 1) count k x at in omega (arith, t)

-- a place of a list with one element more
snoc_place : {A : Type 0} (xs : List A) (x y : A) (k : ℕ) → slice_get (xs ++ x ∷ []) k ≡ Some y → (slice_get xs k ≡ Some y) ⊎ (x ≡ y)
snoc_place xs x y k at = ⊎_elim (λ t. inl t) (λ t. inr t.1) (get_snoc xs x y k at)

seat_refused : (seats : List PoolSeat) (q : PoolSeat) → (SomeSeatRefused 4096 seats ⊎ SomeIsRefused 4096 (claims q)) → SomeSeatRefused 4096 (seats ++ q ∷ [])
seat_refused [] q (inl h) = absurd h
seat_refused [] q (inr h) = inl h
seat_refused (x ∷ seats) q (inl (inl h)) = inl h
seat_refused (x ∷ seats) q (inl (inr h)) = inr (seat_refused seats q (inl h))
seat_refused (x ∷ seats) q (inr h) = inr (seat_refused seats q (inr h))

any_step : (p : ClientState → Bool) (x : ClientState) (cs : List ClientState) (c : ClientState) → (list_any p (cs ++ c ∷ []) ≡ true → (list_any p cs ≡ true) ⊎ (p c ≡ true)) → (b : Bool) → p x ≡ b → (b || list_any p (cs ++ c ∷ [])) ≡ true → ((p x || list_any p cs) ≡ true) ⊎ (p c ≡ true)
any_step p x cs c more true is h = inl (ap (λ b. b || list_any p cs) is)
any_step p x cs c more false is h = ⊎_elim (λ t. inl (ap (λ b. b || list_any p cs) is ∙ t)) (λ t. inr t) (more h)

any_snoc : (p : ClientState → Bool) (cs : List ClientState) (c : ClientState) → list_any p (cs ++ c ∷ []) ≡ true → (list_any p cs ≡ true) ⊎ (p c ≡ true)
any_snoc p [] c h = inr (or_left (p c) h)
any_snoc p (x ∷ cs) c h = any_step p x cs c (λ rest. any_snoc p cs c rest) (p x) refl h

module _ {D : Type 0} {g : disk.Ghosts D} where
  -- ---- accounts

  total-hands : (f : PoolSeat → ℕ) (a : Actor D g) (actors : List (Actor D g)) → total f (pool_seats_of (hands_in (a ∷ actors))) ≡ total f (pool_seats_of (hands_in actors)) + f a.hand.pool_seat
  total-hands f a actors =
      ap (λ hs. total f (pool_seats_of hs)) (reverse_cons a.hand (map (λ (actor : Actor D g). actor.hand) actors))
      ∙ ap (total f) (map-append (λ (hand : Hand D g). hand.pool_seat) (hands_in actors) (a.hand ∷ []))
      ∙ total_snoc f (pool_seats_of (hands_in actors)) a.hand.pool_seat

  frames-hands : (a : Actor D g) (actors : List (Actor D g)) → sum_by frames_of (hands_in (a ∷ actors)) ≡ sum_by frames_of (hands_in actors) + frames_of a.hand
  frames-hands a actors = ap (sum_by frames_of) (reverse_cons a.hand (map (λ (actor : Actor D g). actor.hand) actors)) ∙ sum_by_push frames_of (hands_in actors) a.hand

  seats_cons : (a : Actor D g) (actors : List (Actor D g)) → pool_seats_of (hands_in (a ∷ actors)) ≡ pool_seats_of (hands_in actors) ++ a.hand.pool_seat ∷ []
  seats_cons a actors = ap (map (λ (hand : Hand D g). hand.pool_seat)) (reverse_cons a.hand (map (λ (actor : Actor D g). actor.hand) actors)) ∙ map-append (λ (hand : Hand D g). hand.pool_seat) (hands_in actors) (a.hand ∷ [])

  clients_cons : (hand : Hand D g) (c : Client) (actors : List (Actor D g)) → clients_in (record { hand = hand; client = Some c } ∷ actors) ≡ clients_in actors ++ c.end ∷ []
  clients_cons hand c actors = reverse_cons c.end (filter_map (λ (actor : Actor D g). told_by_client (λ client. client) actor.client) actors)

  one_more : (hand : Hand D g) (client : Option Client) (actors : List (Actor D g)) → IsSquareWith hand client → AreAccounted (hands_in actors) (clients_in actors) → AreAccounted (hands_in (record { hand = hand; client = client } ∷ actors)) (clients_in (record { hand = hand; client = client } ∷ actors))
  one_more hand None actors sq all =
      let a : Actor D g = record { hand = hand; client = None } in
      record {
        granted_are = let t = total-hands granted a actors in omega (arith, t, sq.granted_is, all.granted_are);
        asked_are = let t = total-hands frames_asked a actors in omega (arith, t, sq.asked_is, all.asked_are);
        refused = λ short. subst (λ qs. SomeSeatRefused 4096 qs) (sym (seats_cons a actors)) (seat_refused (pool_seats_of (hands_in actors)) hand.pool_seat (inl (all.refused short)));
        given_back_are = let t = total-hands given_back a actors in let f = frames-hands a actors in omega (arith, t, f, sq.given_back_is, all.given_back_are);
      }
  one_more hand (Some c) actors sq all =
      let a : Actor D g = record { hand = hand; client = Some c } in
      let clients = clients_cons hand c actors in
      record {
        granted_are =
            let t = total-hands granted a actors in
            let s = ap (sum_by pages_attached) clients ∙ sum_by_push pages_attached (clients_in actors) c.end in
            omega (arith, t, s, sq.granted_is, all.granted_are);
        asked_are =
            let t = total-hands frames_asked a actors in
            let s = ap (sum_by pages_wanted) clients ∙ sum_by_push pages_wanted (clients_in actors) c.end in
            omega (arith, t, s, sq.asked_within, all.asked_are);
        refused = λ short.
            let short_of : ClientState → Bool = λ client. list_any is_short_of_frames client.log in
            let one = any_snoc short_of (clients_in actors) c.end (subst (λ cs. list_any short_of cs ≡ true) clients short) in
            subst (λ qs. SomeSeatRefused 4096 qs) (sym (seats_cons a actors)) (seat_refused (pool_seats_of (hands_in actors)) hand.pool_seat (either one));
        given_back_are =
            let t = total-hands given_back a actors in
            let f = frames-hands a actors in
            let s = ap (sum_by released_of) clients ∙ sum_by_push released_of (clients_in actors) c.end in
            omega (arith, t, f, s, sq.given_back_is, all.given_back_are);
      }
    where
      either : (list_any (λ (client : ClientState). list_any is_short_of_frames client.log) (clients_in actors) ≡ true) ⊎ (list_any is_short_of_frames c.end.log ≡ true) → SomeSeatRefused 4096 (pool_seats_of (hands_in actors)) ⊎ SomeIsRefused 4096 (claims hand.pool_seat)
      either (inl t) = inl (all.refused t)
      either (inr t) = inr (sq.refused t)

  module _ (server : Server D g) (plans : List PlannedSession) where
    pub accounted : (old new : List (Actor D g)) → AllHavePlayed server plans old new → AreAccounted (hands_in new) (clients_in new)
    accounted [] [] z = record { granted_are = refl; asked_are = omega arith; refused = λ short. absurd (cc short); given_back_are = refl }
    accounted [] (y ∷ new) z = absurd z
    accounted (x ∷ old) [] z = absurd z
    accounted (x ∷ old) (y ∷ new) z = one_more y.hand y.client new z.0.square (accounted old new z.1)

    -- ---- hands

    all_hands : (old new : List (Actor D g)) → AllHavePlayed server plans old new → (k : ℕ) (hand : Hand D g) → slice_get (hands_in new) k ≡ Some hand → IsHandOf server hand
    all_hands [] [] z k hand at = absurd (cc at)
    all_hands [] (y ∷ new) z k hand at = absurd z
    all_hands (x ∷ old) [] z k hand at = absurd z
    all_hands (x ∷ old) (y ∷ new) z k hand at =
        ⊎_elim (λ t. all_hands old new z.1 k hand t) (λ t. subst (λ h. IsHandOf server h) t z.0.hand)
        (snoc_place (hands_in new) y.hand hand k (ap (λ l. slice_get l k) (sym (reverse_cons y.hand (map (λ (actor : Actor D g). actor.hand) new))) ∙ at))

    pub are_hands : (old new : List (Actor D g)) → AllHavePlayed server plans old new → reverse (map (λ (actor : Actor D g). actor.hand.number) old) ≡ below server.hands → AreHands server (hands_in new)
    are_hands old new z numbers =
        let same : map (λ (hand : Hand D g). hand.number) (hands_in new) ≡ below server.hands =
        map-reverse (λ (hand : Hand D g). hand.number) (map (λ (actor : Actor D g). actor.hand) new)
        ∙ ap reverse (map-map (λ (hand : Hand D g). hand.number) (λ (actor : Actor D g). actor.hand) new ∙ zipped_map (HasPlayedPart server plans) (λ (actor : Actor D g). actor.hand.number) (λ x y r. r.number_is) old new z) ∙ numbers in
        record {
          count = sym (length-map (hands_in new) (λ (hand : Hand D g). hand.number)) ∙ ap (λ (l : List ℕ). length l) same ∙ length-range_with_len 0 server.hands;
          each = λ n hand at.
              let number : hand.number ≡ 0 + n = number_at 0 server.hands n hand.number (ap (λ l. slice_get l n) (sym same) ∙ map_at (λ (h : Hand D g). h.number) (hands_in new) n hand at) in
              (omega (arith, number), all_hands old new z n hand at);
        }

    -- ---- clients

    same_fixed : (x y : Actor D g) → HasPlayedPart server plans x y → told_by_client (λ client. client.plan) y.client ≡ told_by_client (λ client. client.plan) x.client
    same_fixed x y r = by x.client y.client r.acted
      where
        by : (a b : Option Client) → HasActed plans a b → told_by_client (λ client. client.plan) b ≡ told_by_client (λ client. client.plan) a
        by None None h = refl
        by (Some a) (Some b) h = ap Some h.same_plan
        by None (Some b) h = absurd h
        by (Some a) None h = absurd h

    pub fixed_same : (old new : List (Actor D g)) → AllHavePlayed server plans old new → map (λ client. client.plan) (clients_in new) ≡ of_clients (λ client. client.plan) old
    fixed_same old new z =
        map-reverse (λ (client : ClientState). client.plan) (filter_map (λ (actor : Actor D g). told_by_client (λ client. client) actor.client) new)
        ∙ ap reverse (sym (map-filter_map (λ (client : ClientState). client.plan) (λ (actor : Actor D g). told_by_client (λ client. client) actor.client) (λ (actor : Actor D g). told_by_client (λ client. client.plan) actor.client) (λ actor. told_both actor.client) new)
        ∙ zipped_found (HasPlayedPart server plans) (λ (actor : Actor D g). told_by_client (λ client. client.plan) actor.client) same_fixed old new z)
      where
        told_both : (o : Option Client) → cons_option (told_by_client (λ client. client.plan) o) [] ≡ map (λ (client : ClientState). client.plan) (cons_option (told_by_client (λ client. client) o) [])
        told_both None = refl
        told_both (Some c) = refl

    -- a client at a place is one of the others, or that of one more
    one_session : (new : List (Actor D g)) (k : ℕ) (client : ClientState) → (slice_get (clients_in new) k ≡ Some client → (before : ClientState) × HasPlayedSession plans before client)
        → (a b : Option Client) → HasActed plans a b → slice_get (reverse (cons_option (told_by_client (λ c. c) b) (filter_map (λ (actor : Actor D g). told_by_client (λ c. c) actor.client) new))) k ≡ Some client → (before : ClientState) × HasPlayedSession plans before client
    one_session new k client more None None h at = more at
    one_session new k client more None (Some b) h at = absurd h
    one_session new k client more (Some a) None h at = absurd h
    one_session new k client more (Some a) (Some b) h at =
        ⊎_elim (λ t. more t) (λ t. (a.end, subst (λ c. HasPlayedSession plans a.end c) t h))
        (snoc_place (clients_in new) b.end client k (ap (λ l. slice_get l k) (sym (reverse_cons b.end (filter_map (λ (actor : Actor D g). told_by_client (λ c. c) actor.client) new))) ∙ at))

    -- each client played its session
    pub sessions_played : (old new : List (Actor D g)) → AllHavePlayed server plans old new → (k : ℕ) (client : ClientState) → slice_get (clients_in new) k ≡ Some client → (before : ClientState) × HasPlayedSession plans before client
    sessions_played [] [] z k client at = absurd (cc at)
    sessions_played [] (y ∷ new) z k client at = absurd z
    sessions_played (x ∷ old) [] z k client at = absurd z
    sessions_played (x ∷ old) (y ∷ new) z k client at = one_session new k client (λ t. sessions_played old new z.1 k client t) x.client y.client z.0.acted at

    pub are_closed : (old new : List (Actor D g)) → AllHavePlayed server plans old new → of_clients (λ client. client.plan) old ≡ map plan_of_session server.sessions.items → AreClosed server (clients_in new)
    are_closed old new z fixed = record {
      plans = fixed_same old new z ∙ fixed;
      closed = each_place (λ (client : ClientState). client.closed ≡ true) (clients_in new) (λ k client at. (sessions_played old new z k client at).1.closed_is);
    }
