-- All parts of a server are put together.
use Rattle.std.proofs.Common.{◌≡◌, ◌≢◌, ℕ, zero, suc, ◌+◌, ◌<◌, Bool, true, ◌||◌, List, [], ◌∷◌, ◌++◌, length, map, All, Some, refl, sym, ap, ap₂, subst, ◌∙◌, arith}
use Rattle.std.specs.Prelude.{slice_get, slice_index_or, sum_by}
use Rattle.std.specs.List.{cons_option, list_any}
use Rattle.std.proofs.lemmas.List.{length-map}
use Rattle.std.proofs.lemmas.List.Sums.{sum_by-cons}
use Rattle.std.proofs.lemmas.Option.{slice_get-get_or, slice_get_within}
use Rattle.host_device.specs.{Device, DeviceFixed, fixed_of, shape_of, steps_of}
use Rattle.host_frames.specs.{PoolSeat, SomeSeatRefused, frames_asked, frame_count, given_back, granted}
use Rattle.host_log.specs.{total, Continues, entries_of}
use Rattle.host_hand.specs.{frames_out, KeepsSession}
use Rattle.host_io.specs.declared.disk.Disk as disk
use Rattle.host_model.specs.{Event, Step}
use Rattle.host_report.specs.{SessionReport, is_short_of_frames, pages_asked, pages_asked_by, ran_short}
use Rattle.host_session.specs.{SessionHand, ClientState, AreAllHands, IsHand, IsShared, SessionPlan, IsSessionWhole}
use Rattle.host_turn.specs.{BookSeat, number, opening_of, seen_by}
use Rattle.crossbeam_utils.specs.Padded.{padded_value}
use Rattle.host_worker.specs.{Hand, Server, Session, AreAccounted, frames_of, pages_wanted, pool_seats_of, AreEnded, HandEnd, IsSessionEnd, IsStory, ends_seen, frames_by, frames_from, hand_end, shares_in, AreBack, AreClosed, AreHands, AreSessionsEnded, AreToEnd, parts_in, AreNamed, IsServer, block_size, keeps_of, plan_of_session, shared_of}
use Rattle.host_log.proofs.Places.{some_at}
use Rattle.host_worker.proofs.Lists.{at_place, each_place, map_at, map_from}
use Rattle.host_worker.proofs.Taking.{all_parts, part_at}

-- ---- sums and searches over lists that agree

any_map : {A B : Type 0} (p : B → Bool) (f : A → B) (xs : List A) → list_any p (map f xs) ≡ list_any (λ x. p (f x)) xs
any_map p f [] = refl
any_map p f (x ∷ xs) = ap (λ b. p (f x) || b) (any_map p f xs)

sum_map : {A B : Type 0} (p : B → ℕ) (f : A → B) (xs : List A) → sum_by p (map f xs) ≡ sum_by (λ x. p (f x)) xs
sum_map p f [] = refl
sum_map p f (x ∷ xs) = sum_by-cons p (f x) (map f xs) ∙ (ap (λ n. p (f x) + n) (sum_map p f xs) ∙ sym (sum_by-cons (λ y. p (f y)) x xs))

abbrev log_of : SessionReport → List Event
log_of e = e.log.items

logs_same : (ends : List SessionReport) (clients : List ClientState) → length ends ≡ length clients → ((k : ℕ) (e : SessionReport) (c : ClientState) → slice_get ends k ≡ Some e → slice_get clients k ≡ Some c → e.log.items ≡ c.log) → map log_of ends ≡ map (λ (c : ClientState). c.log) clients
logs_same [] [] n f = refl
logs_same [] (c ∷ clients) n f = absurd (omega (arith, n))
logs_same (e ∷ ends) [] n f = absurd (omega (arith, n))
logs_same (e ∷ ends) (c ∷ clients) n f = ap₂ (λ (a : List Event) (b : List (List Event)). a ∷ b) (f zero e c refl refl) (logs_same ends clients (omega (arith, n)) (λ k x y s t. f (suc k) x y s t))

module _ {D : Type 0} {g : disk.Ghosts D} where
  module _ (server : Server D g) (running : IsServer server) (hands : List (Hand D g)) (own : AreHands server hands) (clients : List ClientState) (shut : AreClosed server clients)
      (sessions : List Session) (back : AreBack hands server.sessions.items sessions) where
    -- each hand has a part of each session
    parts_there : (k : ℕ) → k < length server.sessions.items → All (λ (hand : Hand D g). k < length hand.sessions.items) hands
    parts_there k less = each_place (λ (hand : Hand D g). k < length hand.sessions.items) hands (λ n hand at. let o = own.each n hand at in omega (arith, less, o.1.count))

    plan_at : (k : ℕ) (s : Session) (c : ClientState) → slice_get server.sessions.items k ≡ Some s → slice_get clients k ≡ Some c → c.plan ≡ plan_of_session s
    plan_at k s c at at' =
        let e : Some c.plan ≡ Some (plan_of_session s) = sym (map_at (λ (x : ClientState). x.plan) clients k c at') ∙ (ap (λ (l : List SessionPlan). slice_get l k) shut.plans ∙ map_at plan_of_session server.sessions.items k s at) in
        cc e

    client_count : length clients ≡ length server.sessions.items
    client_count = sym (length-map clients (λ (x : ClientState). x.plan)) ∙ (ap length shut.plans ∙ length-map server.sessions.items plan_of_session)

    size_at : (k : ℕ) (c : ClientState) → slice_get clients k ≡ Some c → c.plan.spec.size ≡ block_size server
    size_at k c here =
        let s = some_at server.sessions.items k (omega (arith, client_count, slice_get_within clients k c here)) in
        let r = running.sessions k s.0 s.1 in
        ap (λ (q : SessionPlan). q.spec.size) (plan_at k s.0 c s.1 here) ∙ (ap (λ x. x.size) r.spec ∙ r.size_is)

    empty_before : (k : ℕ) (s : Session) → slice_get server.sessions.items k ≡ Some s → s.hands.items ≡ []
    empty_before k s at = (running.sessions k s at).room.0

    all_hands : (k : ℕ) (s s' : Session) (c : ClientState) → slice_get server.sessions.items k ≡ Some s → slice_get sessions k ≡ Some s' → slice_get clients k ≡ Some c → AreAllHands c.plan s'.hands.items
    all_hands k s s' c at at' here =
        let e = back.each k s s' at at' in
        let are : s'.hands.items ≡ parts_in k hands = e.3 ∙ ap (λ (l : List SessionHand). l ++ parts_in k hands) (empty_before k s at) in
        let p = plan_at k s c at here in
        let there = parts_there k (slice_get_within server.sessions.items k s at) in (
          ap length are ∙ (all_parts k hands there ∙ (own.count ∙ (sym (running.sessions k s at).plan.0 ∙ ap (λ (q : SessionPlan). q.hands) (sym p)))),
          λ n d less.
              let h = slice_index_or s'.hands.items n d in
              let found : slice_get (parts_in k hands) n ≡ Some h = ap (λ (l : List SessionHand). slice_get l n) (sym are) ∙ slice_get-get_or s'.hands.items n d less in
              let x = part_at k hands there n h found in
              let o = own.each n x.0 x.1 in
              let part = o.1.each k s h at x.2 in
              subst (λ (q : SessionPlan). IsHand q n h) (sym p) (subst (λ (j : ℕ). IsHand (plan_of_session s) j h) o.0 part.hand),
        )

    pub to_end : AreToEnd (keeps_of server) sessions clients
    to_end = record {
      count = client_count ∙ sym back.count;
      each = λ k s' c at' here.
          let s = some_at server.sessions.items k (omega (arith, back.count, slice_get_within sessions k s' at')) in
          let e = back.each k s.0 s' s.1 at' in
          let p = plan_at k s.0 c s.1 here in
          let r = running.sessions k s.0 s.1 in
          record {
            spec = ap (λ (q : SessionPlan). q.spec) p ∙ (r.spec ∙ sym e.0);
            shared = subst (λ (q : SessionPlan). IsShared q (shared_of s')) (sym p) (subst (λ x. IsShared (plan_of_session s.0) (padded_value x)) (sym e.1) r.shared);
            hands = all_hands k s.0 s' c s.1 at' here;
            closed = at_place (λ (x : ClientState). x.closed ≡ true) clients k c shut.closed here;
            keeps_is = ap (λ (q : SessionPlan). q.spec.keeps) p ∙ (ap (λ x. x.keeps) r.spec ∙ r.keeps_is);
          };
    }

    -- ---- as it ended

    shares_are : (k : ℕ) (xs : List (Hand D g)) → shares_in k (map hand_end xs) ≡ parts_in k xs
    shares_are k [] = refl
    shares_are k (x ∷ xs) = ap (λ (l : List SessionHand). cons_option (slice_get x.sessions.items k) l) (shares_are k xs)

    module _ (ends : List SessionReport) (ended : AreSessionsEnded sessions clients ends) where
      session_end : (k : ℕ) (c : ClientState) (e : SessionReport) → slice_get clients k ≡ Some c → slice_get ends k ≡ Some e → IsSessionEnd k c (map hand_end hands) e
      session_end k c e here there =
          let s = some_at server.sessions.items k (omega (arith, client_count, slice_get_within clients k c here)) in
          let s' = some_at sessions k (omega (arith, back.count, client_count, slice_get_within clients k c here)) in
          let b = back.each k s.0 s'.0 s.1 s'.1 in
          let p = plan_at k s.0 c s.1 here in
          let r = running.sessions k s.0 s.1 in
          let d = ended.each k s'.0 c e s'.1 here there in
          let spec : c.plan.spec ≡ s.0.spec = ap (λ (q : SessionPlan). q.spec) p ∙ r.spec in
          let are : s'.0.hands.items ≡ shares_in k (map hand_end hands) = b.3 ∙ (ap (λ (l : List SessionHand). l ++ parts_in k hands) (empty_before k s.0 s.1) ∙ sym (shares_are k hands)) in
          record {
            number_is = (d.spec.0 ∙ (ap (λ x. x.number) b.0 ∙ r.number), ap (λ x. x.number) spec ∙ r.number);
            plan = (
              d.spec.1 ∙ (ap (λ x. x.part_number) b.0 ∙ ap (λ x. x.part_number) (sym spec)),
              d.spec.2 ∙ (ap (λ x. x.part) b.0 ∙ ap (λ x. x.part) (sym spec)),
              ap (λ (q : SessionPlan). q.hands) p ∙ (r.plan.0 ∙ (sym own.count ∙ sym (length-map hands (hand_end {D = D} {g = g})))),
            );
            finish_is = d.finish;
            there = λ n x at.
                let w = map_from hand_end hands n x at in
                let o = own.each n w.0 w.1 in
                subst (λ (y : HandEnd). k < length y.shares) (sym w.2) (omega (arith, o.1.count, slice_get_within server.sessions.items k s.0 s.1));
            whole = subst (λ (l : List SessionHand). IsSessionWhole c l e.log.items e.taken.items e.memory.items) are d.whole;
            kept = λ n x h at at'.
                let w = map_from hand_end hands n x at in
                let o = own.each n w.0 w.1 in
                let part = o.1.each k s.0 h s.1 (ap (λ (y : HandEnd). slice_get y.shares k) (sym w.2) ∙ at') in (
                  subst (λ (q : SessionPlan). IsHand q n h) (sym p) (subst (λ (j : ℕ). IsHand (plan_of_session s.0) j h) o.0 part.hand),
                  subst (λ (y : HandEnd). KeepsSession c.plan.spec n h y.steps) (sym w.2)
                      (subst (λ q. KeepsSession q n h (seen_by w.0.device_seat)) (sym spec) (subst (λ (j : ℕ). KeepsSession s.0.spec j h (seen_by w.0.device_seat)) o.0 part.keeps)),
                );
          }

      logs_are : map log_of ends ≡ map (λ (c : ClientState). c.log) clients
      logs_are = logs_same ends clients (ended.count ∙ (back.count ∙ sym client_count)) (λ k e c at at'.
          let s' = some_at sessions k (omega (arith, ended.count, slice_get_within ends k e at)) in
          (ended.each k s'.0 c e s'.1 at' at).whole.log_is)

      -- ---- steps

      module _ (story : List Step)
          (seats : All (λ q. Continues (λ (step : Step). step.hand) (number q) (seen_by q) story) (map (λ (hand : Hand D g). hand.device_seat) hands))
          (others : (n : ℕ) → All (λ q. number q ≢ n) (map (λ (hand : Hand D g). hand.device_seat) hands) → entries_of (λ (step : Step). step.hand) n story ≡ entries_of (λ (step : Step). step.hand) n (steps_of (opening_of server.device)).items) where
        pub is_story : IsStory (length clients) (map hand_end hands) story
        is_story = record {
          of_hands = λ n x at.
              let w = map_from hand_end hands n x at in
              let o = own.each n w.0 w.1 in
              let c = at_place (λ q. Continues (λ (step : Step). step.hand) (number q) (seen_by q) story) (map (λ (hand : Hand D g). hand.device_seat) hands) n w.0.device_seat seats (map_at (λ (hand : Hand D g). hand.device_seat) hands n w.0 w.1) in
              subst (λ (y : HandEnd). Continues (λ (step : Step). step.hand) n y.steps story) (sym w.2)
              (subst (λ (j : ℕ). Continues (λ (step : Step). step.hand) j (seen_by w.0.device_seat) story) (o.1.device.number_is ∙ o.0) c);
          others = λ n le.
              others n (each_place (λ q. number q ≢ n) (map (λ (hand : Hand D g). hand.device_seat) hands) (λ k q at.
              let w = map_from (λ (hand : Hand D g). hand.device_seat) hands k q at in
              let o = own.each k w.0 w.1 in
              λ e. omega (arith, le, slice_get_within hands k w.0 w.1, length-map hands (hand_end {D = D} {g = g}), ap number w.2, o.1.device.number_is, o.0, e)))
              ∙ ap (λ (l : List Step). entries_of (λ (step : Step). step.hand) n l) running.device.0;
          named = λ n x at.
              let w = map_from hand_end hands n x at in
              let o = own.each n w.0 w.1 in
              subst (λ (y : HandEnd). AreNamed (length clients) n y.steps) (sym w.2)
              (subst (λ (j : ℕ). AreNamed (length clients) j (seen_by w.0.device_seat)) o.0
              (subst (λ (m : ℕ). AreNamed m w.0.number (seen_by w.0.device_seat)) (sym client_count) o.1.named));
        }

  -- ---- frames

  frames_same : (n : ℕ) (hands : List (Hand D g)) → ((k : ℕ) (hand : Hand D g) → slice_get hands k ≡ Some hand → hand.number ≡ n + k) → frames_from n (map hand_end hands) ≡ sum_by frames_of hands
  frames_same n [] f = refl
  frames_same n (hand ∷ hands) f =
      let first : frames_by n (hand_end hand) ≡ frames_of hand = let e = f zero hand refl in ap (λ (j : ℕ). sum_by (frames_out j) hand.sessions.items) (sym (e ∙ plus_zero n)) in
      let rest = frames_same (n + 1) hands (λ k x at. f (suc k) x at ∙ one_on n k) in
      ap₂ (λ (a b : ℕ). a + b) first rest ∙ sym (sum_by-cons frames_of hand hands)
    where
      plus_zero : (n : ℕ) → n + 0 ≡ n
      plus_zero n = omega arith

      one_on : (n k : ℕ) → n + suc k ≡ (n + 1) + k
      one_on n k = omega arith

  -- ---- all of it

  pub all_ended : (server : Server D g) (running : IsServer server) (hands : List (Hand D g)) (own : AreHands server hands) (clients : List ClientState) (shut : AreClosed server clients) (sessions : List Session) (back : AreBack hands server.sessions.items sessions)
      (accounted : AreAccounted hands clients) (reports : List SessionReport) (keeps : Bool) (ended : AreSessionsEnded sessions clients reports) (story : List Step) (home size : ℕ)
      → size ≡ block_size server
      → All (λ q. Continues (λ (step : Step). step.hand) (number q) (seen_by q) story) (map (λ (hand : Hand D g). hand.device_seat) hands)
      → ((n : ℕ) → All (λ q. number q ≢ n) (map (λ (hand : Hand D g). hand.device_seat) hands) → entries_of (λ (step : Step). step.hand) n story ≡ entries_of (λ (step : Step). step.hand) n (steps_of (opening_of server.device)).items)
      → home + total granted (pool_seats_of hands) ≡ 4096 + total given_back (pool_seats_of hands)
      → (SomeSeatRefused 4096 (pool_seats_of hands) → 4096 < total frames_asked (pool_seats_of hands))
      → AreEnded clients (map hand_end hands) (record { sessions = reports; keeps = keeps; frames_home = home; story = story; size = size })
  all_ended server running hands own clients shut sessions back accounted reports keeps ended story home size size_is seats others homes refused =
      let logs = logs_are server running hands own clients shut sessions back reports ended in
      let short_same : ran_short reports ≡ list_any (λ (c : ClientState). list_any is_short_of_frames c.log) clients =
      sym (any_map (list_any is_short_of_frames) log_of reports) ∙ (ap (λ (l : List (List Event)). list_any (list_any is_short_of_frames) l) logs ∙ any_map (list_any is_short_of_frames) (λ (c : ClientState). c.log) clients) in
      let asked_same : pages_asked reports ≡ sum_by pages_wanted clients =
      sym (sum_map (sum_by pages_asked_by) log_of reports) ∙ (ap (λ (l : List (List Event)). sum_by (sum_by pages_asked_by) l) logs ∙ sum_map (sum_by pages_asked_by) (λ (c : ClientState). c.log) clients) in
      let taken : frames_from 0 (map hand_end hands) ≡ sum_by frames_of hands = frames_same 0 hands (λ k hand at. (own.each k hand at).0 ∙ from_zero k) in
      record {
        count = ended.count ∙ (back.count ∙ sym (client_count server running hands own clients shut sessions back));
        each = λ k c e here there. session_end server running hands own clients shut sessions back reports ended k c e here there;
        sizes = each_place (λ (c : ClientState). c.plan.spec.size ≡ size) clients (λ k c here. size_at server running hands own clients shut sessions back k c here ∙ sym size_is);
        shares = each_place (λ (x : HandEnd). length x.shares ≡ length clients) (map hand_end hands) (λ n x at.
            let w = map_from hand_end hands n x at in
            ap (λ (y : HandEnd). length y.shares) w.2 ∙ ((own.each n w.0 w.1).1.count ∙ sym (client_count server running hands own clients shut sessions back)));
        steps = is_story server running hands own clients shut sessions back reports ended story seats others;
        home = omega (arith, homes, accounted.granted_are, accounted.given_back_are, taken);
        short = λ e. omega (arith, refused (accounted.refused (sym short_same ∙ e)), accounted.asked_are, asked_same);
      }
    where
      from_zero : (k : ℕ) → k ≡ 0 + k
      from_zero k = omega arith

  pub finished : (server : Server D g) (running : IsServer server) (hands : List (Hand D g)) (own : AreHands server hands) (clients : List ClientState) (shut : AreClosed server clients) (sessions : List Session) (back : AreBack hands server.sessions.items sessions)
      (accounted : AreAccounted hands clients) (reports : List SessionReport) (keeps : Bool) (ended : AreSessionsEnded sessions clients reports) (device : Device D g) (home : ℕ) (device_seats : List (BookSeat (Device D g) Step (DeviceFixed D))) (pool_seats : List PoolSeat)
      → device_seats ≡ map (λ (hand : Hand D g). hand.device_seat) hands
      → pool_seats ≡ pool_seats_of hands
      → fixed_of device ≡ fixed_of (opening_of server.device)
      → All (λ q. Continues (λ (step : Step). step.hand) (number q) (seen_by q) (steps_of device).items) device_seats
      → ((n : ℕ) → All (λ q. number q ≢ n) device_seats → entries_of (λ (step : Step). step.hand) n (steps_of device).items ≡ entries_of (λ (step : Step). step.hand) n (steps_of (opening_of server.device)).items)
      → home + total granted pool_seats ≡ frame_count server.pool + total given_back pool_seats
      → (SomeSeatRefused (frame_count server.pool) pool_seats → frame_count server.pool < total frames_asked pool_seats)
      → AreEnded clients (map hand_end hands) (ends_seen reports keeps home (steps_of device).items (shape_of device).size)
  finished server running hands own clients shut sessions back accounted reports keeps ended device home device_seats pool_seats d_are p_are fixed seats others homes refused =
      let frames : frame_count server.pool ≡ 4096 = running.pool.0 in
      all_ended server running hands own clients shut sessions back accounted reports keeps ended (steps_of device).items home (shape_of device).size
      (ap (λ (f : DeviceFixed D). f.size) fixed)
      (subst (λ l. All (λ q. Continues (λ (step : Step). step.hand) (number q) (seen_by q) (steps_of device).items) l) d_are seats)
      (λ n all. others n (subst (λ l. All (λ q. number q ≢ n) l) (sym d_are) all))
      (subst (λ (l : List PoolSeat). home + total granted l ≡ 4096 + total given_back l) p_are (homes ∙ ap (λ (n : ℕ). n + total given_back pool_seats) frames))
      (subst (λ (l : List PoolSeat). SomeSeatRefused 4096 l → 4096 < total frames_asked l) p_are (subst (λ (n : ℕ). SomeSeatRefused n pool_seats → n < total frames_asked pool_seats) frames refused))
