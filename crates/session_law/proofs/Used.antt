-- A fill or show of a session's client was done, or not, as its buffer stood.
use Rattle.std.proofs.Common.{◌≡◌, ◌⊎◌, inl, inr, ℕ, zero, suc, ◌+◌, ◌-◌, ◌<◌, ◌≤◌, Bool, true, false, not, ◌&&◌, ◌||◌, nat_lt, cond, List, [], ◌∷◌, ◌++◌, filter, filter_map, get_or, length, take, drop, Option, Some, None, refl, sym, ap, subst, ◌∙◌, arith, append_assoc, append-nil}
use Rattle.std.specs.Prelude.{unwrap_or}
use Rattle.std.specs.List.{list_any, slice_get}
use Rattle.std.specs.Option.{option_map_or}
use Rattle.std.proofs.lemmas.Bool.{lt-ltb, ltb-false, ltb-true}
use Rattle.std.proofs.lemmas.List.{get_or_past, length-map, take-append-drop, take-map}
use Rattle.std.proofs.lemmas.List.Elements.{filter_map-append}
use Rattle.std.proofs.lemmas.Option.{get_or_from_slice_get}
use Rattle.host_block.proofs.Places.{any_at, from_take, within}
use Rattle.host_memory.specs.{has_blocks, is_released, events}
use Rattle.host_model.specs.{Event, Attached, NotAttached, Filled, Shown, Sent, Received, Drained, Aborted, MemEntry, MemEvent, Fill, Show, Release, is_in_buffer, is_used_rightly, next_client_place, was_closed, was_released, entry_after, is_client, told, all_after, all_with_before, places, sent, sent_bytes, is_release_of, is_end}
use Rattle.host_model.specs.Session.{Session}
use Rattle.host_model.proofs.ListTests.{and-from}
use Rattle.host_intake.specs.{Taking}
use Rattle.host_session.specs.{Fronts, SessionHand, Act, IsEventAfter, entry_place, has_entry, log_of, ClientState, finds_blocks}
use Rattle.session_law.specs.{DoFrontsRise, EndsDrained, IsSessionGathered, ReleaseClosed, UsedRightly}
use Rattle.session_law.proofs.Draining.{drains_come_last}
use Rattle.session_law.proofs.Finding.{from_map}
use Rattle.session_law.proofs.Gathered.{course, envelope_at, index_is, log_same, taken_whole, ts_of}
use Rattle.session_law.proofs.Owners.{IsCloseEntry, close_taken, late_release, released_by_taken}
use Rattle.session_law.proofs.Places.{fewer_told, found_at, from_drop, has_found, only_at, rank, told_here as told_more, unrank, with_before_at}
use Rattle.host_log.proofs.Places.{any_here}
use Rattle.session_law.proofs.Released.{entry_at, events_take, release_is}
use Rattle.session_law.proofs.Seen.{blocks_held, blocks_told, cut_places, told_first, told_here}
use Rattle.session_law.proofs.Sending.{fronts_of, more_sent, sent_by, sent_until}
use Rattle.session_law.proofs.Spots.{told_count}
use Rattle.session_law.proofs.Taken.{row_count}
use Rattle.host_log.proofs.Bools.{either_way}

-- ---- lists

all_from : {A : Type 0} (test : List A → A → Bool) (before xs : List A) → ((n : ℕ) (x : A) → slice_get xs n ≡ Some x → test (before ++ take n xs) x ≡ true) → all_after test before xs ≡ true
all_from test before [] h = refl
all_from test before (x ∷ xs) h =
    and-from (test before x) (all_after test (before ++ x ∷ []) xs)
    (ap (λ l. test l x) (sym (append-nil before)) ∙ h 0 x refl)
    (all_from test (before ++ x ∷ []) xs (λ n y at. ap (λ l. test l y) (append_assoc before (x ∷ []) (take n xs)) ∙ h (suc n) y at))

module _ (client : ClientState) (hands : List SessionHand) (h : List MemEntry) (s : Session) (g : IsSessionGathered client hands h s) (drained : EndsDrained client) (due : ReleaseClosed client.plan.hands h) (find : all_with_before finds_blocks (events h) ≡ true) where
  abbrev acts : List Act
  acts = g.whole.client_of.acts

  rises : DoFrontsRise acts
  rises = fronts_of client.log client.sender.pushed client.taker.taken h client.fronts acts (course client hands h s g)

  log_acts : s.log ≡ log_of acts
  log_acts = sym (log_same client hands h s g) ∙ sym (course client hands h s g).events_are

  first_log : (n : ℕ) → take n s.log ≡ log_of (take n acts)
  first_log n = ap (take n) log_acts ∙ take-map (λ (a : Act). a.event) n acts

  -- ---- the client's entries up to a place

  split_places : (n : ℕ) → places is_client (events h) ≡ filter_map entry_place (take n acts) ++ filter_map entry_place (drop n acts)
  split_places n = (course client hands h s g).places ∙ (ap (filter_map entry_place) (sym (take-append-drop n acts)) ∙ filter_map-append entry_place (take n acts) (drop n acts))

  -- where the entries of the first n acts alone stand below a place, they are the client's entries up to it
  seen_told : (n f : ℕ) → ((m p : ℕ) (a : Act) → slice_get acts m ≡ Some a → m < n → entry_place a ≡ Some p → p < f) → ((m p : ℕ) (a : Act) → slice_get acts m ≡ Some a → n ≤ m → entry_place a ≡ Some p → f ≤ p)
      → filter is_client (take f (events h)) ≡ told (log_of (take n acts))
  seen_told n f early late =
      cut_places is_client (events h) 0 f (filter_map entry_place (take n acts)) (filter_map entry_place (drop n acts)) (split_places n)
      (λ j p at. let r = found_at entry_place (take n acts) j p at in let t = from_take acts n r.0 r.1 r.2 in let e = early r.0 p r.1 t.0 t.1 r.3 in omega arith)
      (λ j p at. let r = found_at entry_place (drop n acts) j p at in let e = late (n + r.0) p r.1 (from_drop acts n r.0 r.1 r.2) (omega arith) r.3 in omega arith)
      ∙ (ap (take (length (filter_map entry_place (take n acts)))) (g.whole.client_of.told.entries ∙ ap told (sym (course client hands h s g).events_are)) ∙ told_first acts n)

  -- ---- one that was done

  at_its_place : (n p : ℕ) (a : Act) (w : MemEvent) → slice_get acts n ≡ Some a → entry_place a ≡ Some p → entry_after (log_of (take n acts)) a.event ≡ Some w → slice_get (events h) p ≡ Some w
  at_its_place n p a w at place is =
      let c : ℕ = length (filter_map entry_place (take n acts)) in
      let there : slice_get (places is_client (events h)) (length (filter_map entry_place (take n acts))) ≡ Some p = ap (λ l. slice_get l (length (filter_map entry_place (take n acts)))) (course client hands h s g).places ∙ has_found entry_place acts n a p at place in
      let u = unrank is_client 0 (events h) (length (filter_map entry_place (take n acts))) p there in
      let z : p ≡ u.0 = let q = u.2 in omega arith in
      let told_so : slice_get (filter is_client (events h)) (length (filter_map entry_place (take n acts))) ≡ Some w =
      ap (λ l. slice_get l (length (filter_map entry_place (take n acts)))) (g.whole.client_of.told.entries ∙ ap told (sym (course client hands h s g).events_are)) ∙ told_here acts n a w at is in
      let same : u.1 ≡ w = only_at (filter is_client (events h)) (length (filter_map entry_place (take n acts))) u.1 w u.5 told_so in
      ap (slice_get (events h)) z ∙ (u.3 ∙ ap Some same)

  -- its blocks are in the buffer, by the log
  done_in : (n v block count : ℕ) (a : Act) (w : MemEvent) → slice_get acts n ≡ Some a → has_entry a.event ≡ true → entry_after (log_of (take n acts)) a.event ≡ Some w → ((before : List MemEvent) → finds_blocks before w ≡ has_blocks v before block count)
      → is_in_buffer (take n s.log) v block count ≡ true
  done_in n v block count a w at has is finds =
      let p : ℕ = a.fronts.memory - 1 in
      let place : entry_place a ≡ Some (a.fronts.memory - 1) = ap (λ b. cond b (Some (a.fronts.memory - 1)) None) has in
      let there = at_its_place n (a.fronts.memory - 1) a w at place is in
      let found : has_blocks v (take (a.fronts.memory - 1) (events h)) block count ≡ true = sym (finds (take (a.fronts.memory - 1) (events h))) ∙ with_before_at finds_blocks (events h) (a.fronts.memory - 1) w find there in
      let held : is_released v (take (a.fronts.memory - 1) (events h)) ≡ false = blocks_held v block count (take (a.fronts.memory - 1) (events h)) found in
      let own : a.fronts.memory - 1 < a.fronts.memory = rises.entered n n (a.fronts.memory - 1) a a at at (omega arith) place in
      let seen : filter is_client (take (a.fronts.memory - 1) (events h)) ≡ told (log_of (take n acts)) = seen_told n (a.fronts.memory - 1)
      (λ m q b bt lt e. let x = rises.entered m m q b b bt bt (omega arith) e in let y = rises.late m n (a.fronts.memory - 1) b a bt at lt place in omega (arith, x, y))
      (λ m q b bt le e. later m q b bt le e own) in
      ap (λ l. is_in_buffer l v block count) (first_log n) ∙ (sym (blocks_told v block count (log_of (take n acts)) (take (a.fronts.memory - 1) (events h)) seen held) ∙ found)
    where
      later : (m q : ℕ) (b : Act) → slice_get acts m ≡ Some b → n ≤ m → entry_place b ≡ Some q → a.fronts.memory - 1 < a.fronts.memory → a.fronts.memory - 1 ≤ q
      later m q b bt le e own = step (nat_lt n m) refl
        where
          step : (x : Bool) → nat_lt n m ≡ x → a.fronts.memory - 1 ≤ q
          step true f = let y = rises.late n m q a b at bt (ltb-true n m f) e in omega (arith, y)
          step false f =
              let z : m ≡ n = let k = ltb-false n m f in omega arith in
              let same : b ≡ a = only_at acts n b a (ap (slice_get acts) (sym z) ∙ bt) at in
              let place : entry_place a ≡ Some q = ap entry_place (sym same) ∙ e in
              let i : ((a.fronts.memory - 1) ≡ q) = place_is has place in omega (arith, i)
            where
              place_is : has_entry a.event ≡ true → entry_place a ≡ Some q → a.fronts.memory - 1 ≡ q
              place_is t k = ap (λ (o : Option ℕ). unwrap_or o q) (sym (ap (λ b. cond b (Some (a.fronts.memory - 1)) None) t) ∙ k)

  -- ---- one that wasn't

  -- the place of the client's next entry is past what it then knew
  next_past : (n q : ℕ) (a : Act) → slice_get acts n ≡ Some a → has_entry a.event ≡ false → q < a.fronts.memory → a.fronts.memory ≤ length h → q < next_client_place s (take n s.log)
  next_past n q a at has lt within_h =
      let c : ℕ = length (filter_map entry_place (take n acts)) in
      let many : length (told (take n s.log)) ≡ length (filter_map entry_place (take n acts)) = ap (λ l. length (told l)) (first_log n) ∙ told_count (take n acts) [] in
      let len : length s.memory ≡ length h = ap length g.memory ∙ length-map h (λ (e : MemEntry). e.what) in
      let is : next_client_place s (take n s.log) ≡ get_or (filter_map entry_place acts) (length (filter_map entry_place (take n acts))) (length s.memory) =
      ap (λ l. get_or l (length (told (take n s.log))) (length s.memory)) (ap (places is_client) g.memory ∙ (course client hands h s g).places) ∙ ap (λ k. get_or (filter_map entry_place acts) k (length s.memory)) many in
      step (slice_get (filter_map entry_place acts) (length (filter_map entry_place (take n acts)))) refl is len
    where
      none : entry_place a ≡ None
      none = ap (λ b. cond b (Some (a.fronts.memory - 1)) None) has

      after : (p m : ℕ) (b : Act) → slice_get acts m ≡ Some b → entry_place b ≡ Some p → length (filter_map entry_place (take n acts)) ≡ length (filter_map entry_place (take m acts)) → n < m
      after p m b bt place same = order (nat_lt n m) refl
        where
          order : (x : Bool) → nat_lt n m ≡ x → n < m
          order true f = ltb-true n m f
          order false f =
              let one = told_more entry_place acts m b p bt place in
              let le = ltb-false n m f in
              absurd (split (nat_lt m n) refl)
            where
              split : (y : Bool) → nat_lt m n ≡ y → ⊥
              split true k = let one = told_more entry_place acts m b p bt place in let few = fewer_told entry_place acts (suc m) n (ltb-true m n k) in omega (arith, one, few, same)
              split false k =
                  let z : m ≡ n = let u = ltb-false m n k in let w = ltb-false n m f in omega arith in
                  let e : b ≡ a = only_at acts n b a (ap (slice_get acts) (sym z) ∙ bt) at in
                  let y : Some p ≡ None = sym place ∙ (ap entry_place e ∙ none) in cc

      step : (o : Option ℕ) → slice_get (filter_map entry_place acts) (length (filter_map entry_place (take n acts))) ≡ o → next_client_place s (take n s.log) ≡ get_or (filter_map entry_place acts) (length (filter_map entry_place (take n acts))) (length s.memory)
          → length s.memory ≡ length h → q < next_client_place s (take n s.log)
      step (Some p) e is len =
          let f = found_at entry_place acts (length (filter_map entry_place (take n acts))) p e in
          let late = rises.late n f.0 p a f.1 at f.2 (after p f.0 f.1 f.2 f.3 f.4) f.3 in
          let v : get_or (filter_map entry_place acts) (length (filter_map entry_place (take n acts))) (length s.memory) ≡ p = get_or_from_slice_get (filter_map entry_place acts) (length (filter_map entry_place (take n acts))) p (length s.memory) e in
          omega (arith, is, v, late, lt)
      step None e is len =
          let v : get_or (filter_map entry_place acts) (length (filter_map entry_place (take n acts))) (length s.memory) ≡ length s.memory = get_or_past (filter_map entry_place acts) (length (filter_map entry_place (take n acts))) (length s.memory) (past (filter_map entry_place acts) (length (filter_map entry_place (take n acts))) e) in
          omega (arith, is, v, len, lt, within_h)
        where
          past : (xs : List ℕ) (k : ℕ) → slice_get xs k ≡ None → length xs ≤ k
          past [] k f = omega arith
          past (x ∷ xs) zero f = absurd (cc)
          past (x ∷ xs) (suc k) f = let r = past xs k f in omega arith

  -- the record that closed the buffer was sent before
  closed_before : (n c i v : ℕ) (a : Act) → slice_get acts n ≡ Some a → sent_bytes a.event ≡ None → c < a.fronts.memory → IsCloseEntry client hands h s g drained due c i v → was_closed s (take n s.log) v ≡ true
  closed_before n c i v a at quiet lt close =
      let ts : List Taking = ts_of client hands h s g in
      let t : Taking = close.taking in
      let k = sent_by client.log client.sender.pushed client.taker.taken h client.fronts acts (course client hands h s g) i t.envelope (envelope_at client hands h s g i t close.stands) in
      let b : Act = k.1 in
      let index : t.envelope.index ≡ i = index_is client hands h s g i t close.stands in
      let front : t.envelope.memory_front ≤ t.seen = ((taken_whole client hands h s g).judged i t close.stands).front in
      let known : t.envelope.memory_front ≡ b.fronts.memory = ap (λ (f : Fronts). f.memory) (rises.sent k.0 b t.envelope k.2.at k.2.envelope) in
      let before : k.0 < n = order k.0 b t.envelope.bytes k.2.at k.2.bytes (let p = close.place in omega (arith, front, known, p, lt)) in
      let more : sent_until acts (suc k.0) ≤ sent_until acts n = more_sent acts (suc k.0) n before in
      let last : sent_until acts (suc k.0) ≡ t.envelope.index + 1 = k.2.after in
      let count : length (sent (take n s.log)) ≡ sent_until acts n = ap (λ l. length (sent l)) (first_log n) in
      let early : nat_lt i (length (sent (take n s.log))) ≡ true = lt-ltb i (length (sent (take n s.log))) (omega (arith, more, last, count, index)) in
      let w = within (ts_of client hands h s g) i t close.stands in
      let rows = row_count client hands h s g drained due in
      let taken : nat_lt i (length s.rows) ≡ true = lt-ltb i (length s.rows) (omega (arith, w, rows)) in
      ap (λ o. option_map_or (λ j. nat_lt j (length (sent (take n s.log))) && nat_lt j (length s.rows)) o false) (close_taken client hands h s g drained due i v t close.stands close.closing)
      ∙ and-from (nat_lt i (length (sent (take n s.log)))) (nat_lt i (length s.rows)) early taken
    where
      order : (k : ℕ) (b : Act) (bytes : List ℕ) → slice_get acts k ≡ Some b → sent_bytes b.event ≡ Some bytes → b.fronts.memory < a.fronts.memory → k < n
      order k b bytes bt is less = step (nat_lt k n) refl
        where
          step : (x : Bool) → nat_lt k n ≡ x → k < n
          step true f = ltb-true k n f
          step false f = absurd (let w = (rises.known n k a b at bt (ltb-false k n f)).memory in omega (arith, w, less))

  -- a buffer whose blocks weren't found had too few by the log, or had been closed and was released
  left_undone : (n v block count : ℕ) (a : Act) → slice_get acts n ≡ Some a → has_entry a.event ≡ false → sent_bytes a.event ≡ None → is_end a.event ≡ false → a.fronts.memory ≤ length h → has_blocks v (events (take a.fronts.memory h)) block count ≡ false
      → (not (is_in_buffer (take n s.log) v block count) || was_released s (take n s.log) v) ≡ true
  left_undone n v block count a at has quiet no_end within_h none = step (is_released v (take a.fronts.memory (events h))) refl
    where
      seen : filter is_client (take a.fronts.memory (events h)) ≡ told (log_of (take n acts))
      seen = seen_told n a.fronts.memory
          (λ m q b bt lt e. let x = rises.entered m n q b a bt at (omega arith) e in omega (arith, x))
          (λ m q b bt le e. later m q b bt le e (nat_lt n m) refl)
        where
          later : (m q : ℕ) (b : Act) → slice_get acts m ≡ Some b → n ≤ m → entry_place b ≡ Some q → (x : Bool) → nat_lt n m ≡ x → a.fronts.memory ≤ q
          later m q b bt le e true f = let y = rises.late n m q a b at bt (ltb-true n m f) e in omega (arith, y)
          later m q b bt le e false f =
              let z : m ≡ n = let k = ltb-false n m f in omega arith in
              let same : b ≡ a = only_at acts n b a (ap (slice_get acts) (sym z) ∙ bt) at in
              absurd (let y : Some q ≡ None = sym e ∙ (ap entry_place same ∙ ap (λ d. cond d (Some (a.fronts.memory - 1)) None) has) in cc)

      step : (x : Bool) → is_released v (take a.fronts.memory (events h)) ≡ x → (not (is_in_buffer (take n s.log) v block count) || was_released s (take n s.log) v) ≡ true
      step false f =
          let no : is_in_buffer (take n s.log) v block count ≡ false =
          ap (λ l. is_in_buffer l v block count) (first_log n) ∙ (sym (blocks_told v block count (log_of (take n acts)) (take a.fronts.memory (events h)) seen f)
          ∙ (ap (λ l. has_blocks v l block count) (sym (events_take h a.fronts.memory)) ∙ none)) in
          ap (λ b. not b || was_released s (take n s.log) v) no
      step true f =
          let r = any_at (is_release_of v) (take a.fronts.memory (events h)) f in
          let p = from_take (events h) a.fronts.memory r.0 r.1 r.2 in
          let e = entry_at h r.0 r.1 p.0 in
          let what : e.0.what ≡ Release v = e.2 ∙ release_is v r.1 r.3 in
          either_way (is_in_buffer (take n s.log) v block count) (was_released s (take n s.log) v)
          (released r.0 r.1 e.0 p.1 e.1 what p.0 r.3 (released_by_taken client hands h s g drained due r.0 v e.0 e.1 what))
        where
          released : (q : ℕ) (w : MemEvent) (e : MemEntry) → q < a.fronts.memory → slice_get h q ≡ Some e → e.what ≡ Release v → slice_get (events h) q ≡ Some w → is_release_of v w ≡ true
              → (e.hand ≡ client.plan.hands) ⊎ ((c : ℕ) × (i : ℕ) × (c < q) × IsCloseEntry client hands h s g drained due c i v) → was_released s (take n s.log) v ≡ true
          released q w e lt there what wt is (inl own) =
              absurd (let l = late_release client hands h s g drained due q v n e a there own what at no_end in omega (arith, l, lt))
          released q w e lt there what wt is (inr c) =
              let closed : was_closed s (take n s.log) v ≡ true = closed_before n c.0 c.1 v a at quiet (let l = c.2 in omega (arith, l, lt)) c.3 in
              let k = rank (is_release_of v) 0 s.memory q w (ap (λ l. slice_get l q) g.memory ∙ wt) is in
              let z : 0 + q ≡ q = omega arith in
              let next : nat_lt q (next_client_place s (take n s.log)) ≡ true = lt-ltb q (next_client_place s (take n s.log)) (next_past n q a at has lt within_h) in
              and-from (was_closed s (take n s.log) v) (list_any (λ x. nat_lt x (next_client_place s (take n s.log))) (places (is_release_of v) s.memory)) closed
              (any_here (λ x. nat_lt x (next_client_place s (take n s.log))) (places (is_release_of v) s.memory) k.0 q (k.2 ∙ ap Some z) next)

  -- ---- each event

  event_used : (n : ℕ) (a : Act) (e : Event) → slice_get acts n ≡ Some a → a.event ≡ e → IsEventAfter h (take n acts) a e → is_used_rightly s (take n s.log) e ≡ true
  event_used n a (Attached pages id) at same is = refl
  event_used n a (NotAttached pages cause) at same is = refl
  event_used n a (Filled v block count byte true) at same is =
      done_in n v block count a (Fill v block count byte) at (ap has_entry same) (ap (entry_after (log_of (take n acts))) same) (λ before. refl)
  event_used n a (Filled v block count byte false) at same is =
      left_undone n v block count a at (ap has_entry same) (ap sent_bytes same) (ap is_end same) is.within is.none
  event_used n a (Shown v block count true bytes) at same is =
      done_in n v block count a (Show v block count) at (ap has_entry same) (ap (entry_after (log_of (take n acts))) same) (λ before. refl)
  event_used n a (Shown v block count false bytes) at same is =
      left_undone n v block count a at (ap has_entry same) (ap sent_bytes same) (ap is_end same) is.within is.none
  event_used n a (Sent index bytes) at same is = refl
  event_used n a (Received bytes) at same is = refl
  event_used n a Drained at same is = refl
  event_used n a Aborted at same is = refl

  pub used_so : all_with_before (is_used_rightly s) s.log ≡ true
  used_so = all_from (is_used_rightly s) [] s.log (λ n e at.
      let r = from_map (λ (x : Act). x.event) acts n e (ap (λ l. slice_get l n) (sym log_acts) ∙ at) in
      let is = (course client hands h s g).each n r.0 r.1 in
      event_used n r.0 e r.1 r.2 (subst (λ x. IsEventAfter h (take n acts) r.0 x) r.2 is))

pub used_rightly : UsedRightly
used_rightly client hands h s g told due = used_so client hands h s g (drains_come_last client hands h s g told) due g.whole.client_of.told.found
