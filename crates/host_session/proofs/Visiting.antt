-- What is true of a client end stays true as it visits the buffers.
use Rattle.std.proofs.Common.{◌≡◌, ℕ, ◌+◌, ◌-◌, ◌≤◌, true, false, not, ◌&&◌, ◌||◌, cond, IsTrue, List, [], ◌∷◌, ◌++◌, length, take, filter, Some, None, refl, sym, ap, ap₂, subst, ◌∙◌, arith, length-append, append-nil, nat_eq}
use Rattle.std.specs.List.{cons_option, list_all, list_any, range_with_len}
use Rattle.std.proofs.lemmas.Bool.{eq-eqb}
use Rattle.std.proofs.lemmas.List.{map-append, take_at}
use Rattle.atomic_table.specs.Seated.{TableId}
use Rattle.host_turn.specs.{BookSeat, IsOutside, IsSameSeat, seen_by}
use Rattle.std.proofs.lemmas.List.Folds.{list_all-append, list_any-append}
use Rattle.std.proofs.lemmas.List.Elements.{filter-append, filter_map-append}
use Rattle.host_intake.specs.{MemorySeat}
use Rattle.host_memory.specs.{has_blocks, is_numbered, events}
use Rattle.host_model.specs.{Event, MemEntry, MemEvent, Attach, Fill, Show, Pin, Lift, Land, Done, Release, entry_after, is_client, all_with_before, count, map_with_before, given, given_id, received_bytes, sent_bytes, sent_index, found_by, shown_bytes, is_end, runs_out_rightly}
use Rattle.host_model.specs.declared.memory.MemEvent.TheVariants as mem
use Rattle.host_model.proofs.ListTests.{and-from, both}
use Rattle.host_log.specs.{entries_of}
use Rattle.host_session.specs.{Fronts, Act, FoundNoBlocks, HasPlace, IsCourse, IsEventAfter, fronts_after, has_entry, with_event, with_visit, AreWithin, ClientState, is_aborted, room_left, IsClient, IsSeatIn, id_limit, memory_plan, IsClientTold, finds_blocks, is_by_client, is_release, IsVisit, entry_by}
use Rattle.host_session.proofs.Blocks.{found_more, found_rest}
use Rattle.host_session.proofs.Course.{course_entry, course_quiet, course_seen, no_client}
use Rattle.host_session.proofs.Keeping.{log_given, log_quiet, none_late, one_more_fits, told_quiet}
use Rattle.host_session.proofs.Snoc.{filter_rest, told_append, told_one, told_rest}
use Rattle.host_memory.proofs.Pushed.{filter_add, filter_skip}
use Rattle.host_log.proofs.Places.{nothing_more}

-- only a show finds something
pub finds_none : (size : ℕ) (before : List MemEvent) (e : MemEvent) → is_client e ≡ false → found_by size before e ≡ None
finds_none size before (Attach id pages from) n = refl
finds_none size before (Fill id block cnt byte) n = refl
finds_none size before (Show id block cnt) n = absurd (cc n)
finds_none size before (Pin index id by) n = refl
finds_none size before (Lift index k id block bytes) n = refl
finds_none size before (Land index k id block bytes) n = refl
finds_none size before (Done index id) n = refl
finds_none size before (mem.Close index id) n = refl
finds_none size before (Release id) n = refl

by_client : (e : MemEvent) → is_client e ≡ true → is_by_client e ≡ true
by_client e is = ap (λ b. b || is_release e) is

no_release : (e : MemEvent) → is_client e ≡ true → is_release e ≡ false
no_release (Attach id pages from) n = refl
no_release (Fill id block cnt byte) n = refl
no_release (Show id block cnt) n = refl
no_release (Pin index id by) n = absurd (cc n)
no_release (Lift index k id block bytes) n = absurd (cc n)
no_release (Land index k id block bytes) n = absurd (cc n)
no_release (Done index id) n = absurd (cc n)
no_release (mem.Close index id) n = absurd (cc n)
no_release (Release id) n = absurd (cc n)

pub own_append : (c : ℕ) (xs ys : List MemEntry) → entries_of (λ e. e.hand) c (xs ++ ys) ≡ entries_of (λ e. e.hand) c xs ++ entries_of (λ e. e.hand) c ys
own_append c xs ys = filter-append (λ (e : MemEntry). nat_eq e.hand c) xs ys

own_one : (c : ℕ) (xs : List MemEntry) (w : MemEvent) → entries_of (λ e. e.hand) c (xs ++ entry_by c w ∷ []) ≡ entries_of (λ e. e.hand) c xs ++ entry_by c w ∷ []
own_one c xs w = filter_add (λ (e : MemEntry). nat_eq e.hand c) xs (entry_by c w) (eq-eqb c c refl)

-- ---- the history is longer, with nothing of the client's

module _ (c size : ℕ) (log : List Event) (h rest : List MemEntry) (none : filter is_client (events rest) ≡ []) (own : entries_of (λ e. e.hand) c (h ++ rest) ≡ entries_of (λ e. e.hand) c h) where
  pub told_seen : IsClientTold c size log h → IsClientTold c size log (h ++ rest)
  told_seen t = record {
    entries = ap (filter is_client) (map-append (λ (e : MemEntry). e.what) h rest) ∙ (filter_rest is_client (events h) (events rest) none ∙ t.entries);
    ids = t.ids;
    shows = t.shows ∙ sym (ap (map_with_before (found_by size)) (map-append (λ (e : MemEntry). e.what) h rest) ∙ told_rest (found_by size) is_client (finds_none size) (events h) (events rest) none);
    found = ap (all_with_before finds_blocks) (map-append (λ (e : MemEntry). e.what) h rest) ∙ found_rest (events h) (events rest) none t.found;
    own = ap (λ l. list_all is_by_client (events l)) own ∙ t.own;
  }

-- ---- one entry more of the client's

module _ (c size : ℕ) (log : List Event) (h : List MemEntry) (ev : Event) (w : MemEvent) (client : is_client w ≡ true) (entry : entry_after log ev ≡ Some w) where
  pub told_entry : given (log ++ ev ∷ []) ≡ range_with_len 1 (length (given (log ++ ev ∷ []))) → shown_bytes ev ≡ found_by size (events h) w → finds_blocks (events h) w ≡ true → IsClientTold c size log h → IsClientTold c size (log ++ ev ∷ []) (h ++ entry_by c w ∷ [])
  told_entry ids shown finds t = record {
    entries = ap (filter is_client) (map-append (λ (e : MemEntry). e.what) h (entry_by c w ∷ []))
        ∙ (filter_add is_client (events h) w client ∙ (ap (λ l. l ++ w ∷ []) t.entries ∙ sym (told_one entry_after log ev w entry)));
    ids = ids;
    shows = filter_map-append shown_bytes log (ev ∷ [])
        ∙ (ap₂ (λ l o. l ++ cons_option o []) t.shows shown
        ∙ sym (ap (map_with_before (found_by size)) (map-append (λ (e : MemEntry). e.what) h (entry_by c w ∷ [])) ∙ told_append (found_by size) (events h) w));
    found = ap (all_with_before finds_blocks) (map-append (λ (e : MemEntry). e.what) h (entry_by c w ∷ [])) ∙ found_more (events h) w finds t.found;
    own = ap (λ l. list_all is_by_client (events l)) (own_one c h w)
        ∙ (ap (list_all is_by_client) (map-append (λ (e : MemEntry). e.what) (entries_of (λ e. e.hand) c h) (entry_by c w ∷ []))
        ∙ (list_all-append is_by_client (events (entries_of (λ e. e.hand) c h)) (w ∷ [])
        ∙ and-from (list_all is_by_client (events (entries_of (λ e. e.hand) c h))) (is_by_client w && true) t.own (ap (λ b. b && true) (by_client w client))));
  }

-- ---- a visit

-- the same seat, at another time
pub seat_still : {S E F : Type 0} (book : TableId) (plan : F) (n : ℕ) (p q : BookSeat S E F) → IsSeatIn book plan n p → IsSameSeat p q → IsOutside q → IsSeatIn book plan n q
seat_still book plan n p q is same out = record { book_is = same.0 ∙ is.book_is; outside = out; number_is = same.2 ∙ is.number_is; plan_is = same.3 ∙ is.plan_is }

module _ (s : ClientState) (k : IsClient s) (q : MemorySeat) (found : List MemEntry) (numbers : IsTrue (list_all (is_numbered s.plan.hands (s.plan.hands + 1)) found)) where
  module _ (rest : List MemEntry) (whole : seen_by s.memory_seat ++ rest ≡ found) (same : entries_of (λ e. e.hand) s.plan.hands found ≡ entries_of (λ e. e.hand) s.plan.hands (seen_by s.memory_seat)) where
    pub own_same : entries_of (λ e. e.hand) s.plan.hands (seen_by s.memory_seat ++ rest) ≡ entries_of (λ e. e.hand) s.plan.hands (seen_by s.memory_seat)
    own_same = ap (entries_of (λ e. e.hand) s.plan.hands) whole ∙ same

    pub none_more : filter is_client (events rest) ≡ []
    none_more = no_client s.plan.hands (s.plan.hands + 1) rest
        (both (list_all (is_numbered s.plan.hands (s.plan.hands + 1)) (seen_by s.memory_seat)) (list_all (is_numbered s.plan.hands (s.plan.hands + 1)) rest)
        (sym (list_all-append (is_numbered s.plan.hands (s.plan.hands + 1)) (seen_by s.memory_seat) rest) ∙ (ap (list_all (is_numbered s.plan.hands (s.plan.hands + 1))) whole ∙ numbers))).1
        (nothing_more (entries_of (λ e. e.hand) s.plan.hands (seen_by s.memory_seat)) (entries_of (λ e. e.hand) s.plan.hands rest) (sym (own_append s.plan.hands (seen_by s.memory_seat) rest) ∙ own_same))

    pub told_found : IsClientTold s.plan.hands s.plan.spec.size s.log found
    told_found = subst (λ l. IsClientTold s.plan.hands s.plan.spec.size s.log l) whole (told_seen s.plan.hands s.plan.spec.size s.log (seen_by s.memory_seat) rest none_more own_same k.told)

    pub course_found : (f : Fronts) → AreWithin s.fronts f → IsCourse s.log s.sender.pushed s.taker.taken found f k.acts
    course_found f within = subst (λ l. IsCourse s.log s.sender.pushed s.taker.taken l f k.acts) whole (course_seen s.log s.sender.pushed s.taker.taken (seen_by s.memory_seat) s.fronts k.acts k.course rest f none_more within)

    -- the client's releases stay none
    unreleased : list_any is_release (events (entries_of (λ e. e.hand) s.plan.hands (seen_by s.memory_seat))) ≡ false → list_any is_release (events (entries_of (λ e. e.hand) s.plan.hands found)) ≡ false
    unreleased e = ap (λ l. list_any is_release (events l)) same ∙ e

  -- ---- with an entry

  module _ (w : MemEvent) (ev : Event) (v : IsVisit s.fronts.memory s.memory_seat q found (entry_by s.plan.hands w ∷ [])) (running : s.finish ≡ None) (room : 1 ≤ room_left s)
      (client : is_client w ≡ true) (entry : entry_after s.log ev ≡ Some w) (has : has_entry ev ≡ true) (inner : is_end ev ≡ false) (sends : sent_bytes ev ≡ None) (sends' : sent_index ev ≡ None) (receives : received_bytes ev ≡ None) where
    pub kept_entry : runs_out_rightly s.log ev ≡ true → given (s.log ++ ev ∷ []) ≡ range_with_len 1 (length (given (s.log ++ ev ∷ []))) → length (given (s.log ++ ev ∷ [])) ≤ id_limit s.plan.spec
        → shown_bytes ev ≡ found_by s.plan.spec.size (events found) w → finds_blocks (events found) w ≡ true
        → ((a : Act) → HasPlace (fronts_after k.acts) a → IsEventAfter (found ++ entry_by s.plan.hands w ∷ []) k.acts a ev)
        → IsClient (with_event (with_visit s q) ev)
    kept_entry rightly ids few shown finds is =
        let e : MemEntry = entry_by s.plan.hands w in
        let h' : List MemEntry = found ++ e ∷ [] in
        let f : Fronts = record { device = s.fronts.device; memory = length found } in
        let a : Act = record { event = ev; envelope = None; slip = None; fronts = record { device = s.fronts.device; memory = length (seen_by q) } } in
        let rest : List MemEntry = v.later.0.0 in
        let whole : seen_by s.memory_seat ++ rest ≡ found = v.later.0.1 in
        let same : entries_of (λ x. x.hand) s.plan.hands found ≡ entries_of (λ x. x.hand) s.plan.hands (seen_by s.memory_seat) = subst (λ (n : ℕ). entries_of (λ x. x.hand) n found ≡ entries_of (λ x. x.hand) n (seen_by s.memory_seat)) k.memory_seat.number_is v.later.1 in
        let n : length (seen_by q) ≡ length found + 1 = ap length v.left ∙ length-append found (e ∷ []) in
        let closed : s.closed ≡ false = k.ended.first running in
        let none : list_any is_release (events (entries_of (λ x. x.hand) s.plan.hands h')) ≡ false =
        ap (λ l. list_any is_release (events l)) (own_one s.plan.hands found w)
        ∙ (ap (list_any is_release) (map-append (λ (x : MemEntry). x.what) (entries_of (λ x. x.hand) s.plan.hands found) (e ∷ []))
        ∙ (list_any-append is_release (events (entries_of (λ x. x.hand) s.plan.hands found)) (w ∷ [])
        ∙ (ap (λ b. b || (is_release w || false)) (unreleased rest whole same (k.ended.running closed)) ∙ ap (λ b. b || false) (no_release w client)))) in
        let plain : AreWithin (fronts_after k.acts) a.fronts = record { device = k.course.fronts.device; memory = omega (arith, k.course.fronts.memory, v.past, n) } in
        record {
          intake_seat = k.intake_seat;
          memory_seat = seat_still s.plan.memory (memory_plan s.plan) s.plan.hands s.memory_seat q k.memory_seat v.seat.0 v.seat.1;
          page_size = k.page_size;
          rings = record { sender = k.rings.sender; taker = k.rings.taker };
          log = log_given s.plan.spec s.log k.log ev inner sends sends' few rightly (one_more_fits s.plan.spec.events (count (λ x. not (is_end x)) s.log) room);
          told = subst (λ l. IsClientTold s.plan.hands s.plan.spec.size (s.log ++ ev ∷ []) l) (sym v.left) (told_entry s.plan.hands s.plan.spec.size s.log found ev w client entry ids shown finds (told_found rest whole same));
          seen = omega arith;
          ended = record {
            first = k.ended.first;
            turned = k.ended.turned;
            logged = filter_skip is_end s.log ev inner ∙ k.ended.logged;
            last = λ b. absurd (cc (sym b ∙ ap is_aborted running));
            drained = λ _ b. absurd (cc (sym b ∙ closed));
            own = k.ended.own;
            running = λ _. ap (λ l. list_any is_release (events (entries_of (λ x. x.hand) s.plan.hands l))) v.left ∙ none;
            over = λ b. absurd (cc (sym b ∙ closed));
          };
          acts = k.acts ++ a ∷ [];
          course = subst (λ l. IsCourse (s.log ++ ev ∷ []) s.sender.pushed s.taker.taken l a.fronts (k.acts ++ a ∷ [])) (sym v.left)
              (course_entry s.log s.sender.pushed s.taker.taken found f k.acts (course_found rest whole same f (record { device = omega arith; memory = v.past })) a e
              (ap (λ b. cond b (Some (length (seen_by q) - 1)) None) has ∙ ap Some (omega (arith, n))) client refl refl sends receives
              (is a (record { plain = record { envelope = refl; slip = refl; fronts = plain }; past = omega (arith, k.course.fronts.memory, v.past, n) })));
          late = none_late s.plan.hands (seen_by s.intake_seat) (seen_by q) (k.acts ++ a ∷ []) (ap (λ l. list_any is_release (events (entries_of (λ x. x.hand) s.plan.hands l))) v.left ∙ none);
        }

  -- ---- without one

  pub kept_looked : (ev : Event) (id block cnt : ℕ) → IsVisit s.fronts.memory s.memory_seat q found [] → s.finish ≡ None → 1 ≤ room_left s
      → has_blocks id (events found) block cnt ≡ false
      → entry_after s.log ev ≡ None → has_entry ev ≡ false → is_end ev ≡ false → sent_bytes ev ≡ None → sent_index ev ≡ None → received_bytes ev ≡ None → given_id ev ≡ None → shown_bytes ev ≡ None → runs_out_rightly s.log ev ≡ true
      → ((a : Act) → FoundNoBlocks found (fronts_after k.acts) a id block cnt → IsEventAfter found k.acts a ev)
      → IsClient (with_event (with_visit s q) ev)
  kept_looked ev id block cnt v running room missing entry has inner sends sends' receives gives shows rightly is =
      let a : Act = record { event = ev; envelope = None; slip = None; fronts = record { device = s.fronts.device; memory = length (seen_by q) } } in
      let left : seen_by q ≡ found = v.left ∙ append-nil found in
      let rest : List MemEntry = v.later.0.0 in
      let whole : seen_by s.memory_seat ++ rest ≡ found = v.later.0.1 in
      let same : entries_of (λ x. x.hand) s.plan.hands found ≡ entries_of (λ x. x.hand) s.plan.hands (seen_by s.memory_seat) = subst (λ (n : ℕ). entries_of (λ x. x.hand) n found ≡ entries_of (λ x. x.hand) n (seen_by s.memory_seat)) k.memory_seat.number_is v.later.1 in
      let n : length (seen_by q) ≡ length found = ap length left in
      let closed : s.closed ≡ false = k.ended.first running in
      let none : list_any is_release (events (entries_of (λ x. x.hand) s.plan.hands found)) ≡ false = unreleased rest whole same (k.ended.running closed) in
      let still : take (length (seen_by q)) found ≡ found = ap (λ m. take m found) n ∙ (ap (take (length found)) (sym (append-nil found)) ∙ take_at found [] (length found) refl) in
      record {
        intake_seat = k.intake_seat;
        memory_seat = seat_still s.plan.memory (memory_plan s.plan) s.plan.hands s.memory_seat q k.memory_seat v.seat.0 v.seat.1;
        page_size = k.page_size;
        rings = record { sender = k.rings.sender; taker = k.rings.taker };
        log = log_quiet s.plan.spec s.log k.log ev inner sends sends' gives rightly (one_more_fits s.plan.spec.events (count (λ x. not (is_end x)) s.log) room);
        told = subst (λ l. IsClientTold s.plan.hands s.plan.spec.size (s.log ++ ev ∷ []) l) (sym left) (told_quiet s.plan.hands s.plan.spec.size s.log found ev entry gives shows (told_found rest whole same));
        seen = omega arith;
        ended = record {
          first = k.ended.first;
          turned = k.ended.turned;
          logged = filter_skip is_end s.log ev inner ∙ k.ended.logged;
          last = λ b. absurd (cc (sym b ∙ ap is_aborted running));
          drained = λ _ b. absurd (cc (sym b ∙ closed));
          own = k.ended.own;
          running = λ _. ap (λ l. list_any is_release (events (entries_of (λ x. x.hand) s.plan.hands l))) left ∙ none;
          over = λ b. absurd (cc (sym b ∙ closed));
        };
        acts = k.acts ++ a ∷ [];
        course = subst (λ l. IsCourse (s.log ++ ev ∷ []) s.sender.pushed s.taker.taken l a.fronts (k.acts ++ a ∷ [])) (sym left)
            (course_quiet s.log s.sender.pushed s.taker.taken found a.fronts k.acts (course_found rest whole same a.fronts (record { device = omega arith; memory = omega (arith, v.past, n) })) a
            (ap (λ b. cond b (Some (length (seen_by q) - 1)) None) has) refl refl sends receives
            (is a (record {
              plain = record { envelope = refl; slip = refl; fronts = record { device = k.course.fronts.device; memory = omega (arith, k.course.fronts.memory, v.past, n) } };
              within = omega (arith, n);
              none = ap (λ l. has_blocks id (events l) block cnt) still ∙ missing;
            })));
        late = none_late s.plan.hands (seen_by s.intake_seat) (seen_by q) (k.acts ++ a ∷ []) (ap (λ l. list_any is_release (events (entries_of (λ x. x.hand) s.plan.hands l))) left ∙ none);
      }
