-- The client has entered the buffers: what it then knows, and what is true of it once it has left them.
use Rattle.std.proofs.Common.{◌≡◌, ℕ, suc, ◌+◌, ◌*◌, ◌≤◌, ◌<◌, Bool, true, false, not, cond, IsTrue, List, [], ◌∷◌, ◌++◌, length, filter, Some, None, refl, sym, ap, subst, ◌∙◌, arith}
use Rattle.std.specs.List.{list_all}
use Rattle.std.specs.Option.{unwrap_or}
use Rattle.atomic_table.specs.Seated.{TableId}
use Rattle.host_log.specs.{SwitchedLog, Continues, entries_of}
use Rattle.host_intake.specs.{MemorySeat}
use Rattle.host_memory.specs.{MemoryPlan, is_attach_entry, is_fill_or_show, used_room, is_numbered, MemoryState, admissions_of, client_of, events, history}
use Rattle.host_model.specs.{Event, Attached, NotAttached, Filled, Shown, Sent, Received, Drained, Aborted, MemEntry, MemEvent, Attach, Fill, Show, Pin, Lift, Land, Done, Release, entry_after, is_client, told, owed, count, map_after, given, received, received_bytes, sent, sent_bytes, is_end}
use Rattle.host_model.specs.declared.memory.MemEvent.TheVariants as mem
use Rattle.host_turn.specs.{IsOutside, IsSameSeat, fixed_part, number, seat_book, seen_by}
use Rattle.host_session.specs.declared.client.ClientEnd.TheInside.{Inside}
use Rattle.host_session.specs.{with_event, with_visit, room_left, IsClientKept, client_state, owed_count, IsClient, SessionPlan, id_limit, memory_plan, IsClientTold, IsVisit}
use Rattle.host_session.proofs.Requests.{requests_quiet}
use Rattle.host_session.proofs.Snoc.{found_none}
use Rattle.host_session.proofs.Turning.{same_seat}
use Rattle.host_session.proofs.Visiting.{told_found}

-- ---- the room that the client uses

-- entries of the client's kinds are the client's
counted_client : (p : MemEvent → Bool) → ((e : MemEvent) → p e ≡ true → is_client e ≡ true) → (h : List MemEvent) → count p (filter is_client h) ≡ count p h
counted_client p all [] = refl
counted_client p all (e ∷ h) = at (is_client e) (p e) (all e) refl (counted_client p all h)
  where
    step : (d : Bool) → count p (filter is_client h) ≡ count p h → length (cond d (e ∷ filter p (filter is_client h)) (filter p (filter is_client h))) ≡ length (cond d (e ∷ filter p h) (filter p h))
    step true ih = ap suc ih
    step false ih = ih

    at : (b d : Bool) → (d ≡ true → b ≡ true) → p e ≡ d → count p (filter is_client h) ≡ count p h → length (filter p (cond b (e ∷ filter is_client h) (filter is_client h))) ≡ length (cond d (e ∷ filter p h) (filter p h))
    at true d f is ih = ap (λ x. length (cond x (e ∷ filter p (filter is_client h)) (filter p (filter is_client h)))) is ∙ step d ih
    at false true f is ih = absurd (cc (f refl))
    at false false f is ih = ih

attach_is : (e : MemEvent) → is_attach_entry e ≡ true → is_client e ≡ true
attach_is (Attach id pages from) p = refl
attach_is (Fill id block cnt byte) p = absurd (cc p)
attach_is (Show id block cnt) p = absurd (cc p)
attach_is (Pin index id by) p = absurd (cc p)
attach_is (Lift index k id block bytes) p = absurd (cc p)
attach_is (Land index k id block bytes) p = absurd (cc p)
attach_is (Done index id) p = absurd (cc p)
attach_is (mem.Close index id) p = absurd (cc p)
attach_is (Release id) p = absurd (cc p)

fill_is : (e : MemEvent) → is_fill_or_show e ≡ true → is_client e ≡ true
fill_is (Attach id pages from) p = absurd (cc p)
fill_is (Fill id block cnt byte) p = refl
fill_is (Show id block cnt) p = refl
fill_is (Pin index id by) p = absurd (cc p)
fill_is (Lift index k id block bytes) p = absurd (cc p)
fill_is (Land index k id block bytes) p = absurd (cc p)
fill_is (Done index id) p = absurd (cc p)
fill_is (mem.Close index id) p = absurd (cc p)
fill_is (Release id) p = absurd (cc p)

-- an attach for each buffer given, and no more fills and shows than other events
record IsUsed (h : List MemEvent) (log : List Event) : Type 0 where
  attaches : count is_attach_entry h ≡ length (given log)
  others : count is_fill_or_show h + length (given log) ≤ count (λ e. not (is_end e)) log

used_told : (before log : List Event) → IsUsed (map_after entry_after before log) log
used_told before [] = record { attaches = refl; others = omega arith }
used_told before (Attached pages id ∷ log) = let u = used_told (before ++ Attached pages id ∷ []) log in record { attaches = omega (arith, u.attaches); others = omega (arith, u.others) }
used_told before (NotAttached pages cause ∷ log) = let u = used_told (before ++ NotAttached pages cause ∷ []) log in record { attaches = u.attaches; others = omega (arith, u.others) }
used_told before (Filled id block cnt byte true ∷ log) = let u = used_told (before ++ Filled id block cnt byte true ∷ []) log in record { attaches = u.attaches; others = omega (arith, u.others) }
used_told before (Filled id block cnt byte false ∷ log) = let u = used_told (before ++ Filled id block cnt byte false ∷ []) log in record { attaches = u.attaches; others = omega (arith, u.others) }
used_told before (Sent index bytes ∷ log) = let u = used_told (before ++ Sent index bytes ∷ []) log in record { attaches = u.attaches; others = omega (arith, u.others) }
used_told before (Received bytes ∷ log) = let u = used_told (before ++ Received bytes ∷ []) log in record { attaches = u.attaches; others = omega (arith, u.others) }
used_told before (Shown id block cnt true bytes ∷ log) = let u = used_told (before ++ Shown id block cnt true bytes ∷ []) log in record { attaches = u.attaches; others = omega (arith, u.others) }
used_told before (Shown id block cnt false bytes ∷ log) = let u = used_told (before ++ Shown id block cnt false bytes ∷ []) log in record { attaches = u.attaches; others = omega (arith, u.others) }
used_told before (Drained ∷ log) = let u = used_told (before ++ Drained ∷ []) log in record { attaches = u.attaches; others = u.others }
used_told before (Aborted ∷ log) = let u = used_told (before ++ Aborted ∷ []) log in record { attaches = u.attaches; others = u.others }

used_by : (c size : ℕ) (log : List Event) (h : List MemEntry) → IsClientTold c size log h → IsUsed (events h) log
used_by c size log h t =
    let u : IsUsed (told log) log = used_told [] log in
    record {
      attaches = sym (counted_client is_attach_entry attach_is (events h)) ∙ (ap (count is_attach_entry) t.entries ∙ u.attaches);
      others = omega (arith, counted_client is_fill_or_show fill_is (events h), ap (count is_fill_or_show) t.entries, u.others);
    }

some_same : {A : Type 0} (x y : A) → Some x ≡ Some y → x ≡ y
some_same x y e = ap (λ o. unwrap_or o x) e

-- ---- inside

module _ (a : Inside) (k : IsClientKept a) (mid : MemorySeat) (m : MemoryState) (same : IsSameSeat a.memory_seat mid) (story : m.entries ≡ seen_by mid)
    (later : Continues (λ (e : MemEntry). e.hand) (number a.memory_seat) (seen_by a.memory_seat) (seen_by mid)) (fixed : fixed_part mid ≡ Some m.plan) (past : a.fronts.memory ≤ length m.entries)
    (numbers : IsTrue (list_all (is_numbered (client_of m) (admissions_of m)) m.entries)) where
  pub plan_is : m.plan ≡ memory_plan (client_state a).plan
  plan_is = some_same m.plan (memory_plan (client_state a).plan) (sym fixed ∙ (same.3 ∙ k.client.memory_seat.plan_is))

  pub numbered : IsTrue (list_all (is_numbered a.hands (a.hands + 1)) m.entries)
  numbered = subst (λ (p : MemoryPlan). IsTrue (list_all (is_numbered p.limits.hands (p.limits.hands + 1)) m.entries)) plan_is numbers

  pub goes_on : Continues (λ (e : MemEntry). e.hand) (number a.memory_seat) (seen_by a.memory_seat) m.entries
  goes_on = subst (λ l. Continues (λ (e : MemEntry). e.hand) (number a.memory_seat) (seen_by a.memory_seat) l) (sym story) later

  pub visit : (q : MemorySeat) (own : List MemEntry) → IsSameSeat mid q × IsOutside q → seen_by q ≡ m.entries ++ own → IsVisit a.fronts.memory a.memory_seat q m.entries own
  visit q own out left = record { seat = (same_seat a.memory_seat mid q same out.0, out.1); later = goes_on; past = past; left = left }

  pub told_inside : IsClientTold a.hands a.spec.size a.log.items m.entries
  told_inside = told_found (client_state a) k.client mid m.entries numbered goes_on.0.0 goes_on.0.1
      (subst (λ (n : ℕ). entries_of (λ x. x.hand) n m.entries ≡ entries_of (λ x. x.hand) n (seen_by a.memory_seat)) k.client.memory_seat.number_is goes_on.1)

  -- there is room for one entry more, and for three more where an id is left
  pub room_for_one : 1 ≤ room_left (client_state a) → used_room (history m) + 1 ≤ m.plan.limits.room
  room_for_one room =
      let u : IsUsed (events m.entries) a.log.items = used_by a.hands a.spec.size a.log.items m.entries told_inside in
      let p : m.plan.limits.room ≡ 3 * id_limit a.spec + a.spec.events = ap (λ (x : MemoryPlan). x.limits.room) plan_is in
      omega (arith, u.attaches, u.others, room, k.client.log.given, p)

  pub room_for_three : 1 ≤ room_left (client_state a) → length (given a.log.items) < id_limit a.spec → used_room (history m) + 3 ≤ m.plan.limits.room
  room_for_three room few =
      let u : IsUsed (events m.entries) a.log.items = used_by a.hands a.spec.size a.log.items m.entries told_inside in
      let p : m.plan.limits.room ≡ 3 * id_limit a.spec + a.spec.events = ap (λ (x : MemoryPlan). x.limits.room) plan_is in
      omega (arith, u.attaches, u.others, room, few, p)

  pub given_so_far : count is_attach_entry (history m) ≡ length (given a.log.items)
  given_so_far = (used_by a.hands a.spec.size a.log.items m.entries told_inside).attaches

-- ---- the fields, once the client has left

abbrev pub at_memory : SessionPlan → TableId → SessionPlan
at_memory p book = record p { memory = book }

module _ (a : Inside) (q : MemorySeat) (ev : Event) (book : seat_book q ≡ seat_book a.memory_seat) where
  pub visit_left : (l : SwitchedLog Event) (front given' : ℕ) → l ≡ record a.log { items = a.log.items ++ ev ∷ [] } → front ≡ length (seen_by q)
      → client_state (record a { log = l; given = given'; fronts = record { device = a.fronts.device; memory = front }; memory_seat = q }) ≡ with_event (with_visit (client_state a) q) ev
  visit_left l front given' log_is front_is =
      ap (λ (x : SwitchedLog Event). client_state (record a { log = x; given = given'; fronts = record { device = a.fronts.device; memory = front }; memory_seat = q })) log_is
      ∙ (ap (λ (n : ℕ). client_state (record a { log = record a.log { items = a.log.items ++ ev ∷ [] }; given = given'; fronts = record { device = a.fronts.device; memory = n }; memory_seat = q })) front_is
      ∙ ap (λ (b : TableId). record (with_event (with_visit (client_state a) q) ev) { plan = at_memory (client_state a).plan b }) book)

module _ (a : Inside) (k : IsClientKept a) (q : MemorySeat) (ev : Event) (is : IsClient (with_event (with_visit (client_state a) q) ev)) (book : seat_book q ≡ seat_book a.memory_seat) where
  pub visit_kept : (l : SwitchedLog Event) (front given' : ℕ) → l ≡ record a.log { items = a.log.items ++ ev ∷ [] } → front ≡ length (seen_by q) → sent_bytes ev ≡ None → received_bytes ev ≡ None → given' ≡ length (given (a.log.items ++ ev ∷ []))
      → IsClientKept (record a { log = l; given = given'; fronts = record { device = a.fronts.device; memory = front }; memory_seat = q })
  visit_kept l front given' log_is front_is sends receives given_is =
      let items : l.items ≡ a.log.items ++ ev ∷ [] = ap (λ (x : SwitchedLog Event). x.items) log_is in
      record {
        client = subst (λ (x : SwitchedLog Event). IsClient (client_state (record a { log = x; given = given'; fronts = record { device = a.fronts.device; memory = front }; memory_seat = q }))) (sym log_is)
            (subst (λ (n : ℕ). IsClient (client_state (record a { log = record a.log { items = a.log.items ++ ev ∷ [] }; given = given'; fronts = record { device = a.fronts.device; memory = n }; memory_seat = q }))) (sym front_is)
            (subst (λ (b : TableId). IsClient (record (with_event (with_visit (client_state a) q) ev) { plan = at_memory (client_state a).plan b })) (sym book) is));
        counted = record {
          sent = k.counted.sent ∙ sym (ap (λ x. length (sent x)) items ∙ ap length (found_none sent_bytes a.log.items ev sends));
          received = k.counted.received ∙ sym (ap (λ x. length (received x)) items ∙ ap length (found_none received_bytes a.log.items ev receives));
          given = given_is ∙ sym (ap (λ x. length (given x)) items);
          owed = k.counted.owed ∙ sym (ap owed_count items ∙ ap (λ rs. length (owed rs)) (requests_quiet a.log.items ev sends));
          room = ap (λ (x : SwitchedLog Event). x.room) log_is ∙ k.counted.room;
          keeps = ap (λ (x : SwitchedLog Event). x.kept) log_is ∙ k.counted.keeps;
        };
        closing = k.closing;
      }
