-- What is true of a client end stays true by each call that doesn't visit the buffers.
use Rattle.std.proofs.Common.{◌≡◌, ℕ, ◌+◌, ◌≤◌, ◌<◌, Bool, true, false, not, ◌||◌, cond, IsTrue, List, [], ◌∷◌, ◌++◌, length, filter, Option, Some, None, refl, sym, ap, ◌∙◌, arith, length-append}
use Rattle.std.specs.List.{list_any}
use Rattle.host_intake.specs.{IntakeEntry}
use Rattle.host_model.specs.{AttachError, Event, NotAttached, Sent, Received, Drained, MemEntry, owed, count, received, received_bytes, sent, sent_bytes, is_end, runs_out_rightly}
use Rattle.host_record.specs.{Finish, Drain, Abort}
use Rattle.host_rings.specs.{Slip, with_pushed}
use Rattle.host_turn.specs.{seen_by}
use Rattle.host_session.specs.{Fronts, Act, AreLate, is_answer, is_drain_event, is_drain_act, log_of, next_envelope, with_event, with_slips, ClientState, greater, is_aborted, room_left, slip_fronts, IsEndedSoFar, IsSessionOver, owed_count, IsClient}
use Rattle.host_session.proofs.Course.{course_quiet, course_received, course_sent, course_thrown, within_refl}
use Rattle.host_session.proofs.Keeping.{ended_quiet, late_still, log_quiet, log_sent, none_late, one_more_fits, told_quiet}
use Rattle.host_session.proofs.Requests.{requests_quiet}
use Rattle.host_session.proofs.Snoc.{found_none, found_one}

-- ---- a log that has its end

head_is : (e : Event) (log : List Event) → e ∷ log ≡ Drained ∷ [] → is_drain_event e ≡ true
head_is e log is = let same : e ≡ Drained = cc in ap is_drain_event same

-- a log whose end is a drain has that event
ends_drained : (acts : List Act) → filter is_end (log_of acts) ≡ Drained ∷ [] → list_any is_drain_act acts ≡ true
ends_drained [] is = absurd (cc is)
ends_drained (a ∷ acts) is = at (is_end a.event) is (ends_drained acts)
  where
    at : (b : Bool) → cond b (a.event ∷ filter is_end (log_of acts)) (filter is_end (log_of acts)) ≡ Drained ∷ [] → (filter is_end (log_of acts) ≡ Drained ∷ [] → list_any is_drain_act acts ≡ true) → (is_drain_event a.event || list_any is_drain_act acts) ≡ true
    at true e ih = ap (λ b. b || list_any is_drain_act acts) (head_is a.event (filter is_end (log_of acts)) e)
    at false e ih = ap (λ b. is_drain_event a.event || b) (ih e) ∙ elim (is_drain_event a.event) as (λ b. (b || true) ≡ true) [ true ↦ refl | false ↦ refl ]

-- more acts: the client's releases are still late
late_more : (c : ℕ) (finish : Option Finish) (closed : Bool) (log : List Event) (es : List IntakeEntry) (h : List MemEntry) (acts more : List Act) → is_aborted finish ≡ false → log_of acts ≡ log → IsEndedSoFar c finish closed log es h → AreLate c es h acts → AreLate c es h (acts ++ more)
late_more c finish false log es h acts more inner is t late = none_late c es h (acts ++ more) (t.running refl)
late_more c None true log es h acts more inner is t late = absurd (cc (t.first refl))
late_more c (Some Abort) true log es h acts more inner is t late = absurd (cc inner)
late_more c (Some Drain) true log es h acts more inner is t late = late_still c es h acts more (ends_drained acts (ap (filter is_end) is ∙ t.logged)) late

over_received : (finish : Option Finish) (log : List Event) (es : List IntakeEntry) (h : List MemEntry) (bytes : List ℕ) → IsSessionOver finish log es h → IsSessionOver finish (log ++ Received bytes ∷ []) es h
over_received finish log es h bytes o =
    let s : sent (log ++ Received bytes ∷ []) ≡ sent log = found_none sent_bytes log (Received bytes) refl in
    let w : owed_count (log ++ Received bytes ∷ []) ≡ owed_count log = ap (λ rs. length (owed rs)) (requests_quiet log (Received bytes) refl) in
    let r : length (received (log ++ Received bytes ∷ [])) ≡ length (received log) + 1 = ap length (found_one received_bytes log (Received bytes) bytes refl) ∙ length-append (received log) (bytes ∷ []) in
    record {
      landed = o.landed;
      passed = o.passed;
      home = o.home;
      taken = λ d. omega (arith, o.taken d, ap length s);
      answered = λ d. omega (arith, o.answered d, w, r);
    }

module _ (s : ClientState) (k : IsClient s) where
  -- the next record was sent
  pub kept_sent : (bytes : List ℕ) → s.finish ≡ None → length (sent s.log) < s.plan.spec.records → 1 ≤ room_left s
      → IsClient (record s { log = s.log ++ Sent (length (sent s.log)) bytes ∷ []; sender = with_pushed s.sender (next_envelope s.log bytes s.fronts) })
  kept_sent bytes running few room =
      let h = seen_by s.memory_seat in
      let e : Event = Sent (length (sent s.log)) bytes in
      let a : Act = record { event = e; envelope = Some (next_envelope s.log bytes s.fronts); slip = None; fronts = s.fronts } in
      record {
        intake_seat = k.intake_seat;
        memory_seat = k.memory_seat;
        page_size = k.page_size;
        rings = record { sender = k.rings.sender; taker = k.rings.taker };
        log = log_sent s.plan.spec s.log k.log e bytes refl refl refl refl refl few (one_more_fits s.plan.spec.events (count (λ x. not (is_end x)) s.log) room);
        told = told_quiet s.plan.hands s.plan.spec.size s.log h e refl refl refl k.told;
        seen = k.seen;
        ended = ended_quiet s.plan.hands s.finish s.closed s.log (seen_by s.intake_seat) h e refl (ap is_aborted running) (λ c. absurd (cc (sym c ∙ k.ended.first running))) (λ _ c. absurd (cc (sym c ∙ k.ended.first running))) k.ended;
        acts = k.acts ++ a ∷ [];
        course = course_sent s.log s.sender.pushed s.taker.taken h s.fronts k.acts k.course bytes s.fronts (within_refl s.fronts);
        late = none_late s.plan.hands (seen_by s.intake_seat) h (k.acts ++ a ∷ []) (k.ended.running (k.ended.first running));
      }

  -- an answer was received
  pub kept_received : (thrown : List Slip) (slip : Slip) → is_aborted s.finish ≡ false → IsTrue (is_answer (length (sent s.log)) slip) → 1 ≤ room_left s
      → IsClient (record s { log = s.log ++ Received slip.bytes ∷ []; fronts = greater s.fronts (slip_fronts slip); taker = with_slips s.taker (thrown ++ slip ∷ []) })
  kept_received thrown slip not_aborted answers room =
      let h = seen_by s.memory_seat in
      let e : Event = Received slip.bytes in
      let f : Fronts = greater s.fronts (slip_fronts slip) in
      let a : Act = record { event = e; envelope = None; slip = Some slip; fronts = f } in
      record {
        intake_seat = k.intake_seat;
        memory_seat = k.memory_seat;
        page_size = k.page_size;
        rings = record { sender = k.rings.sender; taker = k.rings.taker };
        log = log_quiet s.plan.spec s.log k.log e refl refl refl refl refl (one_more_fits s.plan.spec.events (count (λ x. not (is_end x)) s.log) room);
        told = told_quiet s.plan.hands s.plan.spec.size s.log h e refl refl refl k.told;
        seen = omega (arith, k.seen);
        ended = ended_quiet s.plan.hands s.finish s.closed s.log (seen_by s.intake_seat) h e refl not_aborted (λ c. over_received s.finish s.log (seen_by s.intake_seat) h slip.bytes (k.ended.over c)) (λ _ _. refl) k.ended;
        acts = k.acts ++ a ∷ [];
        course = course_received s.log s.sender.pushed s.taker.taken h s.fronts k.acts k.course thrown slip f answers (record { device = omega arith; memory = omega arith }) (record { device = omega arith; memory = omega arith });
        late = late_more s.plan.hands s.finish s.closed s.log (seen_by s.intake_seat) h k.acts (a ∷ []) not_aborted k.course.events_are k.ended k.late;
      }

  -- slips were thrown away
  pub kept_thrown : (thrown : List Slip) → IsClient (record s { taker = with_slips s.taker thrown })
  kept_thrown thrown = record {
    intake_seat = k.intake_seat;
    memory_seat = k.memory_seat;
    page_size = k.page_size;
    rings = record { sender = k.rings.sender; taker = k.rings.taker };
    log = k.log;
    told = k.told;
    seen = k.seen;
    ended = k.ended;
    acts = k.acts;
    course = course_thrown s.log s.sender.pushed s.taker.taken (seen_by s.memory_seat) s.fronts k.acts k.course thrown;
    late = k.late;
  }

  -- an attach was refused
  pub kept_refused : (pages : ℕ) (cause : AttachError) → s.finish ≡ None → runs_out_rightly s.log (NotAttached pages cause) ≡ true → 1 ≤ room_left s → IsClient (with_event s (NotAttached pages cause))
  kept_refused pages cause running rightly room =
      let h = seen_by s.memory_seat in
      let e : Event = NotAttached pages cause in
      let a : Act = record { event = e; envelope = None; slip = None; fronts = s.fronts } in
      record {
        intake_seat = k.intake_seat;
        memory_seat = k.memory_seat;
        page_size = k.page_size;
        rings = record { sender = k.rings.sender; taker = k.rings.taker };
        log = log_quiet s.plan.spec s.log k.log e refl refl refl refl rightly (one_more_fits s.plan.spec.events (count (λ x. not (is_end x)) s.log) room);
        told = told_quiet s.plan.hands s.plan.spec.size s.log h e refl refl refl k.told;
        seen = k.seen;
        ended = ended_quiet s.plan.hands s.finish s.closed s.log (seen_by s.intake_seat) h e refl (ap is_aborted running) (λ c. absurd (cc (sym c ∙ k.ended.first running))) (λ _ c. absurd (cc (sym c ∙ k.ended.first running))) k.ended;
        acts = k.acts ++ a ∷ [];
        course = course_quiet s.log s.sender.pushed s.taker.taken h s.fronts k.acts k.course a refl refl refl refl refl (record { envelope = refl; slip = refl; fronts = k.course.fronts });
        late = none_late s.plan.hands (seen_by s.intake_seat) h (k.acts ++ a ∷ []) (k.ended.running (k.ended.first running));
      }
