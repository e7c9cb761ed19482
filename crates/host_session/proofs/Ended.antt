-- What is true of a client end stays true by an attempt to close its session.
use Rattle.std.proofs.Common.{◌≡◌, ◌⊎◌, ⊎_elim, ℕ, ◌+◌, ◌≤◌, max, Bool, true, false, ◌||◌, cond, IsTrue, nat_lt, List, [], ◌∷◌, ◌++◌, length, drop, filter, filter_map, Option, Some, None, refl, sym, ap, ap₂, subst, ◌∙◌, arith, length-append}
use Rattle.std.specs.List.{list_all, list_any}
use Rattle.std.proofs.lemmas.Bool.{ltb-false}
use Rattle.std.proofs.lemmas.List.Folds.{list_all-append, list_any-append}
use Rattle.host_frames.specs.{PoolSeat}
use Rattle.host_intake.specs.{IntakeEntry, Turned, takings, MemorySeat, flights_in, is_passed, kept_by, kept_slips, memory_front_in, turns}
use Rattle.host_intake.specs.declared.entry.Phase.TheVariants as phase
use Rattle.host_intake.specs.Told as told_of
use Rattle.host_memory.specs.{is_numbered, pins_left, events}
use Rattle.host_model.specs.{Event, Attached, NotAttached, Filled, Shown, Sent, Received, Drained, Aborted, MemEntry, is_client, count, received, received_bytes, sent, sent_bytes, owed, is_end}
use Rattle.host_model.proofs.ListTests.{both}
use Rattle.host_record.specs.{Finish, Drain, Abort}
use Rattle.host_log.specs.{entries_of}
use Rattle.host_turn.specs.{seen_by}
use Rattle.host_session.specs.{Fronts, Act, AreLate, IsCourse, before_drained, fronts_after, is_drain_event, log_of, is_drain_act as is_acts_drained, AreWithin, ClientState, IntakeSeat, ends_logged, is_aborted, is_drained, turns_made, HasClosedSession, HasNotClosed, releases_by, IsSessionOver, owed_count, IsClient, intake_plan, memory_plan, IsClientTold, is_release}
use Rattle.host_session.proofs.Blocks.{turned_own}
use Rattle.host_session.proofs.Course.{course_quiet, course_seen, no_client, within_refl}
use Rattle.host_session.proofs.Finishing.{log_ended}
use Rattle.host_session.proofs.Keeping.{none_late, told_quiet}
use Rattle.host_session.proofs.Requests.{requests_quiet}
use Rattle.host_session.proofs.Shutting.{all_before_drained, before_this_drain, flights_still, front_still, late_released, none_client, takings_still, told_released}
use Rattle.host_session.proofs.Snoc.{found_none}
use Rattle.host_memory.proofs.Pushed.{filter_add, filter_skip}
use Rattle.host_session.proofs.Turning.{turned_more}
use Rattle.host_session.proofs.Visiting.{course_found, own_append, seat_still, told_found, told_seen}
use Rattle.host_log.proofs.Places.{nothing_more}

-- what others did has nothing of the client's
quiet_rest : (c : ℕ) (xs rest ys : List MemEntry) → xs ++ rest ≡ ys → entries_of (λ e. e.hand) c ys ≡ entries_of (λ e. e.hand) c xs → (ys ≡ xs) ⊎ IsTrue (list_all (is_numbered c (c + 1)) ys) → filter is_client (events rest) ≡ []
quiet_rest c xs rest ys whole own n = ⊎_elim
    (λ e. ap (λ l. filter is_client (events l)) (nothing_more xs rest (whole ∙ e)))
    (λ all. no_client c (c + 1) rest
    (both (list_all (is_numbered c (c + 1)) xs) (list_all (is_numbered c (c + 1)) rest) (sym (list_all-append (is_numbered c (c + 1)) xs rest) ∙ (ap (list_all (is_numbered c (c + 1))) whole ∙ all))).1
    (nothing_more (entries_of (λ e. e.hand) c xs) (entries_of (λ e. e.hand) c rest) (sym (own_append c xs rest) ∙ (ap (entries_of (λ e. e.hand) c) whole ∙ own))))
    n

none_of_four : (a b p t : Bool) → (a || b || p || t) ≡ false → (a ≡ false) × (b ≡ false) × (p ≡ false) × (t ≡ false)
none_of_four true b p t e = absurd (cc e)
none_of_four false true p t e = absurd (cc e)
none_of_four false false true t e = absurd (cc e)
none_of_four false false false true e = absurd (cc e)
none_of_four false false false false e = (refl, refl, refl, refl)

is_zero : (n : ℕ) → nat_lt 0 n ≡ false → n ≡ 0
is_zero n e = let l = ltb-false 0 n e in omega (arith, l)

-- answers kept, once the intake was shut
kept_still : (es : List IntakeEntry) (c : ℕ) → kept_slips (es ++ Turned c phase.Closed ∷ []) ≡ kept_slips es
kept_still es c =
    let w : list_any told_of.is_aborted_phase (turns (es ++ Turned c phase.Closed ∷ [])) ≡ list_any told_of.is_aborted_phase (turns es) =
    ap (list_any told_of.is_aborted_phase) (turned_more c es phase.Closed) ∙ (list_any-append told_of.is_aborted_phase (turns es) (phase.Closed ∷ []) ∙ elim (list_any told_of.is_aborted_phase (turns es)) as (λ b. (b || false) ≡ b) [ true ↦ refl | false ↦ refl ]) in
    ap (λ b. cond b [] (drop (count is_passed (es ++ Turned c phase.Closed ∷ [])) (filter_map kept_by (es ++ Turned c phase.Closed ∷ [])))) w
    ∙ ap₂ (λ n l. cond (list_any told_of.is_aborted_phase (turns es)) [] (drop n l)) (ap length (filter_skip is_passed es (Turned c phase.Closed) refl)) (found_none kept_by es (Turned c phase.Closed) refl)

-- ---- how the session was to end

turns_closed : (finish : Option Finish) → (finish ≡ None → ⊥) → turns_made finish false ++ phase.Closed ∷ [] ≡ turns_made finish true
turns_closed None some = absurd (some refl)
turns_closed (Some how) some = refl

abort_logged : (finish : Option Finish) → is_aborted finish ≡ true → ends_logged finish false ≡ ends_logged finish true
abort_logged None e = absurd (cc e)
abort_logged (Some Drain) e = absurd (cc e)
abort_logged (Some Abort) e = refl

abort_ends : (finish : Option Finish) → is_aborted finish ≡ true → ends_logged finish false ≡ Aborted ∷ []
abort_ends None e = absurd (cc e)
abort_ends (Some Drain) e = absurd (cc e)
abort_ends (Some Abort) e = refl

drain_logs_none : (finish : Option Finish) → is_drained finish ≡ true → ends_logged finish false ≡ []
drain_logs_none None e = absurd (cc e)
drain_logs_none (Some Drain) e = refl
drain_logs_none (Some Abort) e = absurd (cc e)

drain_logged : (finish : Option Finish) → is_drained finish ≡ true → [] ++ Drained ∷ [] ≡ ends_logged finish true
drain_logged None e = absurd (cc e)
drain_logged (Some Drain) e = refl
drain_logged (Some Abort) e = absurd (cc e)

not_both : (finish : Option Finish) → is_drained finish ≡ true → is_aborted finish ≡ true → ⊥
not_both None d e = cc e
not_both (Some Drain) d e = cc e
not_both (Some Abort) d e = cc d

-- a drain ends a log
drain_ends : (e : Event) → is_drain_event e ≡ true → is_end e ≡ true
drain_ends (Attached pages id) d = absurd (cc d)
drain_ends (NotAttached pages cause) d = absurd (cc d)
drain_ends (Filled id block cnt byte done) d = absurd (cc d)
drain_ends (Sent index bytes) d = absurd (cc d)
drain_ends (Received bytes) d = absurd (cc d)
drain_ends (Shown id block cnt done bytes) d = absurd (cc d)
drain_ends Drained d = refl
drain_ends Aborted d = absurd (cc d)

no_drain : (acts : List Act) → list_any is_drain_event (filter is_end (log_of acts)) ≡ list_any is_acts_drained acts
no_drain [] = refl
no_drain (a ∷ acts) = at (is_end a.event) (is_drain_event a.event) refl (drain_ends a.event) (no_drain acts)
  where
    at : (b d : Bool) → is_drain_event a.event ≡ d → (d ≡ true → b ≡ true) → list_any is_drain_event (filter is_end (log_of acts)) ≡ list_any is_acts_drained acts
        → list_any is_drain_event (cond b (a.event ∷ filter is_end (log_of acts)) (filter is_end (log_of acts))) ≡ (d || list_any is_acts_drained acts)
    at true d is f ih = ap₂ (λ x y. x || y) is ih
    at false true is f ih = absurd (cc (f refl))
    at false false is f ih = ih

over_drained : (finish : Option Finish) (log : List Event) (es : List IntakeEntry) (h : List MemEntry) → IsSessionOver finish log es h → IsSessionOver finish (log ++ Drained ∷ []) es h
over_drained finish log es h o = record {
  landed = o.landed;
  passed = o.passed;
  home = o.home;
  taken = λ d. omega (arith, o.taken d, ap length (found_none sent_bytes log Drained refl));
  answered = λ d. omega (arith, o.answered d, ap (λ rs. length (owed rs)) (requests_quiet log Drained refl), ap length (found_none received_bytes log Drained refl));
}

module _ (s : ClientState) (k : IsClient s) (running : s.closed ≡ false) (i : IntakeSeat) (m : MemorySeat) (p p' : PoolSeat) (wanted known : ℕ) where
  pub kept_open : HasNotClosed s.plan.hands wanted s.fronts.memory s.intake_seat i s.memory_seat m p p' known → IsClient (record s { fronts = record { device = s.fronts.device; memory = known }; intake_seat = i; memory_seat = m })
  kept_open t =
      let c : ℕ = s.plan.hands in
      let h : List MemEntry = seen_by s.memory_seat in
      let rest : List MemEntry = t.later.0.0 in
      let whole : h ++ rest ≡ seen_by m = t.later.0.1 in
      let own : entries_of (λ x. x.hand) c (seen_by m) ≡ entries_of (λ x. x.hand) c h = subst (λ (n : ℕ). entries_of (λ x. x.hand) n (seen_by m) ≡ entries_of (λ x. x.hand) n h) k.memory_seat.number_is t.later.1 in
      let none : filter is_client (events rest) ≡ [] = quiet_rest c h rest (seen_by m) whole own t.numbered in
      let f : Fronts = record { device = s.fronts.device; memory = known } in
      let unreleased : list_any is_release (events (entries_of (λ x. x.hand) c (seen_by m))) ≡ false = ap (λ l. list_any is_release (events l)) own ∙ k.ended.running running in
      record {
        intake_seat = seat_still s.plan.intake (intake_plan s.plan) c s.intake_seat i k.intake_seat t.turn.seat.0 t.turn.seat.1;
        memory_seat = seat_still s.plan.memory (memory_plan s.plan) c s.memory_seat m k.memory_seat t.same.0 t.same.1;
        page_size = k.page_size;
        rings = record { sender = k.rings.sender; taker = k.rings.taker };
        log = k.log;
        told = subst (λ l. IsClientTold c s.plan.spec.size s.log l) whole (told_seen c s.plan.spec.size s.log h rest none (ap (entries_of (λ x. x.hand) c) whole ∙ own) k.told);
        seen = omega (arith, t.known_is);
        ended = record { first = k.ended.first; turned = t.turned ∙ k.ended.turned; logged = k.ended.logged; last = k.ended.last; drained = λ _ b. absurd (cc (sym b ∙ running)); own = turned_own c s.intake_seat i t.intake_found [] t.turn k.intake_seat.number_is refl k.ended.own; running = λ _. unreleased; over = λ b. absurd (cc (sym b ∙ running)) };
        acts = k.acts;
        course = subst (λ l. IsCourse s.log s.sender.pushed s.taker.taken l f k.acts) whole (course_seen s.log s.sender.pushed s.taker.taken h s.fronts k.acts k.course rest f none (record { device = omega arith; memory = omega (arith, t.known_is) }));
        late = none_late c (seen_by i) (seen_by m) k.acts unreleased;
      }

  -- ---- closed

  module _ (t : HasClosedSession s.plan.hands wanted s.fronts.memory s.intake_seat i s.memory_seat m p p' known) where
    -- nothing is left to do
    pub is_over : (is_drained s.finish ≡ true → wanted ≡ length (sent s.log)) → (is_drained s.finish ≡ true → owed_count s.log ≤ length (received s.log)) → IsSessionOver s.finish s.log (seen_by i) (seen_by m)
    is_over all answered =
        let es : List IntakeEntry = t.intake_found in
        let c : ℕ = s.plan.hands in
        let none = none_of_four (nat_lt 0 (flights_in es)) (nat_lt 0 (length (kept_slips es))) (nat_lt 0 (length (pins_left (events t.released.found)))) (nat_lt (length (takings es)) wanted) t.done in
        record {
          landed = ap flights_in t.turn.left ∙ (flights_still es c ∙ is_zero (flights_in es) none.0);
          passed = ap (λ l. length (kept_slips l)) t.turn.left ∙ (ap length (kept_still es c) ∙ is_zero (length (kept_slips es)) none.1);
          home = t.released.none_left;
          taken = λ d. let l = ltb-false (length (takings es)) wanted none.3 in omega (arith, l, all d, ap (λ x. length (takings x)) t.turn.left, ap length (takings_still es c));
          answered = answered;
        }

    -- what it has seen of the buffers
    found_told : IsClientTold s.plan.hands s.plan.spec.size s.log (seen_by m)
    found_told =
        let v = t.released.visit in
        let own = subst (λ (n : ℕ). entries_of (λ x. x.hand) n t.released.found ≡ entries_of (λ x. x.hand) n (seen_by s.memory_seat)) k.memory_seat.number_is v.later.1 in
        subst (λ l. IsClientTold s.plan.hands s.plan.spec.size s.log l) (sym v.left)
        (told_released s.plan.hands s.plan.spec.size s.log t.released.found t.released.ids (told_found s k m t.released.found t.released.numbered v.later.0.0 v.later.0.1 own))

    found_course : IsCourse s.log s.sender.pushed s.taker.taken (seen_by m) (record { device = s.fronts.device; memory = known }) k.acts
    found_course =
        let v = t.released.visit in
        let found : List MemEntry = t.released.found in
        let f : Fronts = record { device = s.fronts.device; memory = known } in
        let own = subst (λ (n : ℕ). entries_of (λ x. x.hand) n found ≡ entries_of (λ x. x.hand) n (seen_by s.memory_seat)) k.memory_seat.number_is v.later.1 in
        let n : length (seen_by m) ≡ length found + length (releases_by s.plan.hands t.released.ids) = ap length v.left ∙ length-append found (releases_by s.plan.hands t.released.ids) in
        let within : AreWithin s.fronts f = record { device = omega arith; memory = omega (arith, v.past, n, t.known_is) } in
        subst (λ l. IsCourse s.log s.sender.pushed s.taker.taken l f k.acts) (sym v.left)
        (course_seen s.log s.sender.pushed s.taker.taken found f k.acts (course_found s k m found t.released.numbered v.later.0.0 v.later.0.1 own f within) (releases_by s.plan.hands t.released.ids) f (none_client s.plan.hands t.released.ids) (within_refl f))

    found_late : (acts : List Act) → before_drained acts ≡ k.acts → AreLate s.plan.hands (seen_by i) (seen_by m) acts
    found_late acts before =
        let v = t.released.visit in
        let found : List MemEntry = t.released.found in
        let front : ℕ = max s.fronts.memory (memory_front_in t.intake_found) in
        let own = subst (λ (n : ℕ). entries_of (λ x. x.hand) n found ≡ entries_of (λ x. x.hand) n (seen_by s.memory_seat)) k.memory_seat.number_is v.later.1 in
        let none : list_any is_release (events (entries_of (λ x. x.hand) s.plan.hands found)) ≡ false = ap (λ l. list_any is_release (events l)) own ∙ k.ended.running running in
        let mf : memory_front_in (seen_by i) ≡ memory_front_in t.intake_found = ap memory_front_in t.turn.left ∙ front_still t.intake_found s.plan.hands in
        subst (λ l. AreLate s.plan.hands (seen_by i) l acts) (sym v.left)
        (late_released s.plan.hands (seen_by i) found t.released.ids acts front none v.past
        (omega (arith, ap (λ l. (fronts_after l).memory) before, k.course.fronts.memory)) (omega (arith, mf)))

    pub kept_closed_after_abort : is_aborted s.finish ≡ true → IsSessionOver s.finish s.log (seen_by i) (seen_by m) → IsClient (record s { closed = true; fronts = record { device = s.fronts.device; memory = known }; intake_seat = i; memory_seat = m })
    kept_closed_after_abort aborted over = record {
      intake_seat = seat_still s.plan.intake (intake_plan s.plan) s.plan.hands s.intake_seat i k.intake_seat t.turn.seat.0 t.turn.seat.1;
      memory_seat = seat_still s.plan.memory (memory_plan s.plan) s.plan.hands s.memory_seat m k.memory_seat t.released.visit.seat.0 t.released.visit.seat.1;
      page_size = k.page_size;
      rings = record { sender = k.rings.sender; taker = k.rings.taker };
      log = k.log;
      told = found_told;
      seen = omega (arith, t.known_is);
      ended = record {
        first = λ e. absurd (cc (sym (ap is_aborted e) ∙ aborted));
        turned = t.turned ∙ (ap (λ l. l ++ phase.Closed ∷ []) (k.ended.turned ∙ ap (turns_made s.finish) running) ∙ turns_closed s.finish (λ e. cc (sym (ap is_aborted e) ∙ aborted)));
        logged = k.ended.logged ∙ (ap (ends_logged s.finish) running ∙ abort_logged s.finish aborted);
        last = k.ended.last;
        drained = λ d _. absurd (not_both s.finish d aborted);
        own = turned_own s.plan.hands s.intake_seat i t.intake_found (Turned s.plan.hands phase.Closed ∷ []) t.turn k.intake_seat.number_is refl k.ended.own;
        running = λ e. absurd (cc e);
        over = λ _. over;
      };
      acts = k.acts;
      course = found_course;
      late = found_late k.acts (all_before_drained k.acts (sym (no_drain k.acts) ∙ ap (λ l. list_any is_drain_event (filter is_end l)) k.course.events_are ∙ ap (list_any is_drain_event) (k.ended.logged ∙ (ap (ends_logged s.finish) running ∙ abort_ends s.finish aborted))));
    }

    pub kept_closed_after_drain : is_drained s.finish ≡ true → owed_count s.log ≤ length (received s.log) → IsSessionOver s.finish s.log (seen_by i) (seen_by m) → IsClient (record s { log = s.log ++ Drained ∷ []; closed = true; fronts = record { device = s.fronts.device; memory = known }; intake_seat = i; memory_seat = m })
    kept_closed_after_drain drained answered over =
        let f : Fronts = record { device = s.fronts.device; memory = known } in
        let a : Act = record { event = Drained; envelope = None; slip = None; fronts = f } in
        let none_logged : filter is_end s.log ≡ [] = k.ended.logged ∙ (ap (ends_logged s.finish) running ∙ drain_logs_none s.finish drained) in
        let undrained : list_any is_acts_drained k.acts ≡ false = sym (no_drain k.acts) ∙ ap (λ l. list_any is_drain_event (filter is_end l)) k.course.events_are ∙ ap (list_any is_drain_event) none_logged in
        record {
          intake_seat = seat_still s.plan.intake (intake_plan s.plan) s.plan.hands s.intake_seat i k.intake_seat t.turn.seat.0 t.turn.seat.1;
          memory_seat = seat_still s.plan.memory (memory_plan s.plan) s.plan.hands s.memory_seat m k.memory_seat t.released.visit.seat.0 t.released.visit.seat.1;
          page_size = k.page_size;
          rings = record { sender = k.rings.sender; taker = k.rings.taker };
          log = log_ended s.plan.spec s.log Drained refl refl refl refl refl k.log;
          told = told_quiet s.plan.hands s.plan.spec.size s.log (seen_by m) Drained refl refl refl found_told;
          seen = omega (arith, t.known_is);
          ended = record {
            first = λ e. absurd (cc (sym (ap is_drained e) ∙ drained));
            turned = t.turned ∙ (ap (λ l. l ++ phase.Closed ∷ []) (k.ended.turned ∙ ap (turns_made s.finish) running) ∙ turns_closed s.finish (λ e. cc (sym (ap is_drained e) ∙ drained)));
            logged = filter_add is_end s.log Drained refl ∙ (ap (λ l. l ++ Drained ∷ []) none_logged ∙ drain_logged s.finish drained);
            last = λ e. absurd (not_both s.finish drained e);
            drained = λ _ _. record { before = s.log; rest = []; split = refl; answers = refl };
            own = turned_own s.plan.hands s.intake_seat i t.intake_found (Turned s.plan.hands phase.Closed ∷ []) t.turn k.intake_seat.number_is refl k.ended.own;
            running = λ e. absurd (cc e);
            over = λ _. over_drained s.finish s.log (seen_by i) (seen_by m) over;
          };
          acts = k.acts ++ a ∷ [];
          course = course_quiet s.log s.sender.pushed s.taker.taken (seen_by m) f k.acts found_course a refl refl refl refl refl (record {
            plain = record { envelope = refl; slip = refl; fronts = found_course.fronts };
            answered = subst (λ l. owed_count l ≤ length (received l)) (sym k.course.events_are) answered;
          });
          late = found_late (k.acts ++ a ∷ []) (before_this_drain k.acts a undrained refl);
        }
