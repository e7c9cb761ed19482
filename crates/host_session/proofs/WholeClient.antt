-- What a client end knew of a part of both histories holds of the whole, once it has closed the session.
use Rattle.std.proofs.Common.{◌≡◌, ℕ, ◌+◌, ◌≤◌, true, IsTrue, List, [], ◌++◌, length, map, Some, None, sym, ap, subst, ◌∙◌, arith}
use Rattle.std.specs.List.{list_all, slice_get}
use Rattle.std.proofs.lemmas.List.{map-append}
use Rattle.host_group.specs.{greatest}
use Rattle.host_intake.specs.{Running, Closed, IntakePlan, Taking, landings, maker_of, takings, IsIntake, is_turned_below, is_taken_open, IntakeState, plan_of_intake, phase_in, seen_of, turns}
use Rattle.host_memory.specs.{first_held, is_numbered, events}
use Rattle.host_model.specs.{MemEntry, all_with_before, last, sent}
use Rattle.host_log.specs.{entries_of}
use Rattle.host_turn.specs.{seen_by}
use Rattle.host_log.proofs.Histories.{entries-append}
use Rattle.host_session.specs.{AreLate, ClientState, IsSessionOver, IsClient, intake_plan, HasAllOf, IsClientOf}
use Rattle.host_session.proofs.Turning.{turns_same}
use Rattle.host_session.proofs.Visiting.{course_found, none_more, own_same, told_found}
use Rattle.host_session.proofs.WholeIntake.{closed_last, landed_still, passed_still, takings_still}
use Rattle.host_session.proofs.WholeMemory.{home_still, own_seen}
use Rattle.host_log.proofs.Places.{nothing_more}

module _ (s : ClientState) (k : IsClient s) (closed : s.closed ≡ true) where
  -- ---- the buffers

  module _ (h : List MemEntry) (numbers : IsTrue (list_all (is_numbered s.plan.hands (s.plan.hands + 1)) h)) (later : HasAllOf (λ (e : MemEntry). e.hand) h s.memory_seat) where
    after : List MemEntry
    after = later.0.0

    whole : seen_by s.memory_seat ++ after ≡ h
    unfolding after
    whole = later.0.1

    same_own : entries_of (λ e. e.hand) s.plan.hands h ≡ entries_of (λ e. e.hand) s.plan.hands (seen_by s.memory_seat)
    same_own = subst (λ (n : ℕ). entries_of (λ e. e.hand) n h ≡ entries_of (λ e. e.hand) n (seen_by s.memory_seat)) k.memory_seat.number_is later.1

    none_own : entries_of (λ e. e.hand) s.plan.hands after ≡ []
    none_own = nothing_more (entries_of (λ e. e.hand) s.plan.hands (seen_by s.memory_seat)) (entries_of (λ e. e.hand) s.plan.hands after)
        (sym (entries-append (λ (e : MemEntry). e.hand) s.plan.hands (seen_by s.memory_seat) after) ∙ own_same s k s.memory_seat h numbers after whole same_own)

    pub home : first_held (events h) ≡ None
    home = ap (λ l. first_held (events l)) (sym whole) ∙ (ap first_held (map-append (λ (e : MemEntry). e.what) (seen_by s.memory_seat) after)
        ∙ home_still (events (seen_by s.memory_seat)) (events after) (none_more s k s.memory_seat h numbers after whole same_own) (k.ended.over closed).home)

  -- ---- the intake

  module _ (o : IntakeState) (i : IsIntake o) (plan : plan_of_intake o ≡ intake_plan s.plan) (later : HasAllOf maker_of o.entries s.intake_seat) where
    by : list_all (is_turned_below (s.plan.hands + 1)) o.entries ≡ true
    by = subst (λ (n : ℕ). list_all (is_turned_below n) o.entries ≡ true) (ap (λ (x : IntakePlan). x.admissions) plan) i.turned.by_client

    own : entries_of maker_of s.plan.hands o.entries ≡ entries_of maker_of s.plan.hands (seen_by s.intake_seat)
    own = subst (λ (n : ℕ). entries_of maker_of n o.entries ≡ entries_of maker_of n (seen_by s.intake_seat)) k.intake_seat.number_is later.1

    same : turns o.entries ≡ turns (seen_by s.intake_seat)
    same = turns_same s.plan.hands (seen_by s.intake_seat) later.0.0 o.entries later.0.1 own by

    closed_seen : phase_in (seen_by s.intake_seat) ≡ Closed
    closed_seen = ap (last Running) k.ended.turned ∙ closed_last s.finish s.closed k.ended.first closed

    pub phase_is : phase_in o.entries ≡ Closed
    phase_is = ap (last Running) same ∙ closed_seen

    -- ---- both

    module _ (before_close : IsTrue (all_with_before is_taken_open o.entries))
        (h : List MemEntry) (numbers : IsTrue (list_all (is_numbered s.plan.hands (s.plan.hands + 1)) h)) (later_h : HasAllOf (λ (e : MemEntry). e.hand) h s.memory_seat) where
      takings_same : takings o.entries ≡ takings (seen_by s.intake_seat)
      takings_same = takings_still (seen_by s.intake_seat) later.0.0 o.entries later.0.1 same closed_seen before_close

      whole_late : AreLate s.plan.hands o.entries h k.acts
      whole_late n e at made is =
          let seen : slice_get (seen_by s.memory_seat) n ≡ Some e = own_seen s.plan.hands n (seen_by s.memory_seat) (after h numbers later_h) e (none_own h numbers later_h) (ap (λ l. slice_get l n) (whole h numbers later_h) ∙ at) made in
          let t = k.late n e seen made is in
          (t.0, subst (λ (m : ℕ). m ≤ n) (ap (λ (ts : List Taking). greatest (map seen_of ts)) (sym takings_same)) t.1)

      whole_over : IsSessionOver s.finish s.log o.entries h
      whole_over =
          let v : IsSessionOver s.finish s.log (seen_by s.intake_seat) (seen_by s.memory_seat) = k.ended.over closed in
          let all : length (landings o.entries) ≡ length (takings o.entries) = i.turned.over phase_is in
          record {
            landed = landed_still (seen_by s.intake_seat) later.0.0 o.entries later.0.1 same closed_seen before_close all v.landed;
            passed = passed_still (seen_by s.intake_seat) later.0.0 o.entries later.0.1 same closed_seen before_close all v.landed v.passed;
            home = home h numbers later_h;
            taken = λ d. subst (λ (ts : List Taking). length (sent s.log) ≤ length ts) (sym takings_same) (v.taken d);
            answered = v.answered;
          }

      pub client_of : IsClientOf s o.entries h
      client_of = record {
        kept = k;
        told = told_found s k s.memory_seat h numbers (after h numbers later_h) (whole h numbers later_h) (same_own h numbers later_h);
        acts = k.acts;
        course = course_found s k s.memory_seat h numbers (after h numbers later_h) (whole h numbers later_h) (same_own h numbers later_h) s.fronts (record { device = omega arith; memory = omega arith });
        late = whole_late;
        over = whole_over;
      }
