-- What is true of a client end stays true as it ends its session.
use Rattle.std.proofs.Common.{◌≡◌, true, false, not, List, [], ◌∷◌, ◌++◌, length, filter, Some, None, refl, sym, ap, subst, ◌∙◌, arith}
use Rattle.atomic_table.specs.Seated.{TableId}
use Rattle.host_log.specs.{SwitchedLog}
use Rattle.host_intake.specs.{Turned}
use Rattle.host_intake.specs.declared.entry.Phase.TheVariants as phase
use Rattle.host_model.specs.{Event, Aborted, all_with_before, below, given, given_id, received, received_bytes, sent, sent_bytes, sent_index, owed, is_end, runs_out_rightly}
use Rattle.host_model.proofs.Growth.{all_with_before-push}
use Rattle.host_model.proofs.ListTests.{and-from}
use Rattle.host_record.specs.{Drain, Abort}
use Rattle.host_turn.specs.{seat_book, seen_by}
use Rattle.host_session.specs.declared.client.ClientEnd.TheInside.{Inside}
use Rattle.host_session.specs.{SessionSpec, Act, ClientState, IntakeSeat, ends_logged, turns_made, IsClientKept, client_state, HasTurned, owed_count, IsClient, IsLog, SessionPlan, intake_plan}
use Rattle.host_session.proofs.Blocks.{turned_own}
use Rattle.host_session.proofs.Course.{course_quiet}
use Rattle.host_session.proofs.Keeping.{none_late, told_quiet}
use Rattle.host_session.proofs.Requests.{requests_quiet}
use Rattle.host_session.proofs.Snoc.{found_none}
use Rattle.host_memory.proofs.Pushed.{filter_add, filter_skip}
use Rattle.host_session.proofs.Visiting.{seat_still}

-- the event that ends a log sends and gives nothing
pub log_ended : (spec : SessionSpec) (log : List Event) (e : Event) → is_end e ≡ true → sent_bytes e ≡ None → sent_index e ≡ None → given_id e ≡ None → runs_out_rightly log e ≡ true → IsLog spec log → IsLog spec (log ++ e ∷ [])
log_ended spec log e ends none none' gives rightly l =
    let s : sent (log ++ e ∷ []) ≡ sent log = found_none sent_bytes log e none in
    let g : given (log ++ e ∷ []) ≡ given log = found_none given_id log e gives in
    record {
      numbered = found_none sent_index log e none' ∙ (l.numbered ∙ ap (λ x. below (length x)) (sym s));
      ids = all_with_before-push runs_out_rightly log e ∙ and-from (all_with_before runs_out_rightly log) (runs_out_rightly log e) l.ids rightly;
      records = omega (arith, ap length s, l.records);
      given = omega (arith, ap length g, l.given);
      room = omega (arith, ap length (filter_skip (λ x. not (is_end x)) log e (ap not ends)), l.room);
    }

module _ (s : ClientState) (k : IsClient s) (running : s.finish ≡ None) (q : IntakeSeat) where
  closed : s.closed ≡ false
  closed = k.ended.first running

  none_logged : filter is_end s.log ≡ []
  none_logged = k.ended.logged ∙ ap (λ f. ends_logged f s.closed) running

  pub kept_draining : HasTurned s.plan.hands phase.Draining s.intake_seat q → IsClient (record s { finish = Some Drain; intake_seat = q })
  kept_draining t = record {
    intake_seat = seat_still s.plan.intake (intake_plan s.plan) s.plan.hands s.intake_seat q k.intake_seat t.turn.seat.0 t.turn.seat.1;
    memory_seat = k.memory_seat;
    page_size = k.page_size;
    rings = record { sender = k.rings.sender; taker = k.rings.taker };
    log = k.log;
    told = k.told;
    seen = k.seen;
    ended = record {
      first = λ e. absurd (cc e);
      turned = t.only ∙ ap (turns_made (Some Drain)) (sym closed);
      logged = none_logged ∙ ap (ends_logged (Some Drain)) (sym closed);
      last = λ e. absurd (cc e);
      drained = λ _ b. absurd (cc (sym b ∙ closed));
      own = turned_own s.plan.hands s.intake_seat q t.found (Turned s.plan.hands phase.Draining ∷ []) t.turn k.intake_seat.number_is refl k.ended.own;
      running = k.ended.running;
      over = λ e. absurd (cc (sym e ∙ closed));
    };
    acts = k.acts;
    course = k.course;
    late = none_late s.plan.hands (seen_by q) (seen_by s.memory_seat) k.acts (k.ended.running closed);
  }

  pub kept_aborted : HasTurned s.plan.hands phase.Aborted s.intake_seat q → IsClient (record s { log = s.log ++ Aborted ∷ []; finish = Some Abort; intake_seat = q })
  kept_aborted t =
      let a : Act = record { event = Aborted; envelope = None; slip = None; fronts = s.fronts } in
      record {
        intake_seat = seat_still s.plan.intake (intake_plan s.plan) s.plan.hands s.intake_seat q k.intake_seat t.turn.seat.0 t.turn.seat.1;
        memory_seat = k.memory_seat;
        page_size = k.page_size;
        rings = record { sender = k.rings.sender; taker = k.rings.taker };
        log = log_ended s.plan.spec s.log Aborted refl refl refl refl refl k.log;
        told = told_quiet s.plan.hands s.plan.spec.size s.log (seen_by s.memory_seat) Aborted refl refl refl k.told;
        seen = k.seen;
        ended = record {
          first = λ e. absurd (cc e);
          turned = t.only ∙ ap (turns_made (Some Abort)) (sym closed);
          logged = filter_add is_end s.log Aborted refl ∙ (ap (λ l. l ++ Aborted ∷ []) none_logged ∙ ap (ends_logged (Some Abort)) (sym closed));
          last = λ e. (s.log, refl);
          drained = λ e _. absurd (cc e);
          own = turned_own s.plan.hands s.intake_seat q t.found (Turned s.plan.hands phase.Aborted ∷ []) t.turn k.intake_seat.number_is refl k.ended.own;
          running = k.ended.running;
          over = λ e. absurd (cc (sym e ∙ closed));
        };
        acts = k.acts ++ a ∷ [];
        course = course_quiet s.log s.sender.pushed s.taker.taken (seen_by s.memory_seat) s.fronts k.acts k.course a refl refl refl refl refl (record { envelope = refl; slip = refl; fronts = k.course.fronts });
        late = none_late s.plan.hands (seen_by q) (seen_by s.memory_seat) (k.acts ++ a ∷ []) (k.ended.running closed);
      }

-- the fixed part, seen through another seat at the same book
abbrev pub at_intake : SessionPlan → TableId → SessionPlan
at_intake p book = record p { intake = book }

module _ (a : Inside) (k : IsClientKept a) (running : a.finish ≡ None) (q : IntakeSeat) (same : seat_book q ≡ seat_book a.intake_seat) where
  pub draining_kept : HasTurned a.hands phase.Draining a.intake_seat q → IsClientKept (record a { finish = Some Drain; intake_seat = q })
  draining_kept t = record {
    client = subst (λ (b : TableId). IsClient (record (client_state a) { plan = at_intake (client_state a).plan b; finish = Some Drain; intake_seat = q })) (sym same) (kept_draining (client_state a) k.client running q t);
    counted = record { sent = k.counted.sent; received = k.counted.received; given = k.counted.given; owed = k.counted.owed; room = k.counted.room; keeps = k.counted.keeps };
    closing = k.closing;
  }

  pub aborted_kept : (l : SwitchedLog Event) → l ≡ record a.log { items = a.log.items ++ Aborted ∷ [] } → HasTurned a.hands phase.Aborted a.intake_seat q → IsClientKept (record a { log = l; finish = Some Abort; intake_seat = q })
  aborted_kept l log_is t =
      let items : l.items ≡ a.log.items ++ Aborted ∷ [] = ap (λ (x : SwitchedLog Event). x.items) log_is in
      record {
        client = subst (λ (x : SwitchedLog Event). IsClient (client_state (record a { log = x; finish = Some Abort; intake_seat = q }))) (sym log_is)
            (subst (λ (b : TableId). IsClient (record (client_state a) { plan = at_intake (client_state a).plan b; log = a.log.items ++ Aborted ∷ []; finish = Some Abort; intake_seat = q })) (sym same) (kept_aborted (client_state a) k.client running q t));
        counted = record {
          sent = k.counted.sent ∙ sym (ap (λ x. length (sent x)) items ∙ ap length (found_none sent_bytes a.log.items Aborted refl));
          received = k.counted.received ∙ sym (ap (λ x. length (received x)) items ∙ ap length (found_none received_bytes a.log.items Aborted refl));
          given = k.counted.given ∙ sym (ap (λ x. length (given x)) items ∙ ap length (found_none given_id a.log.items Aborted refl));
          owed = k.counted.owed ∙ sym (ap owed_count items ∙ ap (λ rs. length (owed rs)) (requests_quiet a.log.items Aborted refl));
          room = ap (λ (x : SwitchedLog Event). x.room) log_is ∙ k.counted.room;
          keeps = ap (λ (x : SwitchedLog Event). x.kept) log_is ∙ k.counted.keeps;
        };
        closing = k.closing;
      }
