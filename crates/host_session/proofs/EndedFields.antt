-- The fields of a client end after an attempt to close its session, and what the attempt tells.
use Rattle.std.proofs.Common.{◌≡◌, ℕ, ◌≤◌, max, Bool, true, false, ◌&&◌, ◌||◌, cond, nat_lt, List, [], ◌∷◌, ◌++◌, length, Option, Some, None, IsSome, refl, sym, ap, ap₂, subst, ◌∙◌, arith, append-nil}
use Rattle.std.proofs.lemmas.Bool.{ltb-false}
use Rattle.std.proofs.lemmas.Bool.Decides.{nat_tests}
use Rattle.atomic_table.specs.Seated.{TableId}
use Rattle.host_log.specs.{SwitchedLog}
use Rattle.host_frames.specs.{PoolSeat}
use Rattle.host_intake.specs.{IntakeEntry, takings, MemorySeat, flights_in, kept_slips}
use Rattle.host_memory.specs.{pins_left, events}
use Rattle.host_model.specs.{Event, Drained, MemEntry, owed, given, given_id, received, received_bytes, sent, sent_bytes}
use Rattle.host_record.specs.{Finish, Drain, Abort}
use Rattle.host_turn.specs.{seat_book, seen_by}
use Rattle.host_log.proofs.Histories.{prefix_refl}
use Rattle.host_session.specs.declared.client.ClientEnd.TheInside.{Inside}
use Rattle.host_session.specs.{ClientState, IntakeSeat, ends_logged, is_aborted, is_drained, IsClientKept, client_state, HasClosedSession, HasNotClosed, IsClosing, IsStillOpen, closing_event, is_unfinished, IsSessionOver, is_undone, owed_count, IsClient, SessionPlan}
use Rattle.host_session.proofs.Ended.{is_over, kept_closed_after_abort, kept_closed_after_drain, kept_open}
use Rattle.host_session.proofs.Requests.{requests_quiet}
use Rattle.host_session.proofs.Snoc.{found_none}

abbrev pub at_books : SessionPlan → TableId → TableId → SessionPlan
at_books p i m = record p { intake = i; memory = m }

-- ---- what is undone

undone_bits : (d x : Bool) (t n w : ℕ) → w ≡ cond d n 0 → (d && x) ≡ false → (d && (nat_lt t n || x)) ≡ nat_lt t w
undone_bits true true t n w e f = absurd (cc f)
undone_bits true false t n w e f = elim (nat_lt t n) as (λ b. (b || false) ≡ b) [ true ↦ refl | false ↦ refl ] ∙ ap (nat_lt t) (sym e)
undone_bits false x t n w e f = sym (ap (nat_lt t) e ∙ grind (arith, nat_tests))

pub undone_is : (finish : Option Finish) (log : List Event) (es : List IntakeEntry) (h : List MemEntry) (wanted : ℕ) → wanted ≡ cond (is_drained finish) (length (sent log)) 0
    → (is_drained finish && nat_lt (length (received log)) (owed_count log)) ≡ false → is_undone finish log es h ≡ is_unfinished wanted es h
undone_is finish log es h wanted e f = ap (λ b. nat_lt 0 (flights_in es) || nat_lt 0 (length (kept_slips es)) || nat_lt 0 (length (pins_left (events h))) || b)
    (undone_bits (is_drained finish) (nat_lt (length (received log)) (owed_count log)) (length (takings es)) (length (sent log)) wanted e f)

-- an answer that is owed is missing
waiting_bits : (d y x : Bool) (rest : Bool) → (d && x) ≡ true → (rest || (d && (y || x))) ≡ true
waiting_bits false y x rest f = absurd (cc f)
waiting_bits true y false rest f = absurd (cc f)
waiting_bits true true true true f = refl
waiting_bits true true true false f = refl
waiting_bits true false true true f = refl
waiting_bits true false true false f = refl

pub waiting_answer : (s : ClientState) (p : PoolSeat) → IsClient s → s.closed ≡ false → (is_drained s.finish && nat_lt (length (received s.log)) (owed_count s.log)) ≡ true → (s.closed ≡ false) × IsStillOpen s s p p
waiting_answer s p k running waits = (
  running,
  record {
    intake_found = seen_by s.intake_seat;
    turn = record { seat = ((refl, refl, refl, refl), k.intake_seat.outside); later = (prefix_refl (seen_by s.intake_seat), refl); left = sym (append-nil (seen_by s.intake_seat)) };
    same = ((refl, refl, refl, refl), k.memory_seat.outside);
    later = (prefix_refl (seen_by s.memory_seat), refl);
    undone = waiting_bits (is_drained s.finish) (nat_lt (length (takings (seen_by s.intake_seat))) (length (sent s.log))) (nat_lt (length (received s.log)) (owed_count s.log))
        (nat_lt 0 (flights_in (seen_by s.intake_seat)) || nat_lt 0 (length (kept_slips (seen_by s.intake_seat))) || nat_lt 0 (length (pins_left (events (seen_by s.memory_seat))))) waits;
    left = ap (λ (n : ℕ). record s { fronts = record { device = s.fronts.device; memory = n } }) known;
    pool = refl;
  },
)
  where
    known : s.fronts.memory ≡ max s.fronts.memory (length (seen_by s.memory_seat))
    known = omega (arith, k.seen)

-- ---- how the session was to end

pub aborted_else : (finish : Option Finish) → IsSome finish → is_drained finish ≡ false → is_aborted finish ≡ true
aborted_else None some e = absurd (cc some)
aborted_else (Some Drain) some e = absurd (cc e)
aborted_else (Some Abort) some e = refl

pub no_event : (finish : Option Finish) (log : List Event) → is_aborted finish ≡ true → log ≡ log ++ closing_event finish
no_event None log e = absurd (cc e)
no_event (Some Drain) log e = absurd (cc e)
no_event (Some Abort) log e = sym (append-nil log)

pub drain_event : (finish : Option Finish) (log : List Event) → is_drained finish ≡ true → log ++ Drained ∷ [] ≡ log ++ closing_event finish
drain_event None log e = absurd (cc e)
drain_event (Some Drain) log e = refl
drain_event (Some Abort) log e = absurd (cc e)

pub none_ended : (finish : Option Finish) (closed : Bool) → is_drained finish ≡ true → closed ≡ false → length (ends_logged finish closed) ≡ 0
none_ended None closed d e = absurd (cc d)
none_ended (Some Abort) closed d e = absurd (cc d)
none_ended (Some Drain) closed d e = ap (λ b. length (ends_logged (Some Drain) b)) e

module _ (a : Inside) (k : IsClientKept a) (running : a.closed ≡ false) (i : IntakeSeat) (m : MemorySeat) (p p' : PoolSeat) (wanted known : ℕ)
    (wanted_is : wanted ≡ cond (is_drained a.finish) a.sent 0) (answered : (is_drained a.finish && nat_lt a.received a.owed) ≡ false) where
  wanted_all : wanted ≡ cond (is_drained a.finish) (length (sent a.log.items)) 0
  wanted_all = wanted_is ∙ ap (λ n. cond (is_drained a.finish) n 0) k.counted.sent

  answered_all : (is_drained a.finish && nat_lt (length (received a.log.items)) (owed_count a.log.items)) ≡ false
  answered_all = ap₂ (λ x y. is_drained a.finish && nat_lt x y) (sym k.counted.received) (sym k.counted.owed) ∙ answered

  -- ---- still open

  module _ (t : HasNotClosed a.hands wanted a.fronts.memory a.intake_seat i a.memory_seat m p p' known) where
    pub open_kept : IsClientKept (record a { fronts = record { device = a.fronts.device; memory = known }; intake_seat = i; memory_seat = m })
    open_kept = record {
      client = subst (λ (x : TableId). IsClient (record (client_state a) { plan = at_books (client_state a).plan x (seat_book m); fronts = record { device = a.fronts.device; memory = known }; intake_seat = i; memory_seat = m })) (sym t.turn.seat.0.0)
          (subst (λ (x : TableId). IsClient (record (client_state a) { plan = at_books (client_state a).plan (seat_book a.intake_seat) x; fronts = record { device = a.fronts.device; memory = known }; intake_seat = i; memory_seat = m })) (sym t.same.0.0)
          (kept_open (client_state a) k.client running i m p p' wanted known t));
      counted = record { sent = k.counted.sent; received = k.counted.received; given = k.counted.given; owed = k.counted.owed; room = k.counted.room; keeps = k.counted.keeps };
      closing = k.closing;
    }

    pub open_answer : ((client_state a).closed ≡ false) × IsStillOpen (client_state a) (client_state (record a { fronts = record { device = a.fronts.device; memory = known }; intake_seat = i; memory_seat = m })) p p'
    open_answer = (
      running,
      record {
        intake_found = t.intake_found;
        turn = t.turn;
        same = t.same;
        later = t.later;
        undone = undone_is a.finish a.log.items t.intake_found (seen_by m) wanted wanted_all answered_all ∙ t.unfinished;
        left = ap₂ (λ (x y : TableId). record (client_state a) { plan = at_books (client_state a).plan x y; fronts = record { device = a.fronts.device; memory = known }; intake_seat = i; memory_seat = m }) t.turn.seat.0.0 t.same.0.0
            ∙ ap (λ (n : ℕ). record (client_state a) { fronts = record { device = a.fronts.device; memory = n }; intake_seat = i; memory_seat = m }) t.known_is;
        pool = t.pool;
      },
    )

  -- ---- closed

  module _ (t : HasClosedSession a.hands wanted a.fronts.memory a.intake_seat i a.memory_seat m p p' known) where
    over : IsSessionOver a.finish a.log.items (seen_by i) (seen_by m)
    over = is_over (client_state a) k.client running i m p p' wanted known t (λ d. wanted_all ∙ ap (λ b. cond b (length (sent a.log.items)) 0) d) (λ d. enough d)
      where
        enough : is_drained a.finish ≡ true → owed_count a.log.items ≤ length (received a.log.items)
        enough d = ltb-false (length (received a.log.items)) (owed_count a.log.items) (ap (λ b. b && nat_lt (length (received a.log.items)) (owed_count a.log.items)) (sym d) ∙ answered_all)

    pub abort_kept : is_aborted a.finish ≡ true → IsClientKept (record a { closed = true; fronts = record { device = a.fronts.device; memory = known }; intake_seat = i; memory_seat = m })
    abort_kept aborted = record {
      client = subst (λ (x : TableId). IsClient (record (client_state a) { plan = at_books (client_state a).plan x (seat_book m); closed = true; fronts = record { device = a.fronts.device; memory = known }; intake_seat = i; memory_seat = m })) (sym t.turn.seat.0.0)
          (subst (λ (x : TableId). IsClient (record (client_state a) { plan = at_books (client_state a).plan (seat_book a.intake_seat) x; closed = true; fronts = record { device = a.fronts.device; memory = known }; intake_seat = i; memory_seat = m })) (sym t.released.visit.seat.0.0)
          (kept_closed_after_abort (client_state a) k.client running i m p p' wanted known t aborted over));
      counted = record { sent = k.counted.sent; received = k.counted.received; given = k.counted.given; owed = k.counted.owed; room = k.counted.room; keeps = k.counted.keeps };
      closing = k.closing;
    }

    pub drain_kept : (l : SwitchedLog Event) → l ≡ record a.log { items = a.log.items ++ Drained ∷ [] } → is_drained a.finish ≡ true → IsClientKept (record a { log = l; closed = true; fronts = record { device = a.fronts.device; memory = known }; intake_seat = i; memory_seat = m })
    drain_kept l log_is drained =
        let items : l.items ≡ a.log.items ++ Drained ∷ [] = ap (λ (x : SwitchedLog Event). x.items) log_is in
        record {
          client = subst (λ (x : SwitchedLog Event). IsClient (client_state (record a { log = x; closed = true; fronts = record { device = a.fronts.device; memory = known }; intake_seat = i; memory_seat = m }))) (sym log_is)
              (subst (λ (x : TableId). IsClient (record (client_state a) { plan = at_books (client_state a).plan x (seat_book m); log = a.log.items ++ Drained ∷ []; closed = true; fronts = record { device = a.fronts.device; memory = known }; intake_seat = i; memory_seat = m })) (sym t.turn.seat.0.0)
              (subst (λ (x : TableId). IsClient (record (client_state a) { plan = at_books (client_state a).plan (seat_book a.intake_seat) x; log = a.log.items ++ Drained ∷ []; closed = true; fronts = record { device = a.fronts.device; memory = known }; intake_seat = i; memory_seat = m })) (sym t.released.visit.seat.0.0)
              (kept_closed_after_drain (client_state a) k.client running i m p p' wanted known t drained (over.answered drained) over)));
          counted = record {
            sent = k.counted.sent ∙ sym (ap (λ x. length (sent x)) items ∙ ap length (found_none sent_bytes a.log.items Drained refl));
            received = k.counted.received ∙ sym (ap (λ x. length (received x)) items ∙ ap length (found_none received_bytes a.log.items Drained refl));
            given = k.counted.given ∙ sym (ap (λ x. length (given x)) items ∙ ap length (found_none given_id a.log.items Drained refl));
            owed = k.counted.owed ∙ sym (ap owed_count items ∙ ap (λ rs. length (owed rs)) (requests_quiet a.log.items Drained refl));
            room = ap (λ (x : SwitchedLog Event). x.room) log_is ∙ k.counted.room;
            keeps = ap (λ (x : SwitchedLog Event). x.kept) log_is ∙ k.counted.keeps;
          };
          closing = k.closing;
        }

    pub closed_answer : (l : SwitchedLog Event) → l.items ≡ a.log.items ++ closing_event a.finish
        → ((client_state a).closed ≡ false) × IsClosing (client_state a) (client_state (record a { log = l; closed = true; fronts = record { device = a.fronts.device; memory = known }; intake_seat = i; memory_seat = m })) p p'
    closed_answer l items = (
      running,
      record {
        intake_found = t.intake_found;
        turn = t.turn;
        released = t.released;
        done = undone_is a.finish a.log.items t.intake_found t.released.found wanted wanted_all answered_all ∙ t.done;
        left = ap₂ (λ (x y : TableId). record (client_state a) { plan = at_books (client_state a).plan x y; log = l.items; closed = true; fronts = record { device = a.fronts.device; memory = known }; intake_seat = i; memory_seat = m }) t.turn.seat.0.0 t.released.visit.seat.0.0
            ∙ ap₂ (λ (x : List Event) (n : ℕ). record (client_state a) { log = x; closed = true; fronts = record { device = a.fronts.device; memory = n }; intake_seat = i; memory_seat = m }) items t.known_is;
      },
    )
