-- A session that is opened: its client end is one, and its parts belong together.
use Rattle.std.proofs.Common.{◌≡◌, ℕ, ◌+◌, ◌<◌, Bool, false, List, [], length, map, slice_index_or, All, Option, None, Some, refl, sym, ap, subst, ◌∙◌, arith}
use Rattle.std.proofs.lemmas.List.{get_or-map, length-map}
use Rattle.atomic_table.specs.Seated.{TableId}
use Rattle.host_frames.specs.{pool_id}
use Rattle.host_group.specs.{CellSeat, seat_cells}
use Rattle.host_intake.specs.{IntakeEntry, IntakePlan, IntakeState, MemorySeat, plan_of_intake}
use Rattle.host_model.specs.{Event, MemEntry, given, received, sent}
use Rattle.host_record.specs.{Finish}
use Rattle.host_rings.specs.{Envelope, Slip, AreFresh, SlipSenderState, slip_sender_of, EachPlace, TakerState}
use Rattle.host_turn.specs.{BookSeat, IsNewSeat, number, seat_book, seen_by}
use Rattle.host_session.specs.declared.client.ClientEnd.TheInside.{Inside}
use Rattle.host_session.specs.{Fronts, SessionHand, SessionShared, SessionSpec, AreLate, IsCourse, ClientState, HasRoomForHands, IsClientKept, client_state, IsEndedSoFar, owed_count, HasRings, IsClient, IsLog, IsDealt, AreAllHands, IsFreshHand, IsHand, IsSeatIn, IsShared, SessionPlan, intake_plan, memory_plan, IsClientTold}

-- ---- a client end that has done nothing

told_empty : (client size : ℕ) → IsClientTold client size [] []
told_empty client size = record { entries = refl; ids = refl; shows = refl; found = refl; own = refl }

ended_empty : (client : ℕ) → IsEndedSoFar client None false [] [] []
ended_empty client = record { first = λ e. refl; turned = refl; logged = refl; last = λ e. absurd (cc e); drained = λ e f. absurd (cc f); own = refl; running = λ e. refl; over = λ e. absurd (cc e) }

log_empty : (spec : SessionSpec) → IsLog spec []
log_empty spec = record { numbered = refl; ids = refl; records = omega arith; given = omega arith; room = omega arith }

course_empty : (known : Fronts) → IsCourse [] [] [] [] known []
course_empty known = record {
  events_are = refl;
  envelopes = refl;
  sent = refl;
  numbered = refl;
  slips = record { marked = []; all_are = refl; some_are = refl };
  received = refl;
  fronts = record { device = omega arith; memory = omega arith };
  places = refl;
  each = λ n a at. absurd (cc at);
}

late_empty : (client : ℕ) (es : List IntakeEntry) → AreLate client es [] []
late_empty client es n e at by is = absurd (cc at)

module _ (s : ClientState) (log : s.log ≡ []) (finish : s.finish ≡ None) (closed : s.closed ≡ false) (taken : seen_by s.intake_seat ≡ []) (done : seen_by s.memory_seat ≡ [])
    (pushed : s.sender.pushed ≡ []) (received : s.taker.taken ≡ []) where
  new_told : IsClientTold s.plan.hands s.plan.spec.size s.log (seen_by s.memory_seat)
  new_told = subst (λ (l : List Event). IsClientTold s.plan.hands s.plan.spec.size l (seen_by s.memory_seat)) (sym log)
      (subst (λ (h : List MemEntry). IsClientTold s.plan.hands s.plan.spec.size [] h) (sym done) (told_empty s.plan.hands s.plan.spec.size))

  new_ended : IsEndedSoFar s.plan.hands s.finish s.closed s.log (seen_by s.intake_seat) (seen_by s.memory_seat)
  new_ended = subst (λ (f : Option Finish). IsEndedSoFar s.plan.hands f s.closed s.log (seen_by s.intake_seat) (seen_by s.memory_seat)) (sym finish)
      (subst (λ (b : Bool). IsEndedSoFar s.plan.hands None b s.log (seen_by s.intake_seat) (seen_by s.memory_seat)) (sym closed)
      (subst (λ (l : List Event). IsEndedSoFar s.plan.hands None false l (seen_by s.intake_seat) (seen_by s.memory_seat)) (sym log)
      (subst (λ (es : List IntakeEntry). IsEndedSoFar s.plan.hands None false [] es (seen_by s.memory_seat)) (sym taken)
      (subst (λ (h : List MemEntry). IsEndedSoFar s.plan.hands None false [] [] h) (sym done) (ended_empty s.plan.hands)))))

  new_course : IsCourse s.log s.sender.pushed s.taker.taken (seen_by s.memory_seat) s.fronts []
  new_course = subst (λ (l : List Event). IsCourse l s.sender.pushed s.taker.taken (seen_by s.memory_seat) s.fronts []) (sym log)
      (subst (λ (x : List Envelope). IsCourse [] x s.taker.taken (seen_by s.memory_seat) s.fronts []) (sym pushed)
      (subst (λ (x : List Slip). IsCourse [] [] x (seen_by s.memory_seat) s.fronts []) (sym received)
      (subst (λ (h : List MemEntry). IsCourse [] [] [] h s.fronts []) (sym done) (course_empty s.fronts))))

  pub new_client : IsSeatIn s.plan.intake (intake_plan s.plan) s.plan.hands s.intake_seat → IsSeatIn s.plan.memory (memory_plan s.plan) s.plan.hands s.memory_seat → s.plan.pool.1 ≡ s.plan.spec.size → HasRings s → IsClient s
  new_client intake memory size rings = record {
    intake_seat = intake;
    memory_seat = memory;
    page_size = size;
    rings = rings;
    log = subst (λ (l : List Event). IsLog s.plan.spec l) (sym log) (log_empty s.plan.spec);
    told = new_told;
    seen = omega (arith, ap length done);
    ended = new_ended;
    acts = [];
    course = new_course;
    late = subst (λ (h : List MemEntry). AreLate s.plan.hands (seen_by s.intake_seat) h []) (sym done) (late_empty s.plan.hands (seen_by s.intake_seat));
  }

-- the same by the fields
pub new_kept : (a : Inside) → IsSeatIn (seat_book a.intake_seat) (intake_plan (client_state a).plan) a.hands a.intake_seat → IsSeatIn (seat_book a.memory_seat) (memory_plan (client_state a).plan) a.hands a.memory_seat
    → (pool_id a.pool.value).1 ≡ a.spec.size → a.sender.records ≡ a.spec.records → a.taker.senders ≡ a.hands → a.log.items ≡ [] → a.log.room ≡ a.spec.events + 1 → a.log.kept ≡ a.spec.keeps → (a.sent ≡ 0) × (a.received ≡ 0) × (a.given ≡ 0) × (a.owed ≡ 0)
    → a.finish ≡ None → a.closed ≡ false → seen_by a.intake_seat ≡ [] → seen_by a.memory_seat ≡ [] → a.sender.pushed ≡ [] → a.taker.taken ≡ [] → HasRoomForHands a.hands a.closing → IsClientKept a
new_kept a intake memory size records senders log room keeps numbers finish closed taken done pushed got closing = record {
  client = new_client (client_state a) log finish closed taken done pushed got intake memory size (record { sender = (refl, records); taker = (refl, senders) });
  counted = record {
    sent = numbers.0 ∙ sym (ap (λ (l : List Event). length (sent l)) log);
    received = numbers.1 ∙ sym (ap (λ (l : List Event). length (received l)) log);
    given = numbers.2 ∙ sym (ap (λ (l : List Event). length (given l)) log);
    owed = numbers.3 ∙ sym (ap owed_count log);
    room = room;
    keeps = keeps;
  };
  closing = closing;
}

-- a new seat, of a book that is named so, and whose state was made with this plan
pub new_seat_in : {S E F : Type 0} (story : S → List E) (fixed : S → F) (b : TableId) (x : S) (n m : ℕ) (q : BookSeat S E F) (book : TableId) (plan : F) → IsNewSeat story fixed b x n q → seat_book q ≡ book → n ≡ m → fixed x ≡ plan → IsSeatIn book plan m q
new_seat_in story fixed b x n m q book plan new name same is = record { book_is = name; outside = new.1; number_is = new.2 ∙ same; plan_is = new.4 ∙ ap Some is }

-- ---- the plan of an intake that was made for the session

abbrev planned : SessionPlan → ℕ → TableId → TableId → TableId → IntakePlan
planned p n ring memory cells = record { part = p.spec.part; size = p.spec.size; room = p.spec.records; keeps = p.spec.keeps; admissions = n; ring = ring; memory = memory; cells = cells }

pub intake_plan_is : (p : SessionPlan) (o : IntakeState) (taker : TakerState) (admissions : MemorySeat) (cell_seat : CellSeat)
    → o ≡ record { part = p.spec.part; size = p.spec.size; room = p.spec.records; keeps = p.spec.keeps; entries = []; held = None; waiting = []; taker = taker; memory_seat = admissions; cell_seat = cell_seat }
    → taker.ring ≡ p.requests → number admissions ≡ p.hands + 1 → seat_book admissions ≡ p.memory → seat_cells cell_seat ≡ p.cells → plan_of_intake o ≡ intake_plan p
intake_plan_is p o taker admissions cell_seat made ring num book cells =
    ap plan_of_intake made
    ∙ (ap (λ (n : ℕ). planned p n taker.ring (seat_book admissions) (seat_cells cell_seat)) num
    ∙ (ap (λ (r : TableId). planned p (p.hands + 1) r (seat_book admissions) (seat_cells cell_seat)) ring
    ∙ (ap (λ (b : TableId). planned p (p.hands + 1) p.requests b (seat_cells cell_seat)) book
    ∙ ap (λ (d : TableId). planned p (p.hands + 1) p.requests p.memory d) cells)))

-- ---- the hands

module _ (p : SessionPlan) (shared : SessionShared) (part : IsShared p shared) where
  hand_is : (k : ℕ) (hand : SessionHand) → IsDealt shared.intake shared.memory k hand → hand.sender ≡ slip_sender_of p.answers p.spec.depth k [] → IsHand p k hand
  hand_is k hand d s = record {
    intake = record { book_is = d.intake_seat.0 ∙ part.books.0; outside = d.intake_seat.1; number_is = d.intake_seat.2; plan_is = d.intake_seat.4 ∙ ap Some part.plans.0 };
    memory = record { book_is = d.memory_seat.0 ∙ part.books.1; outside = d.memory_seat.1; number_is = d.memory_seat.2; plan_is = d.memory_seat.4 ∙ ap Some part.plans.1 };
    sender = (ap (λ (x : SlipSenderState). x.ring) s, ap (λ (x : SlipSenderState). x.number) s);
  }

  hand_fresh : (k : ℕ) (hand : SessionHand) → IsDealt shared.intake shared.memory k hand → hand.sender ≡ slip_sender_of p.answers p.spec.depth k [] → IsFreshHand hand
  hand_fresh k hand d s = record {
    intake = d.intake_seat.3 ∙ part.nothing.0;
    memory = d.memory_seat.3 ∙ part.nothing.1;
    sender = ap (λ (x : SlipSenderState). x.pushed) s;
  }

  module _ (all : List SessionHand) (senders : List SlipSenderState) (are : map (λ (hand : SessionHand). hand.sender) all ≡ senders) (fresh : AreFresh p.answers p.spec.depth senders) (count : length senders ≡ p.hands)
      (each : EachPlace (IsDealt shared.intake shared.memory) all) where
    as_many : length all ≡ length senders
    as_many = sym (length-map all (λ (hand : SessionHand). hand.sender)) ∙ ap length are

    sender_at : (k : ℕ) (d : SessionHand) → k < length all → (slice_index_or all k d).sender ≡ slip_sender_of p.answers p.spec.depth k []
    sender_at k d lt = sym (get_or-map (λ (hand : SessionHand). hand.sender) all k d d.sender lt) ∙ (ap (λ (l : List SlipSenderState). slice_index_or l k d.sender) are ∙ fresh k d.sender (omega (arith, lt, as_many)))

    pub all_hands : AreAllHands p all
    all_hands = (as_many ∙ count, λ k d lt. hand_is k (slice_index_or all k d) (each k d lt) (sender_at k d lt))

    pub all_fresh : All IsFreshHand all
    all_fresh k d lt = hand_fresh k (slice_index_or all k d) (each k d lt) (sender_at k d lt)
