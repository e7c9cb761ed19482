-- What the next record is to the hand that takes it.
use Rattle.std.proofs.Common.{◌≡◌, ℕ, ◌+◌, ◌-◌, ◌≤◌, Bool, true, false, not, ◌&&◌, ◌||◌, nat_le, cond, List, [], ◌∷◌, ◌++◌, length, take, drop, Option, Some, None, refl, sym, ap, ap₂, subst, ◌∙◌, arith, length-append, lit<, eq-eqb}
use Rattle.std.proofs.Math.Bool.{or-true}
use Rattle.std.specs.Prelude.{IsSome, MatchOption, is_none, ltb}
use Rattle.std.specs.List.{list_any}
use Rattle.std.proofs.lemmas.Bool.{leb-true, ltb-false}
use Rattle.std.proofs.lemmas.List.{length-map, map-append, take-append-drop}
use Rattle.std.proofs.lemmas.List.Folds.{list_any-append}
use Rattle.atomic_table.specs.Seated.{TableId}
use Rattle.host_block.specs.declared.range.Range.{Range}
use Rattle.host_frames.specs.{SeenPages, contents, pages_pool}
use Rattle.host_group.specs.{CellSeat, seat_cells}
use Rattle.host_intake.specs.{IntakeEntry, Running, FoundNoRecord, ArePagesClosed, GivesSeenPages, HasTaken, IsAdmitted, IsRecordRefused, taking_entry, Taking, envelope_of, place_of, request_in, takings, is_shut, HasRight, IntakeState, MemorySeat, IsJudged, judged_on, made, under, phase_in, turn_of}
use Rattle.host_intake.proofs.Accepting.{all_passed}
use Rattle.host_log.proofs.Bools.{and_left, and_right}
use Rattle.host_memory.specs.{MemoryPlan, page_count_of, standing_in, ArePagesOf, is_done_for, is_pin_by, events}
use Rattle.host_memory.proofs.Pushed.{filter_map_skip}
use Rattle.host_model.specs.{MemEntry, MemEvent, Pin, Accepted, Refused, last, checks, is_accepted, is_within, judged}
use Rattle.host_model.specs.declared.verdict.Verdict.{Verdict}
use Rattle.host_record.specs.{Opcode, InvalidArgs, is_close, is_transfer, names_blocks, opcode, request_of}
use Rattle.host_record.specs.declared.opcode.Opcode.TheVariants as opcode
use Rattle.host_record.specs.declared.request.Request.{Request}
use Rattle.host_record.specs.declared.status.Status.{Status}
use Rattle.host_rings.specs.{Envelope, SlipSenderState, TakerState, with_heard}
use Rattle.host_log.specs.{entries_of}
use Rattle.host_turn.specs.{fixed_part, number, seen_by}
use Rattle.host_session.specs.{SessionSpec}
use Rattle.host_hand.specs.{Next, Work, IsHeld, IsOfPool, errand_of, is_closer, pages_named, HasTakenNext, IsNext, CannotTake, all_taken, at_limit, finished, stalled, next_for, work_for, IsWork, pages_with, work_verdict}
use Rattle.host_hand.specs.declared.next.Next.TheVariants as next
use Rattle.host_hand.specs.declared.work.Work.TheVariants as work
use Rattle.host_hand.proofs.Finished.{events_under}
use Rattle.host_hand.proofs.LeftBehind.{made_as}

-- ---- phases

pub phase_same : (es : List IntakeEntry) (e : IntakeEntry) → turn_of e ≡ None → phase_in (es ++ e ∷ []) ≡ phase_in es
phase_same es e is = ap (last Running) (filter_map_skip turn_of es e is)

-- ---- what an accepted record is

pub accepted_opcode : (part : Range) (pages : Option ℕ) (r : Request) → judged part pages r ≡ Accepted → is_none (opcode r) ≡ false
unfolding judged
accepted_opcode part pages r e = all_passed (checks part pages r) e 1 (false, InvalidArgs) (lit< tt)

must : (n w : Bool) → n ≡ true → (n && not w) ≡ false → w ≡ true
must true true a b = refl
must true false a b = sym b
must false w a b = absurd (cc a)

accepted_inside : (part : Range) (pages : Option ℕ) (r : Request) → judged part pages r ≡ Accepted → names_blocks (opcode r) ≡ true → r.dev_offset + r.length ≤ part.count
unfolding judged
accepted_inside part pages r e names =
    let f : (names_blocks (opcode r) && not (is_within r.dev_offset r.length part.count)) ≡ false = all_passed (checks part pages r) e 4 (false, InvalidArgs) (lit< tt) in
    let w : (nat_le r.length part.count && nat_le r.dev_offset (part.count - r.length)) ≡ true = must (names_blocks (opcode r)) (is_within r.dev_offset r.length part.count) names f in
    let a = leb-true r.length part.count (and_left (nat_le r.length part.count) (nat_le r.dev_offset (part.count - r.length)) w) in
    let b = leb-true r.dev_offset (part.count - r.length) (and_right (nat_le r.length part.count) (nat_le r.dev_offset (part.count - r.length)) w) in
    omega arith

-- ---- which records wait, and which bring pages

no_close : (a c p w : Bool) → c ≡ false → w ≡ (a && c && p) → w ≡ false
no_close true c p w is e = e ∙ ap (λ b. b && p) is
no_close false c p w is e = e

no_accept : (v : Verdict) (status : Status) (c p w : Bool) → v ≡ Refused status → w ≡ (is_accepted v && c && p) → w ≡ false
no_accept v status c p w is e = e ∙ ap (λ x. is_accepted x && c && p) is

no_pages : (a c w : Bool) → c ≡ false → (a && c && not w) ≡ false
no_pages true c w is = ap (λ b. b && not w) is
no_pages false c w is = refl

refused_pages : (v : Verdict) (status : Status) (c w : Bool) → v ≡ Refused status → (is_accepted v && c && not w) ≡ false
refused_pages v status c w is = ap (λ x. is_accepted x && c && not w) is

-- a close of which no pages came out waits
none_waits : (v : Verdict) (c w : Bool) → v ≡ Accepted → c ≡ true → false ≡ (is_accepted v && c && not w) → w ≡ true
none_waits v c true is close e = refl
none_waits v c false is close e = absurd (let f : false ≡ true = e ∙ (ap (λ x. is_accepted x && c && true) is ∙ ap (λ x. true && x && true) close) in cc)

some_waits : (v : Verdict) (c w : Bool) → v ≡ Accepted → c ≡ true → true ≡ (is_accepted v && c && not w) → w ≡ false
some_waits v c false is close e = refl
some_waits v c true is close e = absurd (let f : true ≡ false = e ∙ (ap (λ x. is_accepted x && c && false) is ∙ ap (λ x. true && x && false) close) in cc)

-- ---- what taking it left

any_left : (p : MemEvent → Bool) (s m num : ℕ) (h : List MemEntry) (ms : List MemEvent) → take m (drop s h) ≡ under num ms → list_any p ms ≡ true → list_any p (events h) ≡ true
any_left p s m num h ms is found =
    ap (λ l. list_any p (events l)) (sym (take-append-drop s h) ∙ ap (λ l. take s h ++ l) (sym (take-append-drop m (drop s h))))
    ∙ (ap (list_any p) (map-append (λ (e : MemEntry). e.what) (take s h) (take m (drop s h) ++ drop m (drop s h)) ∙ ap (λ l. events (take s h) ++ l) (map-append (λ (e : MemEntry). e.what) (take m (drop s h)) (drop m (drop s h))))
    ∙ (list_any-append p (events (take s h)) (events (take m (drop s h)) ++ events (drop m (drop s h)))
    ∙ (ap (λ b. list_any p (events (take s h)) || b) (list_any-append p (events (take m (drop s h))) (events (drop m (drop s h)))
    ∙ ap (λ b. b || list_any p (events (drop m (drop s h)))) (ap (λ l. list_any p (events l)) is ∙ (ap (list_any p) (events_under num ms) ∙ found)))
    ∙ or-true (list_any p (events (take s h))))))

pin_is : (hand i v : ℕ) → list_any (is_pin_by hand i v) (Pin i v hand ∷ []) ≡ true
pin_is hand i v = ap (λ b. b || false) (ap₂ (λ a b. a && b) (ap₂ (λ a b. a && b) (eq-eqb hand hand refl) (eq-eqb i i refl)) (eq-eqb v v refl))

-- ---- the job

pub taken_next : (hand : ℕ) (spec : SessionSpec) (old new : IntakeState) (seat : MemorySeat) (e : Envelope) (t : Taking) → t.hand ≡ hand → old.part ≡ spec.part → HasTaken old new seat e t → HasTakenNext hand spec.part old.entries new.entries (seen_by seat) t
taken_next hand spec old new seat e t by part k = record {
  by = by;
  index = ap (λ (x : Envelope). x.index) k.envelope ∙ k.index;
  entries = k.entries;
  admissions = number old.memory_seat;
  judged = subst (λ p. IsJudged p (number old.memory_seat) (seen_by seat) t) part k.judged;
}

pub refused_next : (hand : ℕ) (cells : TableId) (spec : SessionSpec) (pool : TableId × ℕ) (told : ℕ) (old new : IntakeState) (seat : MemorySeat) (e : Envelope) (status : Status) (right : Option CellSeat) (s : SlipSenderState) (t : Taking)
    → seat_cells old.cell_seat ≡ cells → old.part ≡ spec.part → IsRecordRefused hand old new seat e status right t
    → IsNext cells spec pool told hand old.entries new.entries (seen_by seat) s s (next.Took (record { envelope = e; work = work.Refuse status; right = right }))
refused_next hand cells spec pool told old new seat e status right s t same part k =
    let waits = no_accept t.verdict status (is_close (opcode (request_in t))) _ t.waits k.verdict k.taken.judged.waits in (
      refl,
      (
        t,
        taken_next hand spec old new seat e t k.by part k.taken,
        record {
          envelope = k.taken.envelope;
          verdict = k.verdict;
          waits = waits;
          right = subst (λ c. HasRight c (takings new.entries) t right) same (k.right_out.0 waits).1;
          work_is = record { is_for = tt; in_part = tt; holds = tt; with_pages = tt };
          pages = ap (λ b. cond b (pages_named (seen_by seat) t) 0) (sym (refused_pages t.verdict status (is_close (opcode (request_in t))) t.waits k.verdict));
        },
      ),
    )

pub idle_next : (cells : TableId) (spec : SessionSpec) (pool : TableId × ℕ) (told n : ℕ) (old new : List IntakeEntry) (h : List MemEntry) (s : SlipSenderState) → new ≡ old → is_shut (phase_in old) ≡ false → CannotTake told old → IsNext cells spec pool told n old new h s s next.Idle
idle_next cells spec pool told n old new h s same shut take =
    (refl, same, ap (λ es. is_shut (phase_in es)) same ∙ shut, subst (λ es. CannotTake told es) (sym same) take)

-- what a note tells is heard
pub heard_many : (t : TakerState) (pushed : List Envelope) → length pushed ≤ length (with_heard t pushed).heard
heard_many t pushed = by_length (ltb (length t.heard) (length pushed)) refl
  where
    by_length : (b : Bool) → ltb (length t.heard) (length pushed) ≡ b → length pushed ≤ length (cond b pushed t.heard)
    by_length true e = omega arith
    by_length false e = ltb-false (length t.heard) (length pushed) e

-- where nothing was found in the ring, all that were heard to be pushed were taken
pub none_left : (s : IntakeState) → FoundNoRecord s → length s.taker.heard ≤ length (takings s.entries)
none_left s k =
    let e = k.empty in
    let begins = e.2.1 in
    omega (arith, e.1, length-append s.taker.taken e.0, ap length begins, length-append s.taker.heard e.2.0, ap length k.popped, length-map (takings s.entries) envelope_of)

-- what holds for those told of more holds for those told of fewer
pub cannot_fewer : (few many : ℕ) (es : List IntakeEntry) → few ≤ many → CannotTake many es → CannotTake few es
cannot_fewer few many es le (finished over) = finished over
cannot_fewer few many es le (at_limit runs load) = at_limit runs load
cannot_fewer few many es le (all_taken may all) = all_taken may (omega (arith, le, all))
cannot_fewer few many es le (stalled may g flies) = stalled may g flies

pub next_fewer : (cells : TableId) (spec : SessionSpec) (pool : TableId × ℕ) (few many n : ℕ) (old new : List IntakeEntry) (h : List MemEntry) (s s' : SlipSenderState) (found : Next) → few ≤ many → IsNext cells spec pool many n old new h s s' found → IsNext cells spec pool few n old new h s s' found
next_fewer cells spec pool few many n old new h s s' next.Passed le k = k
next_fewer cells spec pool few many n old new h s s' next.Waits le k = k
next_fewer cells spec pool few many n old new h s s' next.Idle le k = (k.0, k.1, k.2, cannot_fewer few many new le k.3)
next_fewer cells spec pool few many n old new h s s' next.Closed le k = k
next_fewer cells spec pool few many n old new h s s' (next.Took job) le k = k

module _ (hand : ℕ) (cells : TableId) (spec : SessionSpec) (pool : TableId × ℕ) (told : ℕ) (old new : IntakeState) (seat : MemorySeat) (e : Envelope) (right : Option CellSeat) (s : SlipSenderState) (t : Taking) (all : Option SeenPages)
    (same : seat_cells old.cell_seat ≡ cells) (part : old.part ≡ spec.part) (shut : is_shut (phase_in old.entries) ≡ false) (of_pool : IsOfPool pool seat)
    (undone : list_any (is_done_for (place_of t)) (events (entries_of (λ x. x.hand) t.hand (seen_by seat))) ≡ false) (k : IsAdmitted hand old new seat e all right t) where
  taken : HasTakenNext hand spec.part old.entries new.entries (seen_by seat) t
  taken = taken_next hand spec old new seat e t k.by part k.taken

  accepted : judged spec.part (standing_in (request_in t).vmoid (place_of t) (judged_on (seen_by seat) t)) (request_in t) ≡ Accepted
  accepted = sym taken.judged.verdict ∙ k.verdict

  -- it has this work
  job : (w : Work) → work_verdict w ≡ Accepted → t.waits ≡ false → IsWork (errand_of t.hand spec t.envelope) pool (seen_by seat) w → pages_with w ≡ cond (is_closer t) (pages_named (seen_by seat) t) 0
      → IsNext cells spec pool told hand old.entries new.entries (seen_by seat) s s (next.Took (record { envelope = e; work = w; right = right }))
  job w v waits is pages = (
    refl,
    (
      t,
      taken,
      record {
        envelope = k.taken.envelope;
        verdict = k.verdict ∙ sym v;
        waits = waits;
        right = subst (λ c. HasRight c (takings new.entries) t right) same (k.right_out.0 waits).1;
        work_is = is;
        pages = pages;
      },
    ),
  )

  no_waits : is_close (opcode (request_in t)) ≡ false → t.waits ≡ false
  no_waits no_close_here = no_close (is_accepted t.verdict) (is_close (opcode (request_in t))) _ t.waits no_close_here k.taken.judged.waits

  without : is_close (opcode (request_in t)) ≡ false → 0 ≡ cond (is_closer t) (pages_named (seen_by seat) t) 0
  without no_close_here = ap (λ b. cond b (pages_named (seen_by seat) t) 0) (sym (no_pages (is_accepted t.verdict) (is_close (opcode (request_in t))) t.waits no_close_here))

  -- it holds its buffer
  held : made t ≡ Pin (place_of t) (request_in t).vmoid t.hand ∷ [] → is_transfer (opcode (request_in t)) ≡ true → IsHeld (errand_of t.hand spec t.envelope) (seen_by seat)
  held pin transfer = record {
    pinned = any_left (is_pin_by t.hand (place_of t) (request_in t).vmoid) t.seen (length (made t)) taken.admissions (seen_by seat) (Pin (place_of t) (request_in t).vmoid t.hand ∷ []) (taken.judged.left ∙ ap (under taken.admissions) pin) (pin_is t.hand (place_of t) (request_in t).vmoid);
    undone = undone;
    blocks = k.blocks transfer;
  }

  -- the pages of a buffer that it closed
  closed_pages : (p : SeenPages) → ArePagesClosed seat t p → (pages_pool p ≡ pool) × (length (contents p) ≡ pages_named (seen_by seat) t)
  closed_pages p = at (fixed_part seat) refl
    where
      at : (o : Option MemoryPlan) → fixed_part seat ≡ o → MatchOption o ⊥ (λ plan. ArePagesOf plan.pool plan.limits.size (judged_on (seen_by seat) t) (request_in t).vmoid (page_count_of (request_in t).vmoid (judged_on (seen_by seat) t)) p)
          → (pages_pool p ≡ pool) × (length (contents p) ≡ pages_named (seen_by seat) t)
      at None is m = absurd m
      at (Some plan) is m = (m.of_pool ∙ of_pool plan is, m.number)

  kinds : (o : Option Opcode) (pages : Option SeenPages) → opcode (request_in t) ≡ o → GivesSeenPages seat t pages → IsNext cells spec pool told hand old.entries new.entries (seen_by seat) s s (next_for e right (work_for o pages))
  kinds None pages is m = absurd (let f : true ≡ false = sym (ap is_none is) ∙ accepted_opcode spec.part _ (request_in t) accepted in cc)
  kinds (Some opcode.Read) pages is m = job work.Read refl (no_waits (ap is_close is)) (record {
    is_for = is;
    in_part = accepted_inside spec.part _ (request_in t) accepted (ap names_blocks is);
    holds = held (made_as t (Some opcode.Read) is k.verdict) (ap is_transfer is);
    with_pages = tt;
  }) (without (ap is_close is))
  kinds (Some opcode.Write) pages is m = job work.Write refl (no_waits (ap is_close is)) (record {
    is_for = is;
    in_part = accepted_inside spec.part _ (request_in t) accepted (ap names_blocks is);
    holds = held (made_as t (Some opcode.Write) is k.verdict) (ap is_transfer is);
    with_pages = tt;
  }) (without (ap is_close is))
  kinds (Some opcode.Trim) pages is m = job work.Trim refl (no_waits (ap is_close is)) (record {
    is_for = is;
    in_part = accepted_inside spec.part _ (request_in t) accepted (ap names_blocks is);
    holds = tt;
    with_pages = tt;
  }) (without (ap is_close is))
  kinds (Some opcode.Flush) pages is m = job work.Flush refl (no_waits (ap is_close is)) (record { is_for = is; in_part = tt; holds = tt; with_pages = tt }) (without (ap is_close is))
  kinds (Some opcode.Close) None is m =
      (refl, ap is_shut (ap phase_in k.taken.entries ∙ phase_same old.entries (taking_entry t) refl) ∙ shut, (t, taken, none_waits t.verdict (is_close (opcode (request_in t))) t.waits k.verdict (ap is_close is) m.0))
  kinds (Some opcode.Close) (Some p) is m =
      let q = closed_pages p m.1 in
      job (work.Close p) refl (some_waits t.verdict (is_close (opcode (request_in t))) t.waits k.verdict (ap is_close is) m.0) (record { is_for = is; in_part = tt; holds = tt; with_pages = q.0 })
      (q.1 ∙ ap (λ b. cond b (pages_named (seen_by seat) t) 0) m.0)

  pub admitted_next : (o : Option Opcode) → opcode (request_of e.bytes) ≡ o → IsNext cells spec pool told hand old.entries new.entries (seen_by seat) s s (next_for e right (work_for o all))
  admitted_next o is = kinds o all (ap (λ (x : Envelope). opcode (request_of x.bytes)) k.taken.envelope ∙ is) k.pages_out

-- an accepted record asks for something
pub accepted_some : (part : Range) (num : ℕ) (h : List MemEntry) (t : Taking) (e : Envelope) → IsJudged part num h t → t.verdict ≡ Accepted → t.envelope ≡ e → IsSome (opcode (request_of e.bytes))
accepted_some part num h t e j v is = subst (λ (x : Envelope). IsSome (opcode (request_of x.bytes))) is (some (opcode (request_in t)) (accepted_opcode part _ (request_in t) (sym j.verdict ∙ v)))
  where
    some : (o : Option Opcode) → is_none o ≡ false → IsSome o
    some None e = absurd (cc e)
    some (Some x) e = refl
