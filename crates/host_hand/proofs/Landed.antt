-- That a record may land: it is in flight, its right was settled with its end, and its answer is the one owed.
use Rattle.std.proofs.Common.{◌≡◌, ◌≢◌, ◌⊎◌, inl, inr, ℕ, zero, suc, ◌<◌, ◌==◌, Bool, true, false, ◌||◌, nat_lt, List, [], ◌∷◌, ◌++◌, length, Option, Some, None, MatchOption, refl, sym, ap, subst, ◌∙◌, arith, append_assoc, append-nil, length-append, eq-eqb}
use Rattle.std.specs.Prelude.{slice_get, unwrap_or}
use Rattle.std.specs.List.{list_any}
use Rattle.std.specs.Option.{option_map_or}
use Rattle.std.proofs.lemmas.Bool.{ltb-true}
use Rattle.std.proofs.lemmas.Bool.Decides.{eqb_tells}
use Rattle.std.proofs.lemmas.List.Elements.{All-nil, All-cons, filter_map-append}
use Rattle.std.proofs.lemmas.Option.{slice_get_within}
use mathlib.Core.List.{IsPrefix}
use Rattle.atomic_table.specs.Seated.{TableId}
use Rattle.host_record.specs.declared.request.Request.{Request}
use Rattle.host_record.specs.{request_of}
use Rattle.host_model.specs.{is_member, request_at}
use Rattle.host_group.specs.{CellSeat, IsRightOf, row}
use Rattle.host_rings.specs.{Envelope, SlipSenderState}
use Rattle.host_record.specs.declared.status.Status.TheVariants as status
use Rattle.host_log.specs.{Continues}
use Rattle.host_log.proofs.Histories.{prefix_trans}
use Rattle.host_intake.specs.{IntakeEntry, Landed, RecordEnd, Waiting, answer_owed, Landing, Taking, is_landing_of, landings, maker_of, place_of, request_in, requests_of, taking_of, takings, is_lander, member_at, AreSettled, HasRight, Phase, Running, Draining, Aborted, Closed, IsIntake, is_shut, IntakeState, is_flying, is_open, phase_in, AreWaiting, IsOfTaking, IsRecordWaiting, is_waiting_at}
use Rattle.host_intake.proofs.Counting.{count_cut}
use Rattle.host_log.proofs.Bools.{and_left, and_right}
use Rattle.host_intake.proofs.Admitting.{member_same}
use Rattle.host_intake.proofs.Membering.{member_index}
use Rattle.host_hand.specs.{HasLandedClose, HasLandedCloseInTurn, HasRightTo, IsInFlightBy, WasUsed, slips_pushed, sender_with_slips}
use Rattle.host_hand.proofs.Entered.{taken_longer, taking_longer}
use Rattle.host_log.proofs.Growing.{added_turn}
use Rattle.host_log.proofs.Places.{none_at}

-- no close waits of a record that was taken without waiting
pub none_waits : (cells : TableId) (ts : List Taking) (ls : List Landing) (ws : List Waiting) (i : ℕ) (t : Taking) → AreWaiting cells ts ls ws → slice_get ts i ≡ Some t → t.waits ≡ false → list_any (is_waiting_at i) ws ≡ false
none_waits cells ts ls ws i t k at still = none_at (is_waiting_at i) ws (λ n w e. step w (eqb_tells w.envelope.index i) (k.each n w e))
  where
    step : (w : Waiting) → (((w.envelope.index == i) ≡ true) × (w.envelope.index ≡ i)) ⊎ (((w.envelope.index == i) ≡ false) × (w.envelope.index ≢ i)) → IsOfTaking cells ts ls w → is_waiting_at i w ≡ false
    step w (inr s) m = s.0
    step w (inl s) m =
        let x : IsRecordWaiting cells ts ls w t = subst (λ (o : Option Taking). MatchOption o ⊥ (λ u. IsRecordWaiting cells ts ls w u)) (ap (λ j. slice_get ts j) s.1 ∙ at) m in
        absurd (let f : true ≡ false = sym x.waits ∙ still in cc)

-- the request of a record that was taken
pub request_there : (ts : List Taking) (i : ℕ) (t : Taking) → slice_get ts i ≡ Some t → request_at (requests_of ts) i ≡ request_in t
request_there [] zero t e = absurd (cc)
request_there [] (suc i) t e = absurd (cc)
request_there (u ∷ ts) zero t e = ap (λ (o : Option Taking). request_in (unwrap_or o u)) e
request_there (u ∷ ts) (suc i) t e = request_there ts i t e

-- a member stays so, as more records are taken
member_long : (ts more : List Taking) (i : ℕ) → i < length ts → member_at (requests_of (ts ++ more)) i ≡ member_at (requests_of ts) i
member_long ts [] i h = ap (λ l. member_at (requests_of l) i) (append-nil ts)
member_long ts (t ∷ more) i h =
    ap (λ l. member_at (requests_of l) i) (sym (append_assoc ts (t ∷ []) more)) ∙ (member_long (ts ++ t ∷ []) more i (let l = length-append ts (t ∷ []) in omega arith) ∙ member_same ts t i h)

pub settled_longer : (cells : TableId) (es es' : List IntakeEntry) (i : ℕ) (t : Taking) (end : RecordEnd) (right : Option CellSeat) → IsPrefix es es' → slice_get (takings es) i ≡ Some t
    → AreSettled cells (requests_of (takings es)) i end right → AreSettled cells (requests_of (takings es')) i end right
settled_longer cells es es' i t end right b at = longer right
  where
    same : request_at (requests_of (takings es')) i ≡ request_at (requests_of (takings es)) i
    same = request_there (takings es') i t (taken_longer es es' i t b at) ∙ sym (request_there (takings es) i t at)

    members : member_at (requests_of (takings es')) i ≡ member_at (requests_of (takings es)) i
    members = ap (λ l. member_at (requests_of l) i) (ap takings (sym b.1) ∙ filter_map-append taking_of es b.0) ∙ member_long (takings es) (takings b.0) i (slice_get_within (takings es) i t at)

    longer : (o : Option CellSeat) → AreSettled cells (requests_of (takings es)) i end o → AreSettled cells (requests_of (takings es')) i end o
    longer None m = ap is_member same ∙ m
    longer (Some q) m = (
      ap is_member same ∙ m.0,
      record {
        right_of = subst (λ (r : Request). IsRightOf cells r.group q) (sym same) m.1.right_of;
        used = m.1.used;
        member = members ∙ m.1.member;
        status = m.1.status;
        device_front = m.1.device_front;
        memory_front = m.1.memory_front;
      },
    )

pub in_flight_later : (n i : ℕ) (es es' : List IntakeEntry) (t : Taking) → Continues maker_of n es es' → IsInFlightBy n i es t → IsInFlightBy n i es' t
in_flight_later n i es es' t c k = record {
  stands = taken_longer es es' i t c.0 k.stands;
  by = k.by;
  waits = k.waits;
  unended = ap (λ l. list_any (is_landing_of i) (landings l)) c.1 ∙ k.unended;
}

pub is_lander_taken : (n i : ℕ) (ts : List Taking) (t : Taking) → slice_get ts i ≡ Some t → (t.hand ≡ n) ⊎ (t.waits ≡ true) → is_lander n i ts ≡ true
is_lander_taken n i ts t at by = ap (λ (o : Option Taking). option_map_or (λ (u : Taking). u.hand == n || u.waits) o false) at ∙ told by
  where
    or_true : (a : Bool) → (a || true) ≡ true
    or_true true = refl
    or_true false = refl

    told : (t.hand ≡ n) ⊎ (t.waits ≡ true) → (t.hand == n || t.waits) ≡ true
    told (inl is) = ap (λ b. b || t.waits) (eq-eqb t.hand n is)
    told (inr is) = ap (λ b. t.hand == n || b) is ∙ or_true (t.hand == n)

-- the right that came out with a record is the one to settle it
pub right_to : (cells : TableId) (ts : List Taking) (t : Taking) (right : Option CellSeat) → HasRight cells ts t right → HasRightTo cells (request_in t) (place_of t) right
right_to cells ts t None m = m
right_to cells ts t (Some q) m = (m.0, record { right_of = m.1.right_of; unused = m.1.unused; index_is = member_index (requests_of ts) (place_of t) (row q).member m.1.member })

-- and once it was used, it is settled with the record's end
pub right_settled : (cells : TableId) (ts : List Taking) (t : Taking) (end : RecordEnd) (right right' : Option CellSeat) → slice_get ts (place_of t) ≡ Some t → HasRight cells ts t right → WasUsed cells (request_in t) end right right' → AreSettled cells (requests_of ts) (place_of t) end right'
right_settled cells ts t end None right' at m u = subst (λ (o : Option CellSeat). AreSettled cells (requests_of ts) (place_of t) end o) (sym u) (ap is_member (request_there ts (place_of t) t at) ∙ m)
right_settled cells ts t end (Some q) None at m u = absurd u
right_settled cells ts t end (Some q) (Some q') at m u = (
  ap is_member (request_there ts (place_of t) t at) ∙ m.0,
  record {
    right_of = subst (λ (r : Request). IsRightOf cells r.group q') (sym (request_there ts (place_of t) t at)) u.right_of;
    used = u.used;
    member = m.1.member ∙ ap Some (sym u.member);
    status = u.status;
    device_front = u.device_front;
    memory_front = u.memory_front;
  },
)

-- the answer owed, by the record as it was taken
pub owed_there : (ts : List Taking) (i : ℕ) (t : Taking) (end : RecordEnd) (right : Option CellSeat) → slice_get ts i ≡ Some t → answer_owed (request_in t) i end right ≡ answer_owed (request_at (requests_of ts) i) i end right
owed_there ts i t end right at = ap (λ r. answer_owed r i end right) (sym (request_there ts i t at))

-- ---- a session with a record in flight isn't closed

pub flying_open : (s : IntakeState) (i : ℕ) → IsIntake s → is_flying i s.entries ≡ true → is_shut (phase_in s.entries) ≡ false
flying_open s i k flies = at (phase_in s.entries) refl
  where
    within : i < length (takings s.entries)
    within = ltb-true i (length (takings s.entries)) (and_left (nat_lt i (length (takings s.entries))) (is_open (landings s.entries) i) flies)

    still : is_open (landings s.entries) i ≡ true
    still = and_right (nat_lt i (length (takings s.entries))) (is_open (landings s.entries) i) flies

    at : (p : Phase) → phase_in s.entries ≡ p → is_shut (phase_in s.entries) ≡ false
    at Running is = ap is_shut is
    at Draining is = ap is_shut is
    at Aborted is = ap is_shut is
    at Closed is = absurd (let over = k.turned.over is in let once = k.landed.once in let cut = count_cut (is_open (landings s.entries)) i (length (takings s.entries)) within still in omega arith)

-- ---- a close that waited

pub of_taking : {A : Type 0} (P : A → Type 0) (o : Option A) → MatchOption o ⊥ P → (t : A) × (o ≡ Some t) × P t
of_taking P None m = absurd m
of_taking P (Some t) m = (t, refl, m)

module _ (cells : TableId) (ts : List Taking) (ls : List Landing) (w : Waiting) (i : ℕ) (end : RecordEnd) (right : Option CellSeat) (index : w.envelope.index ≡ i) (m : IsOfTaking cells ts ls w)
    (used : WasUsed cells (request_of w.envelope.bytes) end w.right right) where
  abbrev found : (t : Taking) × (slice_get ts w.envelope.index ≡ Some t) × IsRecordWaiting cells ts ls w t
  found = of_taking (λ t. IsRecordWaiting cells ts ls w t) (slice_get ts w.envelope.index) m

  place : place_of found.0 ≡ w.envelope.index
  place = ap (λ (e : Envelope). e.index) found.2.envelope

  request : request_in found.0 ≡ request_of w.envelope.bytes
  request = ap (λ (e : Envelope). request_of e.bytes) found.2.envelope

  pub waiting_settled : AreSettled cells (requests_of ts) i end right
  waiting_settled = subst (λ k. AreSettled cells (requests_of ts) k end right) (place ∙ index)
      (right_settled cells ts found.0 end w.right right (ap (slice_get ts) place ∙ found.1) found.2.right (subst (λ r. WasUsed cells r end w.right right) (sym request) used))

  pub waiting_owed : answer_owed (request_of w.envelope.bytes) i end right ≡ answer_owed (request_at (requests_of ts) i) i end right
  waiting_owed = ap (λ r. answer_owed r i end right) (sym request ∙ sym (request_there ts i found.0 (ap (slice_get ts) (sym index) ∙ found.1)))

-- the close landed, as the hand's seat has seen it
pub close_landed : (n index front : ℕ) (old was mid new last : List IntakeEntry) (s0 s s' : SlipSenderState) → Continues maker_of n old was → Continues maker_of n was mid → last ≡ new → s ≡ s0
    → HasLandedCloseInTurn n index front mid new s s' → HasLandedClose n index front old last s0 s'
close_landed n index front old was mid new last s0 s s' c d is same k =
    let entry = Landed n index (record { outcome = status.Ok; device_front = 0; memory_front = front }) k.answer k.kept in
    let a = added_turn maker_of n (entry ∷ []) old mid last (prefix_trans old was mid c.0 d.0, d.1 ∙ c.1) (is ∙ k.entries) (All-cons (λ e. maker_of e ≡ n) entry [] refl (All-nil (λ e. maker_of e ≡ n))) in
    record {
      answer = k.answer;
      kept = k.kept;
      added = a;
      waits = taking_longer (λ t. t.waits ≡ true) mid last index (entry ∷ [], sym (is ∙ k.entries)) k.waits;
      sender = k.sender ∙ ap (λ x. sender_with_slips x (slips_pushed k.kept k.answer)) same;
    }
