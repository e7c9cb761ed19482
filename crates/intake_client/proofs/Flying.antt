-- A record that flies: as it is taken, as others are taken and end, and as it ends.
use Rattle.std.proofs.Common.{◌≡◌, ◌≢◌, ◌⊎◌, inl, inr, ℕ, zero, suc, ◌<◌, ◌==◌, Bool, true, false, not, ◌&&◌, ◌||◌, List, [], ◌∷◌, ◌++◌, length, Option, Some, None, MatchOption, refl, sym, ap, subst, ◌∙◌, eq-eqb}
use Rattle.std.specs.Prelude.{slice_get, unwrap_or}
use Rattle.std.specs.List.{list_any}
use Rattle.std.proofs.lemmas.Bool.{lt-ltb, ne_eqb}
use Rattle.std.proofs.lemmas.Bool.Decides.{eqb_tells}
use Rattle.std.proofs.lemmas.Option.{slice_get_within}
use Rattle.atomic_table.specs.Seated.{TableId}
use Rattle.host_record.specs.declared.status.Status.{Status}
use Rattle.host_model.specs.declared.verdict.Verdict.{Verdict}
use Rattle.host_model.specs.{Accepted, Refused, request_at, is_accepted}
use Rattle.host_memory.proofs.Pushed.{filter_map_skip, filter_map_add}
use Rattle.host_group.specs.{CellSeat, seat_cells}
use Rattle.host_rings.specs.{Envelope}
use Rattle.host_intake.specs.{IntakePlan, Waiting, taking_entry, Taking, Landing, landing_of, landings, place_of, request_in, requests_of, taking_of, takings, IsIntake, AreLanded, HasRight, IntakeState, plan_of_intake, is_flying, is_open, AreWaiting, IsOfTaking, IsRecordWaiting, is_waiting_at}
use Rattle.host_intake.proofs.Admitting.{member_same, next_open}
use Rattle.host_intake.proofs.Judging.{get_more}
use Rattle.host_log.proofs.Places.{get_last, none_at}
use Rattle.host_intake.proofs.Pushing.{open_landed}
use Rattle.intake_client.specs.{Flight, CanLand, Flies, IsFlying, IsTakenSo}

-- no close waits of a record that was taken without waiting
pub none_waits : (cells : TableId) (ts : List Taking) (ls : List Landing) (ws : List Waiting) (i : ℕ) (t : Taking) → AreWaiting cells ts ls ws → slice_get ts i ≡ Some t → t.waits ≡ false → list_any (is_waiting_at i) ws ≡ false
none_waits cells ts ls ws i t k at still = none_at (is_waiting_at i) ws (λ n w e. step w (eqb_tells w.envelope.index i) (k.each n w e))
  where
    step : (w : Waiting) → (((w.envelope.index == i) ≡ true) × (w.envelope.index ≡ i)) ⊎ (((w.envelope.index == i) ≡ false) × (w.envelope.index ≢ i)) → IsOfTaking cells ts ls w → is_waiting_at i w ≡ false
    step w (inr s) m = s.0
    step w (inl s) m =
        let x : IsRecordWaiting cells ts ls w t = subst (λ (o : Option Taking). MatchOption o ⊥ (λ u. IsRecordWaiting cells ts ls w u)) (ap (λ j. slice_get ts j) s.1 ∙ at) m in
        absurd (let f : true ≡ false = sym x.waits ∙ still in cc)

-- ---- as others are taken and end

right_more : (ts : List Taking) (t : Taking) (cells : TableId) (u : Taking) (right : Option CellSeat) → place_of u < length ts → HasRight cells ts u right → HasRight cells (ts ++ t ∷ []) u right
right_more ts t cells u None h m = m
right_more ts t cells u (Some q) h m = (m.0, record { right_of = m.1.right_of; unused = m.1.unused; member = member_same ts t (place_of u) h ∙ m.1.member })

taken_more : (cells : TableId) (ts : List Taking) (ls : List Landing) (t : Taking) (e : Envelope) (right : Option CellSeat) (u : Taking) → IsTakenSo cells ts ls e right u → IsTakenSo cells (ts ++ t ∷ []) ls e right u
taken_more cells ts ls t e right u k = record {
  at = get_more ts t u e.index k.at;
  envelope = k.envelope;
  still_open = k.still_open;
  right_is = right_more ts t cells u right (subst (λ (z : Envelope). z.index < length ts) (sym k.envelope) (slice_get_within ts e.index u k.at)) k.right_is;
}

pub ended_more : (cells : TableId) (ts : List Taking) (ls : List Landing) (l : Landing) (e : Envelope) (right : Option CellSeat) (u : Taking) → l.index ≢ e.index → IsTakenSo cells ts ls e right u → IsTakenSo cells ts (ls ++ l ∷ []) e right u
ended_more cells ts ls l e right u other k = record {
  at = k.at;
  envelope = k.envelope;
  still_open = open_landed ls l e.index ∙ (ap (λ b. b && not (l.index == e.index)) k.still_open ∙ ap not (ne_eqb l.index e.index other));
  right_is = k.right_is;
}

-- the same cells and the same records
pub flies_same : (hand : ℕ) (s z : IntakeState) (f : Flight) → seat_cells z.cell_seat ≡ seat_cells s.cell_seat → takings z.entries ≡ takings s.entries → landings z.entries ≡ landings s.entries → Flies hand s f → Flies hand z f
flies_same hand s z f cells ts ls k =
    subst (λ (a : TableId). IsFlying hand a (takings z.entries) (landings z.entries) f) (sym cells)
    (subst (λ (a : List Taking). IsFlying hand (seat_cells s.cell_seat) a (landings z.entries) f) (sym ts)
    (subst (λ (a : List Landing). IsFlying hand (seat_cells s.cell_seat) (takings s.entries) a f) (sym ls) k))

pub flies_taken : (hand : ℕ) (s z : IntakeState) (f : Flight) (t : Taking) → seat_cells z.cell_seat ≡ seat_cells s.cell_seat → z.entries ≡ s.entries ++ taking_entry t ∷ [] → Flies hand s f → Flies hand z f
flies_taken hand s z f t cells more k =
    let ts : takings z.entries ≡ takings s.entries ++ t ∷ [] = ap takings more ∙ filter_map_add taking_of s.entries (taking_entry t) t refl in
    let ls : landings z.entries ≡ landings s.entries = ap landings more ∙ filter_map_skip landing_of s.entries (taking_entry t) refl in
    subst (λ (a : TableId). IsFlying hand a (takings z.entries) (landings z.entries) f) (sym cells)
    (subst (λ (a : List Taking). IsFlying hand (seat_cells s.cell_seat) a (landings z.entries) f) (sym ts)
    (subst (λ (a : List Landing). IsFlying hand (seat_cells s.cell_seat) (takings s.entries ++ t ∷ []) a f) (sym ls)
    (k.0, taken_more (seat_cells s.cell_seat) (takings s.entries) (landings s.entries) t f.envelope f.right k.0 k.1, k.2, k.3)))

-- ---- as it is taken

module _ (s z : IntakeState) (k : IsIntake s) (plan : plan_of_intake z ≡ plan_of_intake s) (t : Taking) (more : z.entries ≡ s.entries ++ taking_entry t ∷ []) where
  pub cells_same : seat_cells z.cell_seat ≡ seat_cells s.cell_seat
  cells_same = ap (λ (p : IntakePlan). p.cells) plan

  open_new : (ts : List Taking) (ls : List Landing) → AreLanded ts ls → is_open ls (length ts) ≡ true
  open_new ts ls l = ap not (next_open ts ls l.by_taker)

  -- the record that was taken
  pub taken_new : (e : Envelope) (right : Option CellSeat) → t.envelope ≡ e → e.index ≡ length (takings s.entries) → HasRight (seat_cells s.cell_seat) (takings z.entries) t right
      → IsTakenSo (seat_cells z.cell_seat) (takings z.entries) (landings z.entries) e right t
  taken_new e right is next has =
      let ts : takings z.entries ≡ takings s.entries ++ t ∷ [] = ap takings more ∙ filter_map_add taking_of s.entries (taking_entry t) t refl in
      let ls : landings z.entries ≡ landings s.entries = ap landings more ∙ filter_map_skip landing_of s.entries (taking_entry t) refl in
      record {
        at = ap (λ (l : List Taking). slice_get l e.index) ts ∙ (ap (λ n. slice_get (takings s.entries ++ t ∷ []) n) next ∙ get_last (takings s.entries) t);
        envelope = is;
        still_open = ap (λ (l : List Landing). is_open l e.index) ls ∙ (ap (λ n. is_open (landings s.entries) n) next ∙ open_new (takings s.entries) (landings s.entries) k.landed);
        right_is = subst (λ (a : TableId). HasRight a (takings z.entries) t right) (sym cells_same) has;
      }

-- a refused record doesn't wait
pub refused_flies : (w c p : Bool) (v : Verdict) (status : Status) → v ≡ Refused status → w ≡ (is_accepted v && c && p) → w ≡ false
refused_flies w c p v status is e = e ∙ ap (λ (z : Verdict). is_accepted z && c && p) is

-- Pages came out of a close that doesn't wait, and what is no close doesn't wait.
pub admitted_flies : (w c o p : Bool) (v : Verdict) → v ≡ Accepted → (c && not o) ≡ false → o ≡ (is_accepted v && c && not w) → w ≡ (is_accepted v && c && p) → w ≡ false
admitted_flies w c o p v is none some e = step w c o p none (some ∙ ap (λ (z : Verdict). is_accepted z && c && not w) is) (e ∙ ap (λ (z : Verdict). is_accepted z && c && p) is)
  where
    step : (w c o p : Bool) → (c && not o) ≡ false → o ≡ (true && c && not w) → w ≡ (true && c && p) → w ≡ false
    step w false o p n s e = e
    step false true o p n s e = refl
    step true true true p n s e = absurd (cc)
    step true true false p n s e = absurd (cc)

-- ---- as it ends

-- it is a record in flight
pub can_fly : (hand : ℕ) (s : IntakeState) (e : Envelope) (right : Option CellSeat) → CanLand hand s e right → is_flying e.index s.entries ≡ true
can_fly hand s e right k =
    ap (λ b. b && is_open (landings s.entries) e.index) (lt-ltb e.index (length (takings s.entries)) (slice_get_within (takings s.entries) e.index k.0 k.1.at)) ∙ k.1.still_open

-- the request of a record that was taken
pub request_there : (ts : List Taking) (i : ℕ) (t : Taking) → slice_get ts i ≡ Some t → request_at (requests_of ts) i ≡ request_in t
request_there [] zero t e = absurd (cc)
request_there [] (suc i) t e = absurd (cc)
request_there (u ∷ ts) zero t e = ap (λ (o : Option Taking). request_in (unwrap_or o u)) e
request_there (u ∷ ts) (suc i) t e = request_there ts i t e

-- a flight may end
pub flight_lands : (hand : ℕ) (s : IntakeState) (f : Flight) → IsIntake s → Flies hand s f → CanLand hand s f.envelope f.right
flight_lands hand s f k m = (
  m.0,
  m.1,
  ap (λ b. b || m.0.waits) (eq-eqb m.0.hand hand m.2),
  none_waits (seat_cells s.cell_seat) (takings s.entries) (landings s.entries) s.waiting f.envelope.index m.0 k.waiting m.1.at m.3,
)
