-- How a record that flies is settled, answered and landed.
use Rattle.std.proofs.Common.{◌≡◌, ◌≢◌, ℕ, Bool, true, false, List, [], ◌∷◌, ◌++◌, Option, Some, None, refl, sym, ap, subst, ◌∙◌}
use Rattle.std.specs.Prelude.{slice_get, unwrap_or}
use Rattle.atomic_table.specs.Seated.{TableId}
use Rattle.host_record.specs.declared.request.Request.{Request}
use Rattle.host_record.specs.{request_of}
use Rattle.host_model.specs.{request_at}
use Rattle.host_memory.proofs.Pushed.{filter_map_add, filter_map_skip}
use Rattle.host_group.specs.{CellSeat, seat_cells}
use Rattle.host_rings.specs.{Envelope, Slip}
use Rattle.host_intake.specs.{Landed, RecordEnd, answer_owed, lone_slip, Taking, Landing, landing_of, landings, requests_of, taking_of, takings, IntakeState}
use Rattle.intake_client.specs.{Flight, CanLand, Flies, HasLanded, IsFlying}
use Rattle.intake_client.proofs.Flying.{ended_more, request_there}

-- the request of a record that flies
request_is : (hand : ℕ) (s : IntakeState) (e : Envelope) (right : Option CellSeat) → CanLand hand s e right → request_at (requests_of (takings s.entries)) e.index ≡ request_of e.bytes
request_is hand s e right k = request_there (takings s.entries) e.index k.0 k.1.at ∙ ap (λ (x : Envelope). request_of x.bytes) k.1.envelope

-- ---- a lone record

module _ (hand : ℕ) (s : IntakeState) (e : Envelope) (k : CanLand hand s e None) (end : RecordEnd) where
  pub lone_owed : (r : Request) (answer : Slip) → r ≡ request_of e.bytes → answer ≡ lone_slip r e.index end → Some answer ≡ answer_owed (request_at (requests_of (takings s.entries)) e.index) e.index end None
  lone_owed r answer is made = ap Some (made ∙ ap (λ (q : Request). lone_slip q e.index end) (is ∙ sym (request_is hand s e None k)))

-- ---- what flies beside a record that ended

landed_entry : (hand i : ℕ) (end : RecordEnd) (answer : Option Slip) (kept : Bool) → landing_of (Landed hand i end answer kept) ≡ Some (record { hand = hand; index = i; end = end; answer = answer; kept = kept })
landed_entry hand i end answer kept = refl

pub flies_landed : (hand i : ℕ) (s z : IntakeState) → HasLanded hand i s z → (f : Flight) → i ≢ f.envelope.index → Flies hand s f → Flies hand z f
flies_landed hand i s z k f other m =
    let l : Landing = record { hand = hand; index = i; end = k.0; answer = k.1; kept = k.2 } in
    let es : z.entries ≡ s.entries ++ Landed hand i k.0 k.1 k.2 ∷ [] = ap (λ (x : IntakeState). x.entries) k.3 in
    let ts : takings z.entries ≡ takings s.entries = ap takings es ∙ filter_map_skip taking_of s.entries (Landed hand i k.0 k.1 k.2) refl in
    let ls : landings z.entries ≡ landings s.entries ++ l ∷ [] = ap landings es ∙ filter_map_add landing_of s.entries (Landed hand i k.0 k.1 k.2) l (landed_entry hand i k.0 k.1 k.2) in
    subst (λ (a : TableId). IsFlying hand a (takings z.entries) (landings z.entries) f) (sym k.4)
    (subst (λ (a : List Taking). IsFlying hand (seat_cells s.cell_seat) a (landings z.entries) f) (sym ts)
    (subst (λ (a : List Landing). IsFlying hand (seat_cells s.cell_seat) (takings s.entries) a f) (sym ls)
    (m.0, ended_more (seat_cells s.cell_seat) (takings s.entries) (landings s.entries) l f.envelope f.right m.0 other m.1, m.2, m.3)))

-- a close that waited is of another record
pub waited_other : (hand i : ℕ) (s : IntakeState) (t : Taking) (f : Flight) → slice_get (takings s.entries) i ≡ Some t → t.waits ≡ true → Flies hand s f → i ≢ f.envelope.index
waited_other hand i s t f at waits m e =
    let same : t ≡ m.0 = ap (λ (o : Option Taking). unwrap_or o t) (sym at ∙ (ap (λ j. slice_get (takings s.entries) j) e ∙ m.1.at)) in
    let off : true ≡ false = sym waits ∙ (ap (λ (u : Taking). u.waits) same ∙ m.3) in absurd (cc)
