-- That a record may be landed by the hand that took it.
use Rattle.std.proofs.Common.{◌≡◌, ◌⊎◌, inl, inr, ℕ, ◌==◌, true, false, ◌||◌, List, get_or, Option, Some, None, MatchOption, sym, ap, subst, ◌∙◌, eq-eqb}
use Rattle.std.specs.Prelude.{slice_get}
use Rattle.std.specs.List.{list_any}
use Rattle.std.specs.Option.{option_map_or}
use Rattle.std.proofs.lemmas.Bool.Decides.{eqb_tells}
use Rattle.std.proofs.lemmas.Option.{slice_get-get_or}
use Rattle.atomic_table.specs.Seated.{TableId}
use Rattle.host_group.specs.{CellSeat, IsRightOf, row, seat_cells}
use Rattle.host_intake.specs.{RecordEnd, Waiting, answer_owed, Taking, landings, place_of, request_in, requests_of, takings, IsIntake, is_lander, member_at, AreSettled, HasRight, IntakeState, is_flying, IsOfTaking, IsRecordWaiting, is_waiting_at}
use Rattle.host_intake.proofs.Flying.{own_flies}
use Rattle.host_intake.proofs.Removing.{past_any}
use Rattle.host_model.specs.{is_member, request_at}
use Rattle.host_record.specs.declared.request.Request.{Request}
use Rattle.host_record.specs.{request_of}
use Rattle.host_rings.specs.{Envelope, Slip}
use Rattle.session_client.specs.{Task, HaveSettled, IsToDo}
use Rattle.session_client.proofs.Own.{request_taken}

-- ---- the right

module _ (cells : TableId) (ts : List Taking) (t : Taking) (i : ℕ) (at : slice_get ts i ≡ Some t) (place : place_of t ≡ i) where
  asked : request_at (requests_of ts) i ≡ request_in t
  asked = request_taken ts i t at

  -- once it was, the record may land
  pub are_settled : (end : RecordEnd) (old new : Option CellSeat) → HasRight cells ts t old → HaveSettled cells (request_in t).group end old new → AreSettled cells (requests_of ts) i end new
  are_settled end None None h s = subst (λ (r : Request). is_member r ≡ false) (sym asked) h
  are_settled end None (Some p) h s = absurd (cc)
  are_settled end (Some q) None h s = absurd s
  are_settled end (Some q) (Some p) h s = (
    subst (λ (r : Request). is_member r ≡ true) (sym asked) h.0,
    record {
      right_of = subst (λ (r : Request). IsRightOf cells r.group p) (sym asked) s.right_of;
      used = s.used;
      member = subst (λ n. member_at (requests_of ts) n ≡ Some (row p).member) place (h.1.member ∙ ap Some (sym s.member));
      status = s.status;
      device_front = s.device_front;
      memory_front = s.memory_front;
    },
  )

-- ---- the landing

module _ (cells : TableId) (hand : ℕ) (s : IntakeState) (k : IsIntake s) (task : Task) (d : IsToDo cells hand s.entries task) where
  pub flies : is_flying task.envelope.index s.entries ≡ true
  flies = own_flies s.entries hand task.envelope.index d.taking k.landed d.own.at d.own.by d.own.stays d.own.open_still

  pub is_its_lander : is_lander hand task.envelope.index (takings s.entries) ≡ true
  is_its_lander =
      ap (λ (o : Option Taking). option_map_or (λ (u : Taking). u.hand == hand || u.waits) o false) d.own.at
      ∙ ap (λ b. b || d.taking.waits) (eq-eqb d.taking.hand hand d.own.by)

  other : (w : Waiting) → IsOfTaking cells (takings s.entries) (landings s.entries) w → is_waiting_at task.envelope.index w ≡ false
  other w of = step (eqb_tells w.envelope.index task.envelope.index)
    where
      step : (((w.envelope.index == task.envelope.index) ≡ true) × (w.envelope.index ≡ task.envelope.index)) ⊎ (((w.envelope.index == task.envelope.index) ≡ false) × (w.envelope.index ≡ task.envelope.index → ⊥)) → is_waiting_at task.envelope.index w ≡ false
      step (inr p) = p.0
      step (inl p) =
          let found : MatchOption (slice_get (takings s.entries) task.envelope.index) ⊥ (λ (u : Taking). IsRecordWaiting cells (takings s.entries) (landings s.entries) w u) =
          subst (λ n. MatchOption (slice_get (takings s.entries) n) ⊥ (λ (u : Taking). IsRecordWaiting cells (takings s.entries) (landings s.entries) w u)) p.1 of in
          let here : IsRecordWaiting cells (takings s.entries) (landings s.entries) w d.taking =
          subst (λ (o : Option Taking). MatchOption o ⊥ (λ (u : Taking). IsRecordWaiting cells (takings s.entries) (landings s.entries) w u)) d.own.at found in
          absurd (let f : false ≡ true = sym d.own.stays ∙ here.waits in cc)

  pub none_waits : seat_cells s.cell_seat ≡ cells → list_any (is_waiting_at task.envelope.index) s.waiting ≡ false
  none_waits same = past_any (is_waiting_at task.envelope.index) s.waiting (λ n w h.
      other (get_or s.waiting n w) (subst (λ c. IsOfTaking c (takings s.entries) (landings s.entries) (get_or s.waiting n w)) same (k.waiting.each n (get_or s.waiting n w) (slice_get-get_or s.waiting n w h))))

  place : place_of d.taking ≡ task.envelope.index
  place = ap (λ (e : Envelope). e.index) d.own.envelope

  read : request_in d.taking ≡ request_of task.envelope.bytes
  read = ap (λ (e : Envelope). request_of e.bytes) d.own.envelope

  pub settled_right : (end : RecordEnd) (new : Option CellSeat) → HaveSettled cells (request_of task.envelope.bytes).group end task.right new → AreSettled cells (requests_of (takings s.entries)) task.envelope.index end new
  settled_right end new h =
      are_settled cells (takings s.entries) d.taking task.envelope.index d.own.at place end task.right new d.right
      (subst (λ (r : Request). HaveSettled cells r.group end task.right new) (sym read) h)

  pub settled_answer : (end : RecordEnd) (new : Option CellSeat) (answer : Option Slip) → answer ≡ answer_owed (request_of task.envelope.bytes) task.envelope.index end new
      → answer ≡ answer_owed (request_at (requests_of (takings s.entries)) task.envelope.index) task.envelope.index end new
  settled_answer end new answer a =
      a ∙ ap (λ (r : Request). answer_owed r task.envelope.index end new) (sym (request_taken (takings s.entries) task.envelope.index d.taking d.own.at ∙ read))
