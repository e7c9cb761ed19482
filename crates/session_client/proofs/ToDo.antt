-- What a hand took is to be done.
use Rattle.std.proofs.Common.{◌≡◌, ℕ, Bool, true, false, not, ◌==◌, ◌&&◌, cond, Option, refl, sym, ap, subst, ◌∙◌}
use Rattle.std.specs.Prelude.{is_some}
use Rattle.atomic_table.specs.Seated.{TableId}
use Rattle.host_frames.specs.{SeenPages}
use Rattle.host_group.specs.{CellSeat, seat_cells}
use Rattle.host_intake.specs.{HasTaken, IsAdmitted, IsRightOut, Taking, landings, request_in, takings, AreLanded, HasRight, IntakeState, MemorySeat, judged_on}
use Rattle.host_memory.specs.{pins_on}
use Rattle.host_turn.specs.{seen_by}
use Rattle.host_model.specs.declared.verdict.Verdict.{Verdict}
use Rattle.host_model.specs.{Refused, is_accepted}
use Rattle.host_record.specs.declared.status.Status.{Status}
use Rattle.host_record.specs.declared.status.Status.TheVariants as status
use Rattle.host_record.specs.{is_close, opcode, request_of}
use Rattle.host_rings.specs.{Envelope}
use Rattle.session_client.specs.declared.task.Taken.TheVariants as taken
use Rattle.session_client.specs.{IsOwnOpen, IsTakenToDo, IsToDo, taken_with}
use Rattle.session_client.proofs.Tasks.{own_taken}

module _ (cells : TableId) (hand : ℕ) (old new : IntakeState) (seat : MemorySeat) (e : Envelope) (k : AreLanded (takings old.entries) (landings old.entries)) (same : seat_cells old.cell_seat ≡ cells) (t : Taking) (h : HasTaken old new seat e t) (by : t.hand ≡ hand) where
  pub to_do : (outcome : Status) (right : Option CellSeat) → t.waits ≡ false → IsRightOut old new t right → IsToDo cells hand new.entries (record { envelope = e; outcome = outcome; right = right })
  to_do outcome right stays out = record {
    taking = t;
    own = subst (λ (x : Envelope). IsOwnOpen hand new.entries x t) h.envelope
        (own_taken hand old.entries new.entries t k (ap (λ (x : Envelope). x.index) h.envelope ∙ h.index) by stays h.entries);
    right = subst (λ c. HasRight c (takings new.entries) t right) same (out.0 stays).1;
  }

  pub refused_stays : (s : Status) → t.verdict ≡ Refused s → t.waits ≡ false
  refused_stays s is = h.judged.waits ∙ ap (λ (v : Verdict). is_accepted v && is_close (opcode (request_in t)) && not (pins_on (request_in t).vmoid (judged_on (seen_by seat) t) == 0)) is

  -- a close without pages is the one that waits
  waits_not : (accepted close pinned pages waits : Bool) → waits ≡ (accepted && close && pinned) → pages ≡ (accepted && close && not waits) → (close && not pages) ≡ false → waits ≡ false
  waits_not true true true s w p q r = absurd (let f : true ≡ false = sym (ap not (q ∙ ap not p)) ∙ r in cc)
  waits_not true true false s w p q r = p
  waits_not true false x s w p q r = p
  waits_not false c x s w p q r = p

  pub admitted_to_do : (pages : Option SeenPages) (right : Option CellSeat) → IsAdmitted hand old new seat e pages right t → IsTakenToDo cells hand new.entries (taken_with e (is_some pages) right)
  admitted_to_do pages right a = step (is_close (opcode (request_of e.bytes)) && not (is_some pages)) refl
    where
      read : is_close (opcode (request_in t)) ≡ is_close (opcode (request_of e.bytes))
      read = ap (λ (x : Envelope). is_close (opcode (request_of x.bytes))) h.envelope

      step : (b : Bool) → (is_close (opcode (request_of e.bytes)) && not (is_some pages)) ≡ b → IsTakenToDo cells hand new.entries (cond b taken.Waits (taken.ToDo (record { envelope = e; outcome = status.Ok; right = right })))
      step true is = tt
      step false is =
          to_do status.Ok right
          (waits_not (is_accepted t.verdict) (is_close (opcode (request_in t))) (not (pins_on (request_in t).vmoid (judged_on (seen_by seat) t) == 0)) (is_some pages) t.waits h.judged.waits a.pages_out.0
          (ap (λ c. c && not (is_some pages)) read ∙ is))
          a.right_out
