-- What taking the next record tells of the records that fly.
use Rattle.std.proofs.Common.{◌≡◌, ℕ, ◌==◌, false, not, ◌&&◌, Option, ap, ◌∙◌}
use Rattle.std.specs.Prelude.{is_some}
use Rattle.host_frames.specs.{SeenPages}
use Rattle.host_record.specs.declared.status.Status.{Status}
use Rattle.host_record.specs.declared.status.Status.TheVariants as status
use Rattle.host_record.specs.{is_close, opcode, request_of}
use Rattle.host_memory.specs.{pins_on}
use Rattle.host_group.specs.{CellSeat, seat_cells}
use Rattle.host_rings.specs.{Envelope}
use Rattle.host_turn.specs.{seen_by}
use Rattle.host_intake.specs.{Admission, IntakePlan, IsAdmission, Taking, landings, request_in, takings, IsIntake, IntakeState, MemorySeat, plan_of_intake, judged_on}
use Rattle.host_intake.specs.declared.admission.Admission.TheVariants as answer
use Rattle.intake_client.specs.{Flight, Flying, Flies, IsTaken}
use Rattle.intake_client.proofs.Flying.{admitted_flies, flies_same, flies_taken, refused_flies, taken_new}

module _ (hand : ℕ) (old new : IntakeState) (seat : MemorySeat) (plan : plan_of_intake new ≡ plan_of_intake old) where
  cells : seat_cells new.cell_seat ≡ seat_cells old.cell_seat
  cells = ap (λ (p : IntakePlan). p.cells) plan

  still : (f : Flight) → new.entries ≡ old.entries → Flies hand old f → Flies hand new f
  still f same m = flies_same hand old new f cells (ap takings same) (ap landings same) m

  -- what flies goes on flying
  pub keeps_flying : (a : Admission) → IsAdmission hand old new seat a → (f : Flight) → Flies hand old f → Flies hand new f
  keeps_flying answer.Finished k f m = still f (ap (λ (s : IntakeState). s.entries) k.1) m
  keeps_flying answer.AtLimit k f m = still f (ap (λ (s : IntakeState). s.entries) k.2) m
  keeps_flying answer.NoRecord k f m = still f (ap (λ (s : IntakeState). s.entries) k.2) m
  keeps_flying answer.Stalled k f m = still f k.1.1.entries m
  keeps_flying (answer.Refused e status right) k f m = flies_taken hand old new f k.1.0 cells k.1.1.taken.entries m
  keeps_flying (answer.Admitted e pages right) k f m = flies_taken hand old new f k.1.0 cells k.1.1.taken.entries m

  module _ (kept : IsIntake old) where
    pub refused_taken : (e : Envelope) (s : Status) (right : Option CellSeat) → IsAdmission hand old new seat (answer.Refused e s right) → IsTaken hand old new (Flying (record { envelope = e; status = s; right = right }))
    refused_taken e s right k =
        let t : Taking = k.1.0 in let r = k.1.1 in
        let off : t.waits ≡ false = refused_flies t.waits (is_close (opcode (request_in t))) (not (pins_on (request_in t).vmoid (judged_on (seen_by seat) t) == 0)) t.verdict s r.verdict r.taken.judged.waits in
        (r.taken.index, (t, taken_new old new kept plan t r.taken.entries e right r.taken.envelope r.taken.index (r.right_out.0 off).1, r.by, off))

    pub admitted_taken : (e : Envelope) (pages : Option SeenPages) (right : Option CellSeat) → IsAdmission hand old new seat (answer.Admitted e pages right) → (is_close (opcode (request_of e.bytes)) && not (is_some pages)) ≡ false
        → IsTaken hand old new (Flying (record { envelope = e; status = status.Ok; right = right }))
    admitted_taken e pages right k none =
        let t : Taking = k.1.0 in let r = k.1.1 in
        let c : (is_close (opcode (request_in t)) && not (is_some pages)) ≡ false = ap (λ (x : Envelope). is_close (opcode (request_of x.bytes)) && not (is_some pages)) r.taken.envelope ∙ none in
        let off : t.waits ≡ false = admitted_flies t.waits (is_close (opcode (request_in t))) (is_some pages) (not (pins_on (request_in t).vmoid (judged_on (seen_by seat) t) == 0)) t.verdict r.verdict c r.pages_out.0 r.taken.judged.waits in
        (r.taken.index, (t, taken_new old new kept plan t r.taken.entries e right r.taken.envelope r.taken.index (r.right_out.0 off).1, r.by, off))
