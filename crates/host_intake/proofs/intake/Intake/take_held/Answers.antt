use Rattle.std.proofs.Common.{◌≡◌, ℕ, ◌≤◌, Bool, true, false, List, [], ◌∷◌, ◌++◌, length, Option, Some, None, refl, sym, ap, subst, ◌∙◌, arith, length-append}
use Rattle.atomic_table.specs.Seated.{TableId}
use Rattle.host_record.specs.declared.request.Request.{Request}
use Rattle.host_model.specs.{is_member, MemEntry}
use Rattle.host_group.specs.{IsAdmittingOf, cells_id, seat_cells, view_of, IsBusy}
use Rattle.host_memory.proofs.Pushed.{filter_map_add}
use Rattle.host_log.proofs.Histories.{prefix_refl}
use Rattle.host_turn.specs.{number, seen_by}
use Rattle.host_rings.specs.{Envelope}
use Rattle.host_intake.specs.{Admission, Waiting, IsAdmitted, IsOpen, IsRightOut, IsStalled, IsTakenOrStalled, taking_entry, Taking, taking_of, takings, landings, intake_state, IsIntake, LedgerState, HasRight, IntakeState, AreTaken}
use Rattle.host_intake.proofs.Admitting.{waiting_one, waiting_taken}
use Rattle.host_intake.proofs.Answering.{told_waiting, told_answer, pages_told, waiting_few}
use Rattle.host_intake.proofs.HeldTaken.{cells_given, fewer_out, flights_few, index_fits, index_next, intake_taken, right_given, room_next}
use Rattle.host_intake.proofs.TakeHeld.{has_taken, intake_busy, judged_told, rests_again, stalled}
use Rattle.host_intake.proofs.intake.Intake.take_held.Goals as goal

never_waits : (w : Bool) → w ≡ false → w ≡ true → ⊥
never_waits w f y = let z : false ≡ true = sym f ∙ y in cc

pub admit_member-requires-clause-index : goal.admit_member-requires-clause-index
admit_member-requires-clause-index g c =
    let a = c.self.inside in let s = intake_state a in let k = c.self.invariant.0 in let e = c.args.envelope in
    let held = subst (λ (o : IntakeState). o.held ≡ Some e) (sym c.self.view_is) c.requires.held in
    let goes = subst (λ (o : IntakeState). IsOpen o) (sym c.self.view_is) c.requires.still in
    index_fits s k e held goes

pub admit_member-requires-clause-room : goal.admit_member-requires-clause-room
admit_member-requires-clause-room g c =
    let a = c.self.inside in let s = intake_state a in let k = c.self.invariant.0 in let e = c.args.envelope in
    let held = subst (λ (o : IntakeState). o.held ≡ Some e) (sym c.self.view_is) c.requires.held in
    let goes = subst (λ (o : IntakeState). IsOpen o) (sym c.self.view_is) c.requires.still in
    fewer_out s k e held goes

pub invariant_of-self : goal.invariant_of-self
invariant_of-self g c =
    let a = c.self.inside in let s = intake_state a in let k = c.self.invariant.0 in let e = c.args.envelope in
    let held = subst (λ (o : IntakeState). o.held ≡ Some e) (sym c.self.view_is) c.requires.held in
    let goes = subst (λ (o : IntakeState). IsOpen o) (sym c.self.view_is) c.requires.still in
    let mine : seat_cells a.cell_seat ≡ cells_id c.args.cells.now = subst (λ (o : IntakeState). seat_cells o.cell_seat ≡ cells_id c.args.cells.now) (sym c.self.view_is) c.requires.cells in
    let busy = c.in_default.ensures.busy in
    (intake_busy s k c.admit_member.new.seat (subst (λ (z : TableId). IsAdmittingOf z c.admit_member.new.seat) (sym mine) c.admit_member.ensures.seat.0) busy.1 busy.2 c.admit_member.ensures.seat.1, c.self.invariant.1)

pub returns-in_default-clause-answer : goal.returns-in_default-clause-answer
returns-in_default-clause-answer g c =
    let a = c.self.inside in let s = intake_state a in let k = c.self.invariant.0 in let e = c.args.envelope in
    let held = subst (λ (o : IntakeState). o.held ≡ Some e) (sym c.self.view_is) c.requires.held in
    let goes = subst (λ (o : IntakeState). IsOpen o) (sym c.self.view_is) c.requires.still in
    let busy = c.in_default.ensures.busy in
    subst (λ (o : IntakeState). IsStalled o (record s { cell_seat = c.admit_member.new.seat }) e) c.self.view_is
    (stalled s k e held goes c.admit_member.new.seat
    (subst (λ (r : Request). is_member r ≡ true) c.from_bytes-request.ensures.fields busy.0)
    (subst (λ (r : Request). IsBusy r.group (view_of s.cell_seat)) c.from_bytes-request.ensures.fields busy.3))

pub judge_next-judged-requires-clause-room : goal.judge_next-judged-requires-clause-room
judge_next-judged-requires-clause-room g c =
    let a = c.self.inside in let s = intake_state a in let k = c.self.invariant.0 in let e = c.args.envelope in
    let held = subst (λ (o : IntakeState). o.held ≡ Some e) (sym c.self.view_is) c.requires.held in
    let goes = subst (λ (o : IntakeState). IsOpen o) (sym c.self.view_is) c.requires.still in
    room_next s k e held goes

pub take_in-requires-clause-room : goal.take_in-requires-clause-room
take_in-requires-clause-room g c =
    let a = c.self.inside in let s = intake_state a in let k = c.self.invariant.0 in let e = c.args.envelope in
    let held = subst (λ (o : IntakeState). o.held ≡ Some e) (sym c.self.view_is) c.requires.held in
    let goes = subst (λ (o : IntakeState). IsOpen o) (sym c.self.view_is) c.requires.still in
    room_next s k e held goes

pub push_reserved-requires : goal.push_reserved-requires
push_reserved-requires g c =
    let a = c.self.inside in let s = intake_state a in let k = c.self.invariant.0 in let e = c.args.envelope in
    let held = subst (λ (o : IntakeState). o.held ≡ Some e) (sym c.self.view_is) c.requires.held in
    let goes = subst (λ (o : IntakeState). IsOpen o) (sym c.self.view_is) c.requires.still in
    let few = waiting_few (seat_cells s.cell_seat) (takings s.entries) (landings s.entries) s.waiting k.waiting in
    let flights = flights_few s k e held goes in let l = goes.1 in let cap = c.self.invariant.1 in let n = a.waiting.ok.0 in omega arith

pub invariant_of-self-then-judged : goal.invariant_of-self-then-judged
invariant_of-self-then-judged g c =
    let a = c.self.inside in let s = intake_state a in let k = c.self.invariant.0 in let e = c.args.envelope in
    let held = subst (λ (o : IntakeState). o.held ≡ Some e) (sym c.self.view_is) c.requires.held in
    let goes = subst (λ (o : IntakeState). IsOpen o) (sym c.self.view_is) c.requires.still in
    let mine : seat_cells a.cell_seat ≡ cells_id c.args.cells.now = subst (λ (o : IntakeState). seat_cells o.cell_seat ≡ cells_id c.args.cells.now) (sym c.self.view_is) c.requires.cells in
    let t : Taking = record { hand = c.args.hand; envelope = e; verdict = c.judge_next-judged.result.verdict; waits = c.judge_next-judged.result.waits; seen = c.judge_next-judged.result.seen } in
    let q = c.admit_member.new.seat in let m = c.meet.new.from in let ts = takings s.entries in let ls = landings s.entries in
    let admits = c.admit_member.ensures.seat.0 in
    let rests = rests_again s.room s.memory_seat m c.meet.ensures.from.1 (c.meet.ensures.from.0.3 ∙ c.judge_next-judged.ensures.seat.0.3) (c.meet.ensures.from.0.2 ∙ c.judge_next-judged.ensures.seat.0.2) k.resting in
    let took = subst (λ (w : List MemEntry). AreTaken s.part (number s.memory_seat) w (ts ++ t ∷ [])) (sym c.meet.ensures.from.2) c.judge_next-judged.ensures.taken in
    let in_cells = cells_given s k e held goes t refl c.args.cells.now q c.from_bytes-request.result c.from_bytes-request.ensures.fields c.in-Ok.right c.in-Ok.ensures.right (refl, admits.1, admits.2, admits.3) c.admit_member.ensures.seat.1 in
    let right = subst (λ (z : TableId). HasRight z (ts ++ t ∷ []) t c.in-Ok.right) (sym mine) (right_given s k e held goes t refl c.args.cells.now q c.from_bytes-request.result c.from_bytes-request.ensures.fields c.in-Ok.right c.in-Ok.ensures.right) in
    let waits = waiting_one ts ls t k.landed (seat_cells s.cell_seat) s.waiting c.in-Ok.right k.waiting (index_next s k e held goes) c.if-judged.true right in (
      subst (λ (o : Option Envelope). IsIntake (record s { room = c.take_in.new.ledger.room; keeps = c.take_in.new.ledger.keeps; entries = c.take_in.new.ledger.entries; held = o; waiting = c.push_reserved.new.self.items; memory_seat = m; cell_seat = q })) (sym c.take_in.ensures.held)
          (subst (λ (z : LedgerState). IsIntake (record s { room = z.room; keeps = z.keeps; entries = z.entries; held = None; waiting = c.push_reserved.new.self.items; memory_seat = m; cell_seat = q })) (sym c.take_in.ensures.ledger)
          (subst (λ (w : List Waiting). IsIntake (record s { entries = s.entries ++ taking_entry t ∷ []; held = None; waiting = w; memory_seat = m; cell_seat = q })) (sym c.push_reserved.ensures.items)
          (intake_taken s k e held goes t refl m q _ rests (c.meet.ensures.from.0.2 ∙ c.judge_next-judged.ensures.seat.0.2) took (admits.0 ∙ sym mine) in_cells waits))),
      subst (λ (z : ℕ). 64 ≤ z) (sym c.push_reserved.ensures.capacity) c.self.invariant.1,
    )

pub returns-then-judged-clause-answer : goal.returns-then-judged-clause-answer
returns-then-judged-clause-answer g c =
    let a = c.self.inside in let s = intake_state a in let k = c.self.invariant.0 in let e = c.args.envelope in
    let held = subst (λ (o : IntakeState). o.held ≡ Some e) (sym c.self.view_is) c.requires.held in
    let goes = subst (λ (o : IntakeState). IsOpen o) (sym c.self.view_is) c.requires.still in
    let t : Taking = record { hand = c.args.hand; envelope = e; verdict = c.judge_next-judged.result.verdict; waits = c.judge_next-judged.result.waits; seen = c.judge_next-judged.result.seen } in
    let from = c.judge_next-judged.new.seat in let to = c.meet.new.to in
    let known = judged_told s.part (number s.memory_seat) (seen_by from) (seen_by to) (takings s.entries) t c.judge_next-judged.ensures.taken c.meet.ensures.told in
    let new = record s { room = c.take_in.new.ledger.room; keeps = c.take_in.new.ledger.keeps; entries = c.take_in.new.ledger.entries; held = c.take_in.new.held; waiting = c.push_reserved.new.self.items; memory_seat = c.meet.new.from; cell_seat = c.admit_member.new.seat } in
    let has = has_taken s k e held goes new to t refl (ap (λ (z : LedgerState). z.entries) c.take_in.ensures.ledger) c.take_in.ensures.held known in (
      refl,
      subst (λ (o : IntakeState). (x : Taking) × IsAdmitted c.args.hand o new to e None None x) c.self.view_is
          (told_waiting c.args.hand s new to e t s.part (number s.memory_seat) has refl known c.if-judged.true (ap length c.push_reserved.ensures.items ∙ length-append s.waiting _)),
    )

pub invariant_of-self-else-judged : goal.invariant_of-self-else-judged
invariant_of-self-else-judged g c =
    let a = c.self.inside in let s = intake_state a in let k = c.self.invariant.0 in let e = c.args.envelope in
    let held = subst (λ (o : IntakeState). o.held ≡ Some e) (sym c.self.view_is) c.requires.held in
    let goes = subst (λ (o : IntakeState). IsOpen o) (sym c.self.view_is) c.requires.still in
    let mine : seat_cells a.cell_seat ≡ cells_id c.args.cells.now = subst (λ (o : IntakeState). seat_cells o.cell_seat ≡ cells_id c.args.cells.now) (sym c.self.view_is) c.requires.cells in
    let t : Taking = record { hand = c.args.hand; envelope = e; verdict = c.judge_next-judged.result.verdict; waits = c.judge_next-judged.result.waits; seen = c.judge_next-judged.result.seen } in
    let q = c.admit_member.new.seat in let m = c.meet.new.from in let ts = takings s.entries in let ls = landings s.entries in
    let admits = c.admit_member.ensures.seat.0 in
    let rests = rests_again s.room s.memory_seat m c.meet.ensures.from.1 (c.meet.ensures.from.0.3 ∙ c.judge_next-judged.ensures.seat.0.3) (c.meet.ensures.from.0.2 ∙ c.judge_next-judged.ensures.seat.0.2) k.resting in
    let took = subst (λ (w : List MemEntry). AreTaken s.part (number s.memory_seat) w (ts ++ t ∷ [])) (sym c.meet.ensures.from.2) c.judge_next-judged.ensures.taken in
    let in_cells = cells_given s k e held goes t refl c.args.cells.now q c.from_bytes-request.result c.from_bytes-request.ensures.fields c.in-Ok.right c.in-Ok.ensures.right (refl, admits.1, admits.2, admits.3) c.admit_member.ensures.seat.1 in
    let right = subst (λ (z : TableId). HasRight z (ts ++ t ∷ []) t c.in-Ok.right) (sym mine) (right_given s k e held goes t refl c.args.cells.now q c.from_bytes-request.result c.from_bytes-request.ensures.fields c.in-Ok.right c.in-Ok.ensures.right) in
    let waits = waiting_taken ts ls t k.landed (seat_cells s.cell_seat) s.waiting k.waiting in (
      subst (λ (o : Option Envelope). IsIntake (record s { room = c.take_in.new.ledger.room; keeps = c.take_in.new.ledger.keeps; entries = c.take_in.new.ledger.entries; held = o; memory_seat = m; cell_seat = q })) (sym c.take_in.ensures.held)
          (subst (λ (z : LedgerState). IsIntake (record s { room = z.room; keeps = z.keeps; entries = z.entries; held = None; memory_seat = m; cell_seat = q })) (sym c.take_in.ensures.ledger)
          (intake_taken s k e held goes t refl m q s.waiting rests (c.meet.ensures.from.0.2 ∙ c.judge_next-judged.ensures.seat.0.2) took (admits.0 ∙ sym mine) in_cells waits)),
      c.self.invariant.1,
    )

pub returns-clause-answer : goal.returns-clause-answer
returns-clause-answer g c =
    let a = c.self.inside in let s = intake_state a in let k = c.self.invariant.0 in let e = c.args.envelope in
    let held = subst (λ (o : IntakeState). o.held ≡ Some e) (sym c.self.view_is) c.requires.held in
    let goes = subst (λ (o : IntakeState). IsOpen o) (sym c.self.view_is) c.requires.still in
    let mine : seat_cells a.cell_seat ≡ cells_id c.args.cells.now = subst (λ (o : IntakeState). seat_cells o.cell_seat ≡ cells_id c.args.cells.now) (sym c.self.view_is) c.requires.cells in
    let t : Taking = record { hand = c.args.hand; envelope = e; verdict = c.judge_next-judged.result.verdict; waits = c.judge_next-judged.result.waits; seen = c.judge_next-judged.result.seen } in
    let from = c.judge_next-judged.new.seat in let to = c.meet.new.to in let ts = takings s.entries in let q = c.admit_member.new.seat in
    let known = judged_told s.part (number s.memory_seat) (seen_by from) (seen_by to) ts t c.judge_next-judged.ensures.taken c.meet.ensures.told in
    let was = judged_told s.part (number s.memory_seat) (seen_by from) (seen_by from) ts t c.judge_next-judged.ensures.taken (prefix_refl (seen_by from)) in
    let new : IntakeState = record s { room = c.take_in.new.ledger.room; keeps = c.take_in.new.ledger.keeps; entries = c.take_in.new.ledger.entries; held = c.take_in.new.held; memory_seat = c.meet.new.from; cell_seat = q } in
    let entries : c.take_in.new.ledger.entries ≡ s.entries ++ taking_entry t ∷ [] = ap (λ (z : LedgerState). z.entries) c.take_in.ensures.ledger in
    let has = has_taken s k e held goes new to t refl entries c.take_in.ensures.held known in
    let right = subst (λ (z : TableId). HasRight z (ts ++ t ∷ []) t c.in-Ok.right) (sym mine) (right_given s k e held goes t refl c.args.cells.now q c.from_bytes-request.result c.from_bytes-request.ensures.fields c.in-Ok.right c.in-Ok.ensures.right) in
    let told : takings c.take_in.new.ledger.entries ≡ ts ++ t ∷ [] = ap takings entries ∙ filter_map_add taking_of s.entries (taking_entry t) t refl in
    let pages = pages_told from to t c.judge_next-judged.result.pages (c.meet.ensures.fixed_part ∙ sym c.meet.ensures.to.0.3) c.meet.ensures.told was.seen c.judge_next-judged.ensures.pages in
    let out : IsRightOut s new t c.in-Ok.right = (
      λ f. (refl, subst (λ (l : List Taking). HasRight (seat_cells s.cell_seat) l t c.in-Ok.right) (sym told) right),
      λ y. absurd (never_waits c.judge_next-judged.result.waits c.if-judged.false y),
    ) in
    subst (λ (o : IntakeState). IsTakenOrStalled c.args.hand o new to e c.answer.result) c.self.view_is
    (subst (λ (z : Admission). IsTakenOrStalled c.args.hand s new to e z) (sym c.answer.ensures)
    (told_answer c.args.hand s new to e t s.part (number s.memory_seat) has refl known c.judge_next-judged.result.pages c.in-Ok.right pages out))
