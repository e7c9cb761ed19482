-- What is true of a bench stays true as its intake goes on.
use Rattle.std.proofs.Common.{◌≡◌, ℕ, [], ◌∷◌, ◌++◌, length, Option, Some, None, ap, ◌∙◌, arith}
use Rattle.std.proofs.lemmas.Option.{slice_get_within}
use Rattle.host_memory.proofs.Pushed.{filter_map_skip}
use Rattle.host_group.specs.{seat_cells}
use Rattle.host_turn.specs.{IsOutside, IsSameSeat, number, seat_book}
use Rattle.host_intake.specs.{IntakeEntry, landing_of, landings, taking_of, takings, IntakePlan, IntakeState, MemorySeat, plan_of_intake}
use Rattle.intake_client.specs.declared.bench.Bench.TheInside.{Inside}
use Rattle.intake_client.specs.{Flight, IsKept, Taken, AtLimit, Finished, Flying, NoRecord, Stalled, Waits, Flies, FliesIfAny, HasLanded, IsOtherThan, IsBeside, IsTaken}
use Rattle.intake_client.proofs.Flying.{flies_same}
use Rattle.intake_client.proofs.Landings.{flies_landed}

any_flies : (s z : IntakeState) (o : Option Flight) → ((f : Flight) → Flies 0 s f → Flies 0 z f) → FliesIfAny 0 s o → FliesIfAny 0 z o
any_flies s z None h m = m
any_flies s z (Some f) h m = h f m

-- the intake went on, and what flew flies
pub kept_on : (a : Inside) (z : IntakeState) → IsKept a → z.memory_seat ≡ a.intake.memory_seat → seat_cells z.cell_seat ≡ seat_cells a.intake.cell_seat → ((f : Flight) → Flies 0 a.intake f → Flies 0 z f) → IsKept (record a { intake = z })
kept_on a z k seat cells flies = record {
  seat = k.seat;
  of_memory = ap (λ (q : MemorySeat). seat_book q) seat ∙ k.of_memory;
  of_cells = cells ∙ k.of_cells;
  client = ap (λ (q : MemorySeat). number q) seat ∙ k.client;
  pushed = k.pushed;
  records = k.records;
  flies = any_flies a.intake z a.flight flies k.flies;
}

-- an entry that is no record's stands last
pub kept_pushed : (a : Inside) (z : IntakeState) (x : IntakeEntry) → IsKept a → taking_of x ≡ None → landing_of x ≡ None → z.memory_seat ≡ a.intake.memory_seat → z.cell_seat ≡ a.intake.cell_seat → z.entries ≡ a.intake.entries ++ x ∷ [] → IsKept (record a { intake = z })
kept_pushed a z x k ts ls seat cells es =
    let c : seat_cells z.cell_seat ≡ seat_cells a.intake.cell_seat = ap seat_cells cells in
    kept_on a z k seat c
    (λ f m. flies_same 0 a.intake z f c (ap takings es ∙ filter_map_skip taking_of a.intake.entries x ts) (ap landings es ∙ filter_map_skip landing_of a.intake.entries x ls) m)

-- what flies was taken before the next record
pub next_other : (s : IntakeState) (i : ℕ) (o : Option Flight) → i ≡ length (takings s.entries) → FliesIfAny 0 s o → IsOtherThan i o
next_other s i None e m = m
next_other s i (Some f) e m = λ same. let before = slice_get_within (takings s.entries) f.envelope.index m.0 m.1.at in absurd (omega arith)

-- the next record, if it flies, is another than the one that flew
pub beside : (s z : IntakeState) (o : Option Flight) (a : Taken) → IsTaken 0 s z a → FliesIfAny 0 s o → IsBeside o a
beside s z o Finished k m = tt
beside s z o AtLimit k m = tt
beside s z o NoRecord k m = tt
beside s z o Stalled k m = tt
beside s z o Waits k m = tt
beside s z o (Flying f) k m = next_other s f.envelope.index o k.0 m

-- the next record was taken
pub kept_taken : (a : Inside) (z : IntakeState) (q : MemorySeat) → IsKept a → plan_of_intake z ≡ plan_of_intake a.intake → IsSameSeat a.hand q × IsOutside q → ((f : Flight) → Flies 0 a.intake f → Flies 0 z f) → IsKept (record a { hand = q; intake = z })
kept_taken a z q k plan seat flies = record {
  seat = (seat.0.0 ∙ k.seat.0, seat.1);
  of_memory = ap (λ (p : IntakePlan). p.memory) plan ∙ k.of_memory;
  of_cells = ap (λ (p : IntakePlan). p.cells) plan ∙ k.of_cells;
  client = ap (λ (p : IntakePlan). p.admissions) plan ∙ k.client;
  pushed = k.pushed;
  records = k.records;
  flies = any_flies a.intake z a.flight flies k.flies;
}

other_flies : (i : ℕ) (s z : IntakeState) (o : Option Flight) → HasLanded 0 i s z → IsOtherThan i o → FliesIfAny 0 s o → FliesIfAny 0 z o
other_flies i s z None h e m = m
other_flies i s z (Some f) h e m = flies_landed 0 i s z h f e m

-- another record ended
pub kept_landed : (a : Inside) (i : ℕ) (z : IntakeState) → IsKept a → HasLanded 0 i a.intake z → IsOtherThan i a.flight → IsKept (record a { intake = z })
kept_landed a i z k h other = record {
  seat = k.seat;
  of_memory = ap (λ (s : IntakeState). seat_book s.memory_seat) h.3 ∙ k.of_memory;
  of_cells = h.4 ∙ k.of_cells;
  client = ap (λ (s : IntakeState). number s.memory_seat) h.3 ∙ k.client;
  pushed = k.pushed;
  records = k.records;
  flies = other_flies i a.intake z a.flight h other k.flies;
}

-- another record flies, or none
pub kept_flying : (a : Inside) (o : Option Flight) → IsKept a → FliesIfAny 0 a.intake o → IsKept (record a { flight = o })
kept_flying a o k m = record { seat = k.seat; of_memory = k.of_memory; of_cells = k.of_cells; client = k.client; pushed = k.pushed; records = k.records; flies = m }
