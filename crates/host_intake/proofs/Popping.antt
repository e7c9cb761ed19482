-- The next envelope is popped, and held.
use Rattle.std.proofs.Common.{◌≡◌, ℕ, ◌+◌, ◌<◌, true, false, List, [], ◌∷◌, ◌++◌, length, Option, Some, None, MatchOption, refl, sym, ap, subst, ◌∙◌, arith, length-append}
use Rattle.std.proofs.lemmas.List.{length-take, length-drop, length-map, take-append-le, drop-append-le}
use Rattle.std.specs.Option.{is_some}
use Rattle.host_rings.specs.{Envelope, TakerState, with_heard, with_taken, FoundEmpty}
use Rattle.host_intake.specs.{IntakeEntry, Phase, Running, Draining, Aborted, Closed, takings, envelope_of, IsIntake, ArePopped, is_course, IntakeState, turns, phase_in, was_aborted, is_aborted_phase, is_over}
use Rattle.host_memory.specs.{listed}
use Rattle.host_intake.proofs.Ending.{aborted_is}

over_parts : (p : Phase) → is_over p ≡ false → (is_aborted_phase p ≡ false) × (p ≡ Closed → ⊥)
over_parts Running e = (refl, λ c. absurd (cc))
over_parts Draining e = (refl, λ c. absurd (cc))
over_parts Aborted e = absurd (cc)
over_parts Closed e = absurd (cc)

-- a session in which records may be taken is neither aborted nor closed
pub not_aborted : (es : List IntakeEntry) → is_course (turns es) ≡ true → is_over (phase_in es) ≡ false → was_aborted es ≡ false
not_aborted es course goes = let parts = over_parts (phase_in es) goes in aborted_is (turns es) course parts.1 ∙ parts.0

pub not_closed : (es : List IntakeEntry) → is_over (phase_in es) ≡ false → phase_in es ≡ Closed → ⊥
not_closed es goes = (over_parts (phase_in es) goes).1

module _ (room : ℕ) (es : List IntakeEntry) (taker : TakerState) where
  -- as many were popped as were taken, and held
  pub popped_count : (held : Option Envelope) → ArePopped room es held taker → was_aborted es ≡ false → length taker.taken ≡ length (takings es) + length (listed held)
  popped_count held p ab =
      let a = ap length p.taken ∙ length-map (takings es) envelope_of in let b = length-take (length (takings es)) taker.taken in
      let c = ap length (p.left ab) in let d = length-drop (length (takings es)) taker.taken in omega arith

  pub popped_next : ArePopped room es None taker → was_aborted es ≡ false → (e : Envelope) → e.index ≡ length taker.taken → e.index < taker.records → ArePopped room es (Some e) (with_taken taker e)
  popped_next p ab e at few =
      let n = popped_count None p ab in let len = length-append taker.taken (e ∷ []) in
      record {
        taken = take-append-le (length (takings es)) taker.taken (e ∷ []) (omega arith) ∙ p.taken;
        left = λ a. drop-append-le (length (takings es)) taker.taken (e ∷ []) (omega arith) ∙ ap (λ (z : List Envelope). z ++ e ∷ []) (p.left ab);
        dropped = λ a. absurd (let z : false ≡ true = sym ab ∙ a in cc);
        next = omega arith;
        one = omega arith;
        records = omega arith;
        in_room = p.in_room;
        fits = p.fits;
      }

-- the record that was popped is held
pub intake_held : (s : IntakeState) → IsIntake s → s.held ≡ None → is_over (phase_in s.entries) ≡ false → (held : Option Envelope) (taker : TakerState)
    → MatchOption held ((taker ≡ s.taker) × FoundEmpty s.taker) (λ e. (e.index ≡ length s.taker.taken) × (e.index < s.taker.records) × (taker ≡ with_taken s.taker e))
    → IsIntake (record s { held = held; taker = taker })
intake_held s k none goes held taker m = record {
  popped = popped held taker m;
  resting = k.resting;
  taken = k.taken;
  landed = k.landed;
  cells = k.cells;
  waiting = k.waiting;
  turned = k.turned;
  limit = k.limit;
}
  where
    empty : ArePopped s.room s.entries None s.taker
    empty = subst (λ (h : Option Envelope). ArePopped s.room s.entries h s.taker) none k.popped

    popped : (held : Option Envelope) (taker : TakerState) → MatchOption held ((taker ≡ s.taker) × FoundEmpty s.taker) (λ e. (e.index ≡ length s.taker.taken) × (e.index < s.taker.records) × (taker ≡ with_taken s.taker e))
        → ArePopped s.room s.entries held taker
    popped None taker m = subst (λ (z : TakerState). ArePopped s.room s.entries None z) (sym m.0) empty
    popped (Some e) taker m = subst (λ (z : TakerState). ArePopped s.room s.entries (Some e) z) (sym m.2)
        (popped_next s.room s.entries s.taker empty (not_aborted s.entries k.turned.course goes) e m.0 m.1)

-- the taker heard that these were pushed
pub intake_heard : (s : IntakeState) → IsIntake s → (pushed : List Envelope) → IsIntake (record s { taker = with_heard s.taker pushed })
intake_heard s k pushed = record {
  popped = record {
    taken = k.popped.taken;
    left = k.popped.left;
    dropped = k.popped.dropped;
    next = k.popped.next;
    one = k.popped.one;
    records = k.popped.records;
    in_room = k.popped.in_room;
    fits = k.popped.fits;
  };
  resting = k.resting;
  taken = k.taken;
  landed = k.landed;
  cells = k.cells;
  waiting = k.waiting;
  turned = k.turned;
  limit = k.limit;
}

-- nothing is held
pub none_of : (o : Option Envelope) → is_some o ≡ false → o ≡ None
none_of None e = refl
none_of (Some x) e = absurd (cc)
