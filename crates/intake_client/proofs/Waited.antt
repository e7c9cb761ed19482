-- A close that waited is taken out and ends.
use Rattle.std.proofs.Common.{◌≡◌, ℕ, ◌==◌, false, ◌||◌, nat_lt, length, Option, Some, None, MatchOption, refl, sym, ap, subst, ◌∙◌}
use Rattle.std.proofs.Math.Bool.{or-true}
use Rattle.std.specs.Prelude.{slice_get}
use Rattle.std.specs.List.{list_any}
use Rattle.host_group.specs.{seat_cells}
use Rattle.host_intake.specs.{Waiting, Taking, landings, takings, IntakeState, is_open, HasLeft, IsRecordWaiting, is_waiting_at}
use Rattle.host_log.proofs.Bools.{and_right}
use Rattle.intake_client.specs.{Flight, CanLand, Flies, HasLanded, IsAsMade}
use Rattle.intake_client.proofs.Flying.{flies_same}
use Rattle.intake_client.proofs.Landings.{flies_landed, waited_other}

-- the taking of the close
abbrev OfWaiting : IntakeState → Waiting → Type 0
OfWaiting s w = (t : Taking) × (slice_get (takings s.entries) w.envelope.index ≡ Some t) × IsRecordWaiting (seat_cells s.cell_seat) (takings s.entries) (landings s.entries) w t

taking_found : (i : ℕ) (old new : IntakeState) (w : Waiting) → HasLeft i old new w → OfWaiting old w
taking_found i old new w k = step (slice_get (takings old.entries) w.envelope.index) refl k.4
  where
    step : (o : Option Taking) → slice_get (takings old.entries) w.envelope.index ≡ o → MatchOption o ⊥ (λ t. IsRecordWaiting (seat_cells old.cell_seat) (takings old.entries) (landings old.entries) w t) → OfWaiting old w
    step None e m = absurd m
    step (Some t) e m = (t, e, m)

pub waiting_lands : (hand i : ℕ) (old new : IntakeState) (w : Waiting) → HasLeft i old new w → CanLand hand new w.envelope w.right
waiting_lands hand i old new w k =
    let o = taking_found i old new w k in let t : Taking = o.0 in let m = o.2 in
    let none : list_any (is_waiting_at w.envelope.index) new.waiting ≡ false = ap (λ j. list_any (is_waiting_at j) new.waiting) k.0 ∙ k.2 in
    subst (λ (s : IntakeState). CanLand hand s w.envelope w.right) (sym k.1) (
      t,
      record {
        at = o.1;
        envelope = m.envelope;
        still_open = and_right (nat_lt w.envelope.index (length (takings old.entries))) (is_open (landings old.entries) w.envelope.index) m.flying;
        right_is = m.right;
      },
      ap (λ b. t.hand == hand || b) m.waits ∙ or-true (t.hand == hand),
      none,
    )

module _ (hand i : ℕ) (old mid new : IntakeState) (w : Waiting) (k : HasLeft i old mid w) (l : HasLanded hand w.envelope.index mid new) where
  pub waiting_keeps : (f : Flight) → Flies hand old f → Flies hand new f
  waiting_keeps f m =
      let o = taking_found i old mid w k in
      let es : mid.entries ≡ old.entries = ap (λ (s : IntakeState). s.entries) k.1 in
      let n : Flies hand mid f = flies_same hand old mid f (ap (λ (s : IntakeState). seat_cells s.cell_seat) k.1) (ap takings es) (ap landings es) m in
      let at : slice_get (takings mid.entries) w.envelope.index ≡ Some o.0 = ap (λ ts. slice_get (takings ts) w.envelope.index) es ∙ o.1 in
      flies_landed hand w.envelope.index mid new l f (waited_other hand w.envelope.index mid o.0 f at o.2.waits n) n

  pub waiting_made : IsAsMade old new
  waiting_made = (ap (λ (s : IntakeState). s.memory_seat) l.3 ∙ ap (λ (s : IntakeState). s.memory_seat) k.1, l.4 ∙ ap (λ (s : IntakeState). seat_cells s.cell_seat) k.1)
