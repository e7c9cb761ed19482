-- The answer about the record that was held, as the answer to the whole call.
use Rattle.std.proofs.Common.{◌≡◌, ℕ, Option, Some, None, MatchOption, refl, sym, ap, subst, ◌∙◌}
use Rattle.std.specs.Prelude.{unwrap_or}
use Rattle.host_rings.specs.{Envelope, TakerState}
use Rattle.host_intake.specs.{Admission, HasTaken, IsAdmission, IsOpen, IsTakenOrStalled, Taking, IntakeState, MemorySeat}
use Rattle.host_intake.specs.declared.admission.Admission.TheVariants as answer

module _ (hand : ℕ) (s : IntakeState) (h : Option Envelope) (taker : TakerState) (new : IntakeState) (seat : MemorySeat) (e : Envelope) (goes : IsOpen s) (first : unwrap_or s.held e ≡ e) where
  abbrev holding : IntakeState
  holding = record s { held = h; taker = taker }

  taken_before : (x : Envelope) (t : Taking) → x ≡ e → HasTaken holding new seat x t → HasTaken s new seat x t
  taken_before x t is k = record {
    envelope = k.envelope;
    first = subst (λ (z : Envelope). unwrap_or s.held z ≡ z) (sym is) first;
    index = k.index;
    entries = k.entries;
    held = k.held;
    judged = k.judged;
  }

  pub answer_next : (r : Admission) → IsTakenOrStalled hand holding new seat e r → IsAdmission hand s new seat r
  answer_next answer.Stalled k = (goes, (e, record { held = k.held; first = first; index = k.index; member = k.member; entries = k.entries; waiting = k.waiting; in_flight = k.in_flight }))
  answer_next (answer.Refused x status right) k =
      let t = k.1.0 in let m = k.1.1 in (goes, (t, record { taken = taken_before x t k.0 m.taken; by = m.by; verdict = m.verdict; right_out = m.right_out }))
  answer_next (answer.Admitted x pages right) k =
      let t = k.1.0 in let m = k.1.1 in (goes, (t, record { taken = taken_before x t k.0 m.taken; by = m.by; verdict = m.verdict; blocks = m.blocks; pages_out = m.pages_out; right_out = m.right_out }))
  answer_next answer.Finished k = absurd k
  answer_next answer.AtLimit k = absurd k
  answer_next answer.NoRecord k = absurd k

-- a record that was held before is the one that is held after
pub first_is : (old new : IntakeState) (e : Envelope) → MatchOption old.held (Unit {0}) (λ x. new ≡ old) → new.held ≡ Some e → unwrap_or old.held e ≡ e
first_is old new e m held = step old.held refl m
  where
    step : (o : Option Envelope) → old.held ≡ o → MatchOption o (Unit {0}) (λ x. new ≡ old) → unwrap_or o e ≡ e
    step None is m = refl
    step (Some x) is m = ap (λ (o : Option Envelope). unwrap_or o e) (sym is ∙ (ap (λ (z : IntakeState). z.held) (sym m) ∙ held))
