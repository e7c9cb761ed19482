use Rattle.std.proofs.Common.{◌≡◌, ℕ, ◌≤◌, List, Option, Some, None, false, refl, sym, ap, subst, ◌∙◌}
use Rattle.std.specs.Prelude.{MatchOption, position}
use Rattle.std.specs.List.{list_any}
use Rattle.host_intake.specs.{Waiting, intake_state, IsIntake, IntakeState, HasLeft, is_waiting_at}
use Rattle.host_intake.proofs.Leaving.{position_none, intake_left, has_left}
use Rattle.host_intake.proofs.intake.Intake.waiting.Goals as goal

pub returns-in_err-place : goal.returns-in_err-place
returns-in_err-place c = let a = c.self.inside in
    let none : position (is_waiting_at c.args.index) a.waiting.items ≡ None = ap (λ (z : List Waiting). position (is_waiting_at c.args.index) z) (sym c.deref.ensures.value) ∙ (sym c.place_waiting.ensures ∙ c.in_err-place.was) in
    let out = subst (λ (s : IntakeState). list_any (is_waiting_at c.args.index) s.waiting ≡ false) c.self.view_is (position_none (is_waiting_at c.args.index) a.waiting.items none) in
    subst (λ (z : Option Waiting). MatchOption z ((list_any (is_waiting_at c.args.index) c.args.self.now.waiting ≡ false) × (c.args.self.now ≡ c.args.self.now)) (λ w. HasLeft c.args.index c.args.self.now c.args.self.now w)) (sym c.from_residual.ensures) (out, refl)

pub invariant_of-self : goal.invariant_of-self
invariant_of-self c = let a = c.self.inside in
    let found : position (is_waiting_at c.args.index) a.waiting.items ≡ Some c.in_ok-place.place = ap (λ (z : List Waiting). position (is_waiting_at c.args.index) z) (sym c.deref.ensures.value) ∙ (sym c.place_waiting.ensures ∙ c.in_ok-place.was) in (
      subst (λ (z : List Waiting). IsIntake (record (intake_state a) { waiting = z })) (sym c.remove.ensures.items)
          (intake_left (intake_state a) c.self.invariant.0 c.args.index c.in_ok-place.place c.remove.result found c.remove.ensures.value),
      subst (λ (z : ℕ). 64 ≤ z) (sym c.remove.ensures.capacity) c.self.invariant.1,
    )

pub returns : goal.returns
returns c = let a = c.self.inside in
    let found : position (is_waiting_at c.args.index) a.waiting.items ≡ Some c.in_ok-place.place = ap (λ (z : List Waiting). position (is_waiting_at c.args.index) z) (sym c.deref.ensures.value) ∙ (sym c.place_waiting.ensures ∙ c.in_ok-place.was) in
    subst (λ (s : IntakeState). HasLeft c.args.index s (record (intake_state a) { waiting = c.remove.new.self.items }) c.remove.result) c.self.view_is
    (subst (λ (z : List Waiting). HasLeft c.args.index (intake_state a) (record (intake_state a) { waiting = z }) c.remove.result) (sym c.remove.ensures.items)
    (has_left (intake_state a) c.self.invariant.0 c.args.index c.in_ok-place.place c.remove.result found c.remove.ensures.value))
