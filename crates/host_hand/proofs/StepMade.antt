-- A step that a hand made in its turn.
use Rattle.std.proofs.Common.{◌≡◌, ℕ, ◌≤◌, Bool, true, false, Result, Ok, Err, List, [], ◌++◌, length, sym, ap, subst, ◌∙◌, arith}
use Rattle.std.specs.List.{All}
use Rattle.std.proofs.lemmas.List.Elements.{All-nil, All-cons}
use Rattle.host_device.specs.{StepError, Fault, Oom, entries_added}
use Rattle.host_model.specs.{Step}
use Rattle.host_log.specs.{Continues, HasGrown}
use Rattle.host_log.proofs.Growing.{grown_turn}

pub all_added : (P : Step → Type 0) (answer : Result Unit StepError) (entry : Bool → Step) → ((b : Bool) → P (entry b)) → All P (entries_added answer entry)
all_added P (Ok x) entry each = All-cons P (entry false) [] (each false) (All-nil P)
all_added P (Err Fault) entry each = All-cons P (entry true) [] (each true) (All-nil P)
all_added P (Err Oom) entry each = All-nil P

pub step_grown : (n m front stop : ℕ) (old seen mid after new : List Step) (answer : Result Unit StepError) (entry : Bool → Step) → m ≡ n → Continues (λ (step : Step). step.hand) m old seen → mid ≡ seen
    → after ≡ mid ++ entries_added answer entry → new ≡ after → ((b : Bool) → (entry b).hand ≡ n) → front ≤ length mid → stop ≡ length after → HasGrown (λ (step : Step). step.hand) n front stop (entries_added answer entry) old new
step_grown n m front stop old seen mid after new answer entry by later story added left each past top =
    let same : Continues (λ (step : Step). step.hand) n old mid = subst (λ l. Continues (λ (step : Step). step.hand) n old l) (sym story) (subst (λ k. Continues (λ (step : Step). step.hand) k old seen) by later) in
    grown_turn (λ (step : Step). step.hand) n front stop (entries_added answer entry) old mid new same (left ∙ added) (all_added (λ (step : Step). step.hand ≡ n) answer entry each) past (let t : length new ≡ length after = ap length left in omega arith)
