-- The text of a program's script, session by session.
use Rattle.std.proofs.Common.{◌≡◌, ℕ, List, [], ◌∷◌, ◌++◌, map, flat_map, refl, ap}
use Rattle.script_model.specs.{SessionScript, plan_of, script_text, session_script_text}

pub text_of_plans : (sessions : List SessionScript) → flat_map (λ s. session_script_text (plan_of s)) sessions ≡ script_text (map plan_of sessions)
text_of_plans [] = refl
text_of_plans (s ∷ sessions) = ap (λ (t : List ℕ). session_script_text (plan_of s) ++ t) (text_of_plans sessions)
