use Rattle.std.proofs.Common.{ℕ, List, flat_map, subst, ap, ◌∙◌}
use Rattle.host_text.specs.{PutsHeldText}
use Rattle.script_model.specs.{SessionScript, plan_of, session_script_text}
use Rattle.host_script.proofs.PrintedPlans.{text_of_plans}
use Rattle.host_script.proofs.print.write_script.Goals as goal

pub returns : goal.returns
returns g c =
    subst (λ (t : List ℕ). PutsHeldText g.K.Sink.tells g.K.Sink.faults g.K.Sink.appended c.args.out.now c.args.held.now c.write_sessions.new.out c.write_sessions.new.held t c.write_sessions.result)
    (ap (flat_map (λ (s : SessionScript). session_script_text (plan_of s))) c.as_slice.ensures ∙ text_of_plans c.args.script.now.sessions.items)
    c.write_sessions.ensures
