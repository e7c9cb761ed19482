use Rattle.std.proofs.Common.{◌≡◌, ◌-◌, ◌∷◌, ◌++◌}
use Rattle.script_model.specs.{Attach, Fill, request_lines, after_requests}
use Rattle.host_script.proofs.generator.session.Given as goal

abbrev pub invariant-loop-n : goal.invariant-loop-n
invariant-loop-n l = record {
  state : after_requests l.draws.state (l.requests - l.n) ≡ after_requests l.fn.draws.state l.requests;
  lines : l.lines.items ++ request_lines l.draws.state l.n (l.requests - l.n) ≡ Attach 8 ∷ Fill 1 0 8 l.number ∷ request_lines l.fn.draws.state 0 l.requests;
}
