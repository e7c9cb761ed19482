use Rattle.std.proofs.Common.{◌↔◌, ◌≡◌, IsTrue, length, map, nat_lt, ap, subst, ◌∙◌}
use Rattle.std.specs.List.{AllByRecursion, range_with_len}
use Rattle.host_block.specs.{IsLegal}
use Rattle.host_model.specs.{changes_of, IsLawfulSession, implies}
use Rattle.host_report.specs.{pages_asked, ran_short, session_of}
use Rattle.host_check.proofs.report.run_parts.Goals as goal

pub returns : goal.returns
returns c = record {
  numbers = subst (λ ss. IsTrue c.are_numbered.result ↔ (map (λ s. s.number) ss ≡ range_with_len 1 (length ss))) c.as_slice-sessions.ensures c.are_numbered.ensures;
  sessions = subst (λ ss. IsTrue c.in_ok-lawful.lawful ↔ AllByRecursion (λ s. IsLawfulSession (session_of c.args.report.now s)) ss) c.as_slice-sessions.ensures c.in_ok-lawful.ensures;
  closing = c.in_ok-closing.ensures;
  legal = subst (λ steps. IsTrue c.in_ok-legal.legal ↔ IsLegal c.args.image.now (changes_of steps)) c.as_slice.ensures c.in_ok-legal.ensures;
  frames = c.ran_short_rightly.ensures ∙ ap (λ ss. implies (ran_short ss) (nat_lt 4096 (pages_asked ss))) c.as_slice-sessions.ensures;
  home = c.are_home.ensures;
}
