use Rattle.std.proofs.Common.{[], ◌∷◌, ℕ, subst}
use Rattle.std.specs.Prelude.{codes, decimal}
use Rattle.host_text.specs.{line, Writes}
use Rattle.host_run.proofs.refuse.put_no_part.Goals as goal

pub returns-clause-text : goal.returns-clause-text
returns-clause-text g c =
    subst (λ (p : ℕ × ℕ). Writes (g.K.Sink.tells c.args.out.now) (g.K.Sink.appended c.args.out.now) (g.K.Sink.appended c.put_words.new.out) (line (codes "refused" ∷ codes "10" ∷ codes "session" ∷ decimal p.0 ∷ codes "part" ∷ decimal p.1 ∷ [])) c.put_words.result)
    (λ i. (c.from.ensures i, c.from-2.ensures i)) c.put_words.ensures.text
