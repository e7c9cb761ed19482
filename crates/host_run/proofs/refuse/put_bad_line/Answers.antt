use Rattle.std.proofs.Common.{[], ◌∷◌, ℕ, List, subst}
use Rattle.std.specs.Prelude.{codes, decimal}
use Rattle.host_text.specs.{line, Writes}
use Rattle.host_run.proofs.refuse.put_bad_line.Goals as goal

pub returns-clause-text : goal.returns-clause-text
returns-clause-text g c =
    subst (λ (w : List ℕ). Writes (g.K.Sink.tells c.args.out.now) (g.K.Sink.appended c.args.out.now) (g.K.Sink.appended c.put_words.new.out) (line (codes "refused" ∷ codes "4" ∷ codes "line" ∷ decimal c.args.line ∷ w ∷ [])) c.put_words.result)
    c.word_of.ensures c.put_words.ensures.text
