use Rattle.std.proofs.Common.{◌++◌, ◌∷◌, [], List, ℕ, subst}
use Rattle.host_text.specs.{PutsHeldText}
use Rattle.host_text.proofs.PrintedLemmas.{spaced_line}
use Rattle.host_text.proofs.Putting.{puts_after, puts_exit, stops_later, stops_longer}
use Rattle.host_text.proofs.line.put_line.Goals as goal

pub returns-in_err-put : goal.returns-in_err-put
returns-in_err-put g c = puts_exit _ _ c.from_residual.ensures.0 (stops_longer _ c.in_err-put.ensures)

pub returns-in_err-put_words : goal.returns-in_err-put_words
returns-in_err-put_words g c =
    subst (λ (l : List ℕ). PutsHeldText g.K.Sink.tells g.K.Sink.faults g.K.Sink.appended c.args.out.now c.args.held.now c.put_words.new.out c.put_words.new.held (c.args.indent.now ++ l) c.from_residual-in_err-put_words.result)
    (spaced_line c.args.words.now)
    (puts_exit _ _ c.from_residual-in_err-put_words.ensures.0 (stops_later c.in_ok-put.ensures (stops_longer (10 ∷ []) c.in_err-put_words.ensures)))

pub returns : goal.returns
returns g c =
    subst (λ (l : List ℕ). PutsHeldText g.K.Sink.tells g.K.Sink.faults g.K.Sink.appended c.args.out.now c.args.held.now c.put-2.new.out c.put-2.new.self (c.args.indent.now ++ l) c.put-2.result)
    (spaced_line c.args.words.now)
    (puts_after _ _ _ _ c.in_ok-put.ensures (puts_after _ _ _ _ c.in_ok-put_words.ensures c.put-2.ensures))
