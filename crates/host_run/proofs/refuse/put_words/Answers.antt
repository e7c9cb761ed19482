use Rattle.std.proofs.Common.{◌≡◌, [], List, ℕ, subst, append-nil}
use Rattle.std.proofs.lemmas.Result.{IfOk-from_err}
use Rattle.host_text.specs.{all_printed, line, PutsHeldText}
use Rattle.host_text.proofs.Putting.{finished, puts_after, puts_exit}
use Rattle.host_run.proofs.refuse.put_words.Goals as goal

pub returns-in_err-put_line : goal.returns-in_err-put_line
returns-in_err-put_line g c =
    let r = c.from_residual.result in
    let f = finished g.K.Sink.tells g.K.Sink.faults g.K.Sink.appended c.args.out.now c.put_line.new.out [] (line (all_printed c.args.words.now)) r
    (puts_exit [] r c.from_residual.ensures.0 (rw c.new-held.ensures at c.in_err-put_line.ensures))
    (IfOk-from_err r (λ _. [] ≡ []) c.from_residual.ensures.0) in
    record { text = f.1; cause = f.2 }

pub returns : goal.returns
returns g c =
    let r = c.send.result in
    let p = subst (λ (l : List ℕ). PutsHeldText g.K.Sink.tells g.K.Sink.faults g.K.Sink.appended c.args.out.now [] c.send.new.out c.send.new.self l r)
    (append-nil (line (all_printed c.args.words.now)))
    (puts_after _ _ _ _ (rw c.new-held.ensures at c.in_ok-put_line.ensures) c.send.ensures.text) in
    let f = finished g.K.Sink.tells g.K.Sink.faults g.K.Sink.appended c.args.out.now c.send.new.out c.send.new.self (line (all_printed c.args.words.now)) r p c.send.ensures.empty in
    record { text = f.1; cause = f.2 }
