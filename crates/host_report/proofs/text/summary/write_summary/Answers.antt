use Rattle.std.proofs.Common.{◌≡◌, [], List, ℕ, subst, append-nil}
use Rattle.std.proofs.lemmas.Result.{IfOk-from_err}
use Rattle.host_report.specs.{summary_text}
use Rattle.host_text.specs.{PutsHeldText}
use Rattle.host_text.proofs.Putting.{finished, puts_after, puts_exit}
use Rattle.host_report.proofs.text.summary.write_summary.Goals as goal

pub returns-in_err-write_lines : goal.returns-in_err-write_lines
returns-in_err-write_lines g c =
    let r = c.from_residual.result in
    let f = finished g.K.Sink.tells g.K.Sink.faults g.K.Sink.appended c.args.out.now c.write_lines.new.out [] (summary_text c.args.report.now) r
    (puts_exit [] r c.from_residual.ensures.0 (rw c.new-held.ensures at c.in_err-write_lines.ensures))
    (IfOk-from_err r (λ _. [] ≡ []) c.from_residual.ensures.0) in
    record { tells = f.0; text = f.1; cause = f.2 }

pub returns : goal.returns
returns g c =
    let r = c.send.result in
    let p = subst (λ (l : List ℕ). PutsHeldText g.K.Sink.tells g.K.Sink.faults g.K.Sink.appended c.args.out.now [] c.send.new.out c.send.new.self l r)
    (append-nil (summary_text c.args.report.now))
    (puts_after _ _ _ _ (rw c.new-held.ensures at c.in_ok-write_lines.ensures) c.send.ensures.text) in
    let f = finished g.K.Sink.tells g.K.Sink.faults g.K.Sink.appended c.args.out.now c.send.new.out c.send.new.self (summary_text c.args.report.now) r p c.send.ensures.empty in
    record { tells = f.0; text = f.1; cause = f.2 }
