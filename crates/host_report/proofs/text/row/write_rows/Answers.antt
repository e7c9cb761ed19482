use Rattle.std.proofs.Common.{◌≡◌, ◌<◌, ℕ, List, length, get_or, zero-add, sym, ap, ◌∙◌, arith}
use Rattle.std.proofs.lemmas.List.FromFn.{get_or-enumerate_from, length-enumerate_from}
use Rattle.std.specs.List.{enumerate_from}
use Rattle.host_model.specs.{TakenRow}
use Rattle.host_model.specs.declared.verdict.Verdict.TheVariants as verdict
use Rattle.host_record.specs.declared.status.Status.TheVariants as status
use Rattle.host_report.specs.{row_line}
use Rattle.host_text.proofs.Putting.{adds_all, adds_at, puts_exit, stops_at}
use Rattle.host_report.proofs.text.row.write_rows.Goals as goal

abbrev fallback : TakenRow
fallback = record { verdict = verdict.Accepted; outcome = status.Ok }

nth : (rows : List TakenRow) (i : ℕ) → i < length rows → (i, get_or rows i fallback) ≡ get_or (enumerate_from 0 rows) i (0, fallback)
nth rows i lt = ap (λ (n : ℕ). (n, get_or rows i fallback)) (sym (zero-add i)) ∙ sym (get_or-enumerate_from 0 rows i (0, fallback) lt)

within : (rows : List TakenRow) (i : ℕ) → i < length rows → i < length (enumerate_from 0 rows)
within rows i lt = omega (arith, length-enumerate_from 0 rows)

pub returns-in_err-write_row : goal.returns-in_err-write_row
returns-in_err-write_row g c =
    let rows = c.args.rows.now in
    let i = c.loop-index.index in
    let lt : i < length rows = omega arith in
    puts_exit _ _ c.from_residual.ensures.0
    (stops_at row_line (enumerate_from 0 rows) i (i, get_or rows i fallback) (0, fallback) (within rows i lt) (nth rows i lt) c.loop-index.invariant c.in_err-write_row.ensures)

pub loop-index-preserved : goal.loop-index-preserved
loop-index-preserved g c =
    let rows = c.args.rows.now in
    let i = c.loop-index.index in
    let lt : i < length rows = omega arith in
    adds_at row_line (enumerate_from 0 rows) i (i, get_or rows i fallback) (0, fallback) (within rows i lt) (nth rows i lt) c.loop-index.invariant c.in_ok-write_row.ensures

pub returns : goal.returns
returns g c = adds_all row_line (enumerate_from 0 c.args.rows.now) c.loop-index.index (omega (arith, length-enumerate_from 0 c.args.rows.now)) c.loop-index.invariant
