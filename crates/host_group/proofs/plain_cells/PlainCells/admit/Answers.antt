use Rattle.std.proofs.Common.{ap, set, refl, sym, ◌∙◌, arith}
use Rattle.host_group.specs.{member, PlainCell, empty_cell, added_cell}
use Rattle.host_group.proofs.PlainLemmas.{cell_here, cell_own, rows_added, rows_else}
use Rattle.host_group.proofs.plain_cells.PlainCells.admit.Goals as goal

pub returns-clause-rows : goal.returns-clause-rows
returns-clause-rows c rows j has = let eight = c.args.self.now.eight in let small = c.requires.number in let low = c.requires.index.0 in let high = c.requires.index.1 in
    let same = cell_here c.args.self.now.cells c.args.g _ empty_cell (omega arith) in
    rows_added c.args.g c.args.self.now _ rows (member c.args.g j c.args.index c.args.reqid c.args.last)
    record { number = omega arith; cells = ap (set c.args.self.now.cells c.args.g) (c.with_member.ensures ∙ ap (λ x. added_cell x c.args.index c.args.reqid c.args.last) same); next = omega arith } low refl (omega arith) (ap (λ (x : PlainCell). x.closed) (sym same) ∙ c.if-cell.false) has

pub returns-clause-others : goal.returns-clause-others
returns-clause-others c h rows ne has = let eight = c.args.self.now.eight in let small = c.requires.number in let low = c.requires.index.0 in let high = c.requires.index.1 in
    rows_else c.args.g h c.args.self.now _ c.with_member.result rows record { number = omega arith; cells = refl; next = omega arith } (omega arith) ne has

pub returns-clause-unsettled : goal.returns-clause-unsettled
returns-clause-unsettled c = let eight = c.args.self.now.eight in let small = c.requires.number in let same = cell_here c.args.self.now.cells c.args.g _ empty_cell (omega arith) in
    ap (λ (x : PlainCell). x.unsettled) (cell_own c.args.self.now.cells c.args.g c.with_member.result (omega arith) ∙ (c.with_member.ensures ∙ ap (λ x. added_cell x c.args.index c.args.reqid c.args.last) same))
