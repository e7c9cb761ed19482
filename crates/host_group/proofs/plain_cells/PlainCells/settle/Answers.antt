use Rattle.std.proofs.Common.{get_or, ◌≡◌, ◌⊎◌, ◌<◌, ap, sym, subst, ◌∙◌, arith}
use Rattle.std.specs.Prelude.{false, set}
use Rattle.host_group.specs.{failure_word, PlainCell, IsEnd, empty_cell, plain_cell, settled_cell, cell_end, settled_row}
use Rattle.host_group.proofs.PlainLemmas.{cell_here, cell_own, goes_on, comes_to_end, rows_else}
use Rattle.host_group.proofs.plain_cells.PlainCells.settle.Goals as goal

pub returns-then-has_ended-clause-end : goal.returns-then-has_ended-clause-end
returns-then-has_ended-clause-end c rows i r has is = let eight = c.args.self.now.eight in let small = c.requires.0 in let next = c.replace.ensures.0 in
    let same : c.with_settled-cell.result ≡ settled_cell (plain_cell c.args.g c.args.self.now) (failure_word c.args.index c.args.status) c.args.device_front c.args.memory_front =
    c.with_settled-cell.ensures ∙ (ap (λ x. settled_cell x c.failure_word-word.result c.args.device_front c.args.memory_front) (cell_here c.args.self.now.cells c.args.g _ empty_cell (omega arith)) ∙ ap (λ w. settled_cell (plain_cell c.args.g c.args.self.now) w c.args.device_front c.args.memory_front) c.failure_word-word.ensures) in
    let shut = (c.has_ended.ensures.ended c.if-has_ended.true).0 in
    let out = comes_to_end c.args.g c.args.self.now rows i r c.args.index c.args.status c.args.device_front c.args.memory_front has is c.replace.new.self
    record { number = omega arith; cells = c.replace.ensures.1; next = omega arith } next (ap (λ (x : PlainCell). x.closed) (sym same) ∙ shut) in
    (out.0, subst (IsEnd (set rows i (settled_row r c.args.status c.args.device_front c.args.memory_front))) (ap cell_end (sym same) ∙ sym c.end.ensures) out.1)

pub returns-else-has_ended-clause-end : goal.returns-else-has_ended-clause-end
returns-else-has_ended-clause-end c rows i r has is = let eight = c.args.self.now.eight in let small = c.requires.0 in let next = c.replace-else-has_ended.ensures.0 in
    let same : c.with_settled-cell.result ≡ settled_cell (plain_cell c.args.g c.args.self.now) (failure_word c.args.index c.args.status) c.args.device_front c.args.memory_front =
    c.with_settled-cell.ensures ∙ (ap (λ x. settled_cell x c.failure_word-word.result c.args.device_front c.args.memory_front) (cell_here c.args.self.now.cells c.args.g _ empty_cell (omega arith)) ∙ ap (λ w. settled_cell (plain_cell c.args.g c.args.self.now) w c.args.device_front c.args.memory_front) c.failure_word-word.ensures) in
    goes_on c.args.g c.args.self.now rows i r c.args.index c.args.status c.args.device_front c.args.memory_front has is c.replace-else-has_ended.new.self
    record { number = omega arith; cells = c.replace-else-has_ended.ensures.1 ∙ ap (set c.args.self.now.cells c.args.g) same; next = omega arith } next
    (subst (λ (x : PlainCell). (x.closed ≡ false) ⊎ (0 < x.unsettled)) same (c.has_ended.ensures.going c.if-has_ended.false))

pub returns-then-has_ended-clause-others : goal.returns-then-has_ended-clause-others
returns-then-has_ended-clause-others c h rows ne has = let eight = c.args.self.now.eight in let small = c.requires.0 in let next = c.replace.ensures.0 in let bound = has.bound in
    rows_else c.args.g h c.args.self.now c.replace.new.self _ rows record { number = omega arith; cells = c.replace.ensures.1; next = omega arith } (omega arith) ne has

pub returns-else-has_ended-clause-others : goal.returns-else-has_ended-clause-others
returns-else-has_ended-clause-others c h rows ne has = let eight = c.args.self.now.eight in let small = c.requires.0 in let next = c.replace-else-has_ended.ensures.0 in let bound = has.bound in
    rows_else c.args.g h c.args.self.now c.replace-else-has_ended.new.self _ rows record { number = omega arith; cells = c.replace-else-has_ended.ensures.1; next = omega arith } (omega arith) ne has

pub returns-then-has_ended-clause-unsettled : goal.returns-then-has_ended-clause-unsettled
returns-then-has_ended-clause-unsettled c = let eight = c.args.self.now.eight in let small = c.requires.0 in
    ap (λ (x : PlainCell). x.unsettled) (ap (λ l. get_or l c.args.g empty_cell) c.replace.ensures.1 ∙ cell_own c.args.self.now.cells c.args.g empty_cell (omega arith))

pub returns-else-has_ended-clause-unsettled : goal.returns-else-has_ended-clause-unsettled
returns-else-has_ended-clause-unsettled c = let eight = c.args.self.now.eight in let small = c.requires.0 in let some = c.requires.1 in
    let here = cell_here c.args.self.now.cells c.args.g _ empty_cell (omega arith) in
    let less = ap (λ (x : PlainCell). x.unsettled) (ap (λ l. get_or l c.args.g empty_cell) c.replace-else-has_ended.ensures.1 ∙ (cell_own c.args.self.now.cells c.args.g c.with_settled-cell.result (omega arith)
    ∙ (c.with_settled-cell.ensures ∙ ap (λ x. settled_cell x c.failure_word-word.result c.args.device_front c.args.memory_front) here))) in omega arith
