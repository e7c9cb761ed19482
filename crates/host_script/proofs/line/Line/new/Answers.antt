use Rattle.std.proofs.Common.{rules, tests, not, Ok, length}
use Rattle.std.specs.Prelude.{◌==◌}
use Rattle.std.specs.declared.alloc.AllocError.{AllocError}
use Rattle.std.proofs.lemmas.Iterator.Consumers.{map_from_collect, YieldsList-from_filter, YieldsList-at}
use Rattle.std.proofs.lemmas.Iterator.Splits.{YieldsList-from_slice_split}
use Rattle.std.proofs.lemmas.Iterator.Search.{YieldsList-from_take_while}
use Rattle.script_model.specs.{is_blank, begins_comment}
use Rattle.host_script.proofs.line.Line.new.Goals as goal

pub returns : goal.returns
returns c =
    map_from_collect {E = AllocError} (Ok c.in_ok-words.words) c.in_ok-words.ensures.ran
    (YieldsList-from_take_while _ (λ w. not (begins_comment w))
    (YieldsList-at c.take_while.ensures.source (YieldsList-from_filter _ (λ w. not (length w == 0))
    (YieldsList-at c.filter.ensures.source (YieldsList-from_slice_split _ is_blank c.args.line.now c.split.ensures.rest c.split.ensures.done c.split.ensures.closure (λ x r q k. search (rules, tests))))
    c.filter.ensures.closure (λ x r q k. search (rules, tests))))
    c.take_while.ensures.closure c.take_while.ensures.done (λ x r q k. search (rules, tests)))
