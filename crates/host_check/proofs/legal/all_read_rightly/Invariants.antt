use Rattle.std.proofs.Common.{◌≡◌}
use Rattle.std.specs.List.{list_all}
use Rattle.host_model.specs.{changes_of, below}
use Rattle.host_check.specs.{reads_content}
use Rattle.host_check.proofs.legal.all_read_rightly.Given as goal

abbrev pub invariant-loop-i : goal.invariant-loop-i
invariant-loop-i l = l.all ≡ list_all (reads_content l.image (changes_of l.steps)) (below l.i)
