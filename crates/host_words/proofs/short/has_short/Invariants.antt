use Rattle.std.proofs.Common.{◌≡◌, map, drop}
use Rattle.host_words.specs.{has_short}
use Rattle.host_words.proofs.short.has_short.Given as goal

abbrev pub invariant-loop-word : goal.invariant-loop-word
invariant-loop-word l = has_short (map (λ w. w.now) (drop l.word-index l.words)) ≡ has_short (map (λ w. w.now) l.words)
