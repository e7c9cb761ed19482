use Rattle.std.proofs.Common.{◌≡◌, ◌≤◌, drop}
use Rattle.host_words.specs.{word_digits_after}
use Rattle.host_words.proofs.number.number.Given as goal

abbrev pub invariant-loop-digit : goal.invariant-loop-digit
invariant-loop-digit l = record {
  rest : word_digits_after l.value (drop l.digit-index l.word) ≡ word_digits_after 0 l.word;
  bound : l.value ≤ l.high;
}
