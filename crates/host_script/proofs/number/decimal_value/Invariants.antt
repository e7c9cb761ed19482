use Rattle.std.proofs.Common.{◌≡◌, ◌<◌, ◌^◌, ◌≤◌, drop, length}
use Rattle.script_model.specs.{digits_after}
use Rattle.host_script.proofs.number.decimal_value.Given as goal

abbrev pub invariant-loop-digit : goal.invariant-loop-digit
invariant-loop-digit l = record {
  rest : digits_after l.value (drop l.digit-index l.word) ≡ digits_after 0 l.word;
  bound : l.value < 10 ^ l.digit-index;
  count : length l.word ≤ 20;
}
