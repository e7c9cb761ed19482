-- Verdicts, by computing.
use Rattle.std.proofs.Common.{refl}
use Rattle.host_model.specs.{judged}
use Rattle.host_record.specs.{opcode}
use Rattle.model_rows.specs.{EachCheckRefuses, FirstCheckDecides, VerdictsAreAsWritten}

each : EachCheckRefuses
unfolding opcode judged
each = record {
  last_block = refl;
  one_past = refl;
  two_at_the_last = refl;
  far_past = refl;
  longer_than_all = refl;
  no_blocks = refl;
  longest = refl;
  too_long = refl;
  last_group = refl;
  group_eight = refl;
  no_group = refl;
  no_opcode = refl;
  unknown_bit = refl;
  last_page = refl;
  page_past = refl;
  not_attached = refl;
  closed_already = refl;
  flush = refl;
  trim = refl;
  close = refl;
}

first : FirstCheckDecides
unfolding opcode judged
first = record {
  group_then_opcode = refl;
  opcode_then_bit = refl;
  opcode_then_range = refl;
  bit_then_range = refl;
  length_then_range = refl;
  length_then_buffer = refl;
  range_then_buffer = refl;
  range_then_size = refl;
  buffer_then_size = refl;
}

pub verdicts_are_as_written : VerdictsAreAsWritten
verdicts_are_as_written = record { each = each; first = first }
