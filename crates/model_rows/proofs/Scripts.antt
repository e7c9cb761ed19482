-- Small texts and what they mean.
use Rattle.std.proofs.Common.{refl}
use Rattle.hex.specs.Hex.{decode_pairs}
use Rattle.host_record.specs.{opcode}
use Rattle.model_rows.specs.{TextsAreScripts}
use Rattle.script_model.specs.{has_count, group_bits, group_number, added, may_stand, may_wait, meaning, next, request_from, request_line, session_from, keyword_of, moved_by, moved_by_lines, has_many_records, limit_of, session_line, attach_line, fill_line, flush_line, wait_line, end_line, statement, show_line, transfer_line, trim_line, decimal_value, number, hex_bytes, owed, after_line}

pub texts_are_scripts : TextsAreScripts
unfolding after_line meaning added may_stand may_wait keyword_of statement session_line attach_line
    fill_line wait_line end_line has_count number decimal_value hex_bytes decode_pairs owed
    flush_line group_bits group_number next request_line request_from session_from show_line
    transfer_line trim_line limit_of has_many_records moved_by_lines moved_by opcode
texts_are_scripts = record {
  empty = refl;
  blanks = refl;
  one_session = refl;
  sending = refl;
  too_many = refl;
  first_line = refl;
  byte_first = refl;
  return_at_end = refl;
  no_session = refl;
  after_end = refl;
  count_before_number = refl;
  leftmost = refl;
  hex_last = refl;
  long_number = refl;
  no_comment = refl;
  draws = refl;
  made = refl;
  within_limits = refl;
  many_sessions = refl;
  much_moved = refl;
  just_moved = refl;
  sixteen_sessions = refl;
  refused_moves_none = refl;
  longest_moves_all = refl;
  shown_is_moved = refl;
}
