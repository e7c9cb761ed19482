-- The script of the realistic session, and its run.
use Rattle.std.proofs.Common.{refl}
use Rattle.hex.specs.Hex.{decode_pairs}
use Rattle.model_rows.proofs.ReportTexts.{reports_are_as_written}
use Rattle.model_rows.specs.{RealisticScriptIsPlayed}
use Rattle.script_model.specs.{group_bits, group_number, has_count, added, may_stand, may_wait, meaning, keyword_of, attach_line, end_line, fill_line, flush_line, session_line, show_line, statement, transfer_line, write_line, force_bit, wait_line, decimal_value, hex_bytes, number, owed, after_line}

pub realistic_script_is_played : RealisticScriptIsPlayed
unfolding after_line meaning added may_stand may_wait keyword_of statement session_line attach_line
    fill_line show_line transfer_line write_line force_bit flush_line wait_line end_line group_bits group_number
    has_count number decimal_value hex_bytes decode_pairs owed
realistic_script_is_played = record {
  read = refl;
  asked = refl;
  plays = reports_are_as_written.played;
}
