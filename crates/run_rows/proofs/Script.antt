-- What the texts of the written runs mean.
use Rattle.std.proofs.Common.{◌≡◌, List, [], ◌∷◌, Ok, Err, None, refl, lit≤, sym, ◌∙◌}
use Rattle.hex.specs.Hex.{decode_pairs}
use Rattle.host_record.specs.{opcode, Drain}
use Rattle.host_start.specs.{IsWithinLimits}
use Rattle.run_rows.specs.{bad_text, flush, script_text, write, another_text}
use Rattle.run_rows.specs.Run.{plans, read}
use Rattle.script_model.specs.{group_bits, group_number, has_count, added, may_stand, may_wait, meaning, keyword_of, has_many_records, limit_of, moved_by, moved_by_lines, attach_line, end_line, fill_line, flush_line, session_line, statement, transfer_line, write_line, force_bit, wait_line, decimal_value, hex_bytes, number, owed, PlannedSession, after_line, script_of, UnknownWord, Bad, Attach, Fill, Send, WaitAll}

means : script_of script_text ≡ Ok plans
unfolding after_line meaning added may_stand may_wait keyword_of statement session_line attach_line fill_line transfer_line write_line force_bit flush_line wait_line end_line group_bits group_number has_count number decimal_value hex_bytes decode_pairs owed
means = refl

fits : limit_of 512 plans ≡ None
unfolding limit_of has_many_records moved_by_lines moved_by opcode
fits = refl

pub within_limits : IsWithinLimits 512 script_text plans
within_limits = record { short = lit≤ tt; meant = means; fits = fits }

abbrev pub another_plans : List PlannedSession
another_plans = record { part = 1; lines = Attach 2 ∷ Fill 1 0 1 8 ∷ Send write ∷ WaitAll ∷ Send flush ∷ WaitAll ∷ Send read ∷ WaitAll ∷ []; finish = Drain } ∷ []

pub another_means : script_of another_text ≡ Ok another_plans
unfolding after_line meaning added may_stand may_wait keyword_of statement session_line attach_line fill_line transfer_line write_line force_bit flush_line wait_line end_line group_bits group_number has_count number decimal_value hex_bytes decode_pairs owed
another_means = refl

pub bad_means : script_of bad_text ≡ Err (Bad 2 UnknownWord)
unfolding after_line meaning added may_stand may_wait keyword_of statement session_line has_count number decimal_value
bad_means = refl

-- it is no script
pub bad_is_no_script : (plans : List PlannedSession) → script_of bad_text ≡ Ok plans → ⊥
bad_is_no_script plans is = let both = sym bad_means ∙ is in cc both
