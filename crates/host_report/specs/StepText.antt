-- The text of what was taken, of the buffers' history and of the device's steps.
use Rattle.std.specs.Prelude.{ℕ, Bool, true, false, List, [], ◌∷◌, ◌++◌, decimal, codes}
use Rattle.std.specs.Fmt.{signed_decimal}
use Rattle.host_block.specs.declared.op.Op.{Op}
use Rattle.host_block.specs.declared.op.Op.TheVariants as op
use Rattle.host_record.specs.declared.status.Status.{Status}
use Rattle.host_record.specs.Status.{status_number}
use Rattle.host_model.specs.declared.memory.MemEntry.{MemEntry}
use Rattle.host_model.specs.declared.memory.MemEvent.{MemEvent}
use Rattle.host_model.specs.declared.memory.MemEvent.TheVariants as mem
use Rattle.host_model.specs.declared.row.TakenRow.{TakenRow}
use Rattle.host_model.specs.declared.step.Step.{Step}
use Rattle.host_model.specs.declared.verdict.Verdict.{Verdict}
use Rattle.host_model.specs.declared.verdict.Verdict.TheVariants.{Accepted, Refused}
use Rattle.host_report.specs.Words.{inner}
use Rattle.host_text.specs.Words.{hex_byte, block_word}

-- ---- rows

abbrev pub verdict_words : Verdict → Status → List (List ℕ)
verdict_words Accepted outcome = codes "accepted" ∷ signed_decimal (status_number outcome) ∷ []
verdict_words (Refused status) outcome =
    codes "refused" ∷ signed_decimal (status_number status) ∷ []

-- the row of a record with its index
abbrev pub row_line : ℕ × TakenRow → List ℕ
row_line row = inner (codes "taken" ∷ decimal row.0 ∷ verdict_words (row.1).verdict (row.1).outcome)

-- ---- the buffers' history

abbrev pub memory_entry_words : MemEvent → List (List ℕ)
memory_entry_words (mem.Attach id pages from) =
    codes "attach" ∷ decimal id ∷ decimal pages ∷ decimal from ∷ []
memory_entry_words (mem.Fill id block count byte) =
    codes "fill" ∷ decimal id ∷ decimal block ∷ decimal count ∷ hex_byte byte ∷ []
memory_entry_words (mem.Show id block count) =
    codes "show" ∷ decimal id ∷ decimal block ∷ decimal count ∷ []
memory_entry_words (mem.Pin index id by) = codes "pin" ∷ decimal index ∷ decimal id ∷ []
memory_entry_words (mem.Lift index k id block bytes) =
    codes "lift" ∷ decimal index ∷ decimal k ∷ decimal id ∷ decimal block ∷ block_word bytes ∷ []
memory_entry_words (mem.Land index k id block bytes) =
    codes "land" ∷ decimal index ∷ decimal k ∷ decimal id ∷ decimal block ∷ block_word bytes ∷ []
memory_entry_words (mem.Done index id) = codes "done" ∷ decimal index ∷ decimal id ∷ []
memory_entry_words (mem.Close index id) = codes "close" ∷ decimal index ∷ decimal id ∷ []
memory_entry_words (mem.Release id) = codes "release" ∷ decimal id ∷ []

abbrev pub memory_entry_line : MemEntry → List ℕ
memory_entry_line e = inner (codes "memory" ∷ memory_entry_words e.what)

-- ---- steps

abbrev pub op_word : Op → List ℕ
op_word op.Read = codes "read"
op_word op.Write = codes "write"
op_word op.Trim = codes "trim"
op_word op.Flush = codes "flush"

-- the block that is printed: a flush is on none, and has 0
abbrev pub printed_block : Op → ℕ → ℕ
printed_block op.Flush block = 0
printed_block _ block = block

abbrev pub ok_or_fault : Bool → List ℕ
ok_or_fault false = codes "ok"
ok_or_fault true = codes "fault"

-- a write has its bytes in the line, and a read that isn't faulted
abbrev pub bytes_words : Op → Bool → List ℕ → List (List ℕ)
bytes_words op.Write faulted bytes = block_word bytes ∷ []
bytes_words op.Read false bytes = block_word bytes ∷ []
bytes_words _ faulted bytes = []

-- the words of a step but for its bytes
abbrev pub step_words : Step → List (List ℕ)
step_words step =
    codes "step" ∷ decimal step.session ∷ decimal step.index ∷ decimal step.k ∷ op_word step.op
    ∷ decimal (printed_block step.op step.block) ∷ ok_or_fault step.faulted ∷ []

abbrev pub step_line : Step → List ℕ
step_line step = inner (step_words step ++ bytes_words step.op step.faulted step.bytes)
