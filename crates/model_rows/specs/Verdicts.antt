-- Verdicts on requests for a partition of 30 blocks.
use Rattle.std.specs.Prelude.{◌≡◌, ℕ, ◌-◌, ◌^◌, Some, None}
use Rattle.host_model.specs.Verdict.{judged}
use Rattle.host_model.specs.declared.verdict.Verdict.{Verdict}
use Rattle.host_model.specs.declared.verdict.Verdict.TheVariants.{Accepted, Refused}
use Rattle.host_record.specs.declared.request.Request.{Request}
use Rattle.host_record.specs.declared.status.Status.TheVariants.{InvalidArgs, NotFound}
use Rattle.host_record.specs.declared.status.Status.TheVariants.{NotSupported, OutOfRange, TooSmall}
use Rattle.model_rows.specs.Parts.{part}

-- a request with this command and group, for so many blocks, from a page of buffer 1 and from a
-- block on
abbrev pub asked : ℕ → ℕ → ℕ → ℕ → ℕ → Request
asked command group blocks page block = record {
  command = command;
  reqid = 1;
  group = group;
  vmoid = 1;
  length = blocks;
  vmo_offset = page;
  dev_offset = block;
}

-- the verdict where the buffer has 8 pages, and where it isn't attached
abbrev pub on : Request → Verdict
on r = judged part (Some 8) r

abbrev pub on_none : Request → Verdict
on_none r = judged part None r

pub record EachCheckRefuses : Type 0 where
  -- the range: its last block, one past the end, two blocks at the last, and sums that pass 64 bits
  pub last_block : on (asked 1 0 1 0 29) ≡ Accepted
  pub one_past : on (asked 1 0 1 0 30) ≡ Refused OutOfRange
  pub two_at_the_last : on (asked 1 0 2 0 29) ≡ Refused OutOfRange
  pub far_past : on (asked 1 0 2 0 (2 ^ 64 - 1)) ≡ Refused OutOfRange
  pub longer_than_all : on_none (asked 4 0 31 0 0) ≡ Refused OutOfRange
  -- the length, at both its ends
  pub no_blocks : on (asked 1 0 0 0 0) ≡ Refused InvalidArgs
  pub longest : on_none (asked 4 0 65536 0 0) ≡ Refused OutOfRange
  pub too_long : on_none (asked 4 0 65537 0 0) ≡ Refused InvalidArgs
  -- groups are numbered up to 7, and a number without the group's bit isn't looked at
  pub last_group : on (asked 0x801 7 1 0 0) ≡ Accepted
  pub group_eight : on (asked 0x801 8 1 0 0) ≡ Refused InvalidArgs
  pub no_group : on (asked 1 8 1 0 0) ≡ Accepted
  -- opcodes and bits of commands
  pub no_opcode : on (asked 9 0 1 0 0) ≡ Refused NotSupported
  pub unknown_bit : on (asked 0x101 0 1 0 0) ≡ Refused InvalidArgs
  -- buffers: a page past the end, one that isn't attached, and requests that name none
  pub last_page : on (asked 2 0 1 7 0) ≡ Accepted
  pub page_past : on (asked 2 0 1 8 0) ≡ Refused TooSmall
  pub not_attached : on_none (asked 2 0 1 0 0) ≡ Refused NotFound
  pub closed_already : on_none (asked 5 0 0 0 0) ≡ Refused NotFound
  pub flush : on_none (asked 3 0 0 0 0) ≡ Accepted
  pub trim : on_none (asked 4 0 1 0 0) ≡ Accepted
  pub close : on (asked 5 0 0 0 0) ≡ Accepted

-- where two checks fail the first decides
pub record FirstCheckDecides : Type 0 where
  pub group_then_opcode : on (asked 0x809 8 1 0 0) ≡ Refused InvalidArgs
  pub opcode_then_bit : on (asked 0x109 0 1 0 0) ≡ Refused NotSupported
  pub opcode_then_range : on (asked 9 0 1 0 30) ≡ Refused NotSupported
  pub bit_then_range : on (asked 0x101 0 1 0 30) ≡ Refused InvalidArgs
  pub length_then_range : on (asked 1 0 0 0 31) ≡ Refused InvalidArgs
  pub length_then_buffer : on_none (asked 1 0 0 0 0) ≡ Refused InvalidArgs
  pub range_then_buffer : on_none (asked 1 0 1 0 30) ≡ Refused OutOfRange
  pub range_then_size : on (asked 1 0 1 8 30) ≡ Refused OutOfRange
  pub buffer_then_size : on_none (asked 1 0 1 8 0) ≡ Refused NotFound

pub record VerdictsAreAsWritten : Type 0 where
  pub each : EachCheckRefuses
  pub first : FirstCheckDecides
