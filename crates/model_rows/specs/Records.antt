-- The bytes of a request and of a response.
use Rattle.std.specs.Prelude.{◌≡◌, ℕ, negsuc, true, false, List, [], ◌∷◌, ◌++◌, replicate, Some}
use Rattle.std.specs.Prelude.{None}
use Rattle.host_record.specs.Command.{opcode, is_grouped, is_last, has_unknown_bit}
use Rattle.host_record.specs.Request.{request_bytes, request_of}
use Rattle.host_record.specs.Response.{response_bytes, response_of}
use Rattle.host_record.specs.Status.{status_number}
use Rattle.host_record.specs.declared.opcode.Opcode.TheVariants.{Write}
use Rattle.host_record.specs.declared.request.Request.{Request}
use Rattle.host_record.specs.declared.response.Response.{Response}
use Rattle.host_record.specs.declared.status.Status.{Status}
use Rattle.host_record.specs.declared.status.Status.TheVariants.{OutOfRange}

-- a write that closes group 5
abbrev pub write : Request
write = record {
  command = 0xc02;
  reqid = 7;
  group = 5;
  vmoid = 258;
  length = 1;
  vmo_offset = 2;
  dev_offset = 65536;
}

abbrev pub write_bytes : List ℕ
write_bytes =
    (2 ∷ 12 ∷ 0 ∷ 0 ∷ []) ++ (7 ∷ 0 ∷ 0 ∷ 0 ∷ []) ++ (5 ∷ 0 ∷ []) ++ (2 ∷ 1 ∷ [])
    ++ (1 ∷ 0 ∷ 0 ∷ 0 ∷ [])
    ++ (2 ∷ 0 ∷ 0 ∷ 0 ∷ 0 ∷ 0 ∷ 0 ∷ 0 ∷ []) ++ (0 ∷ 0 ∷ 1 ∷ 0 ∷ 0 ∷ 0 ∷ 0 ∷ 0 ∷ [])

-- opcode 9 with bit 0x100
abbrev pub unknown : Request
unknown = record {
  command = 0x109;
  reqid = 0;
  group = 0;
  vmoid = 0;
  length = 0;
  vmo_offset = 0;
  dev_offset = 0;
}

-- the answer to three requests of group 3, out of range
abbrev pub answer : Response
answer = record { status = status_number OutOfRange; reqid = 3; group = 3; count = 3 }

abbrev pub answer_bytes : ℕ → List ℕ
answer_bytes free = (0xf2 ∷ 0xff ∷ 0xff ∷ 0xff ∷ 3 ∷ 0 ∷ 0 ∷ 0 ∷ 3 ∷ 0 ∷ free ∷ 0 ∷ 3 ∷ 0 ∷ 0 ∷ 0
    ∷ []) ++ replicate 16 0

pub record RecordsAreAsWritten : Type 0 where
  pub its_bytes : request_bytes write ≡ write_bytes
  pub its_fields : request_of write_bytes ≡ write
  pub its_opcode : opcode write ≡ Some Write
  pub its_group : (is_grouped write ≡ true) × (is_last write ≡ true)
      × (has_unknown_bit write ≡ false)
  pub no_opcode : (opcode unknown ≡ None) × (has_unknown_bit unknown ≡ true)
      × (is_grouped unknown ≡ false)
  pub answer_status : answer.status ≡ negsuc 13
  pub answer_is : (response_bytes answer ≡ answer_bytes 0)
      × (response_of (answer_bytes 0) ≡ Some answer) × (response_of (answer_bytes 1) ≡ None)
  -- a count that stands where the group does, two fields exchanged, and the bits of a command
  pub count_over_the_group :
      ¬ (response_bytes (record answer { group = 5 }) ≡ response_bytes (record answer {
        group = 3;
        count = 0;
      }))
  pub exchanged : ¬ (request_of write_bytes ≡ record write { reqid = 5; group = 7 })
  pub member : is_last (record write { command = 0x802 }) ≡ false
  pub closes_alone : is_grouped (record write { command = 0x402 }) ≡ true
  pub free_bytes : response_of (answer_bytes 255) ≡ None
  -- no other number is one of a status
  pub no_status : (status : Status) → ¬ (status_number status ≡ negsuc 0)
