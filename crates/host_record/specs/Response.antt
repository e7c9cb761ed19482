-- The 32 bytes of a response, every number with its low byte first.
use Rattle.std.specs.Prelude.{ℕ, Bool, ◌==◌, ◌&&◌, if◌then◌else◌, List, ◌++◌, drop, slice_range}
use Rattle.std.specs.Prelude.{replicate, Option, Some, None}
use Rattle.std.specs.Int.{w32, cast_unsigned, cast_signed}
use Rattle.std.specs.List.{list_all}
use Rattle.byteorder.specs.Endian.{little_number, little_bytes}
use Rattle.host_record.specs.declared.response.Response.{Response}

-- the bytes of a response
abbrev pub response_bytes : Response → List ℕ
response_bytes a =
    little_bytes 4 (cast_unsigned w32 a.status) ++ little_bytes 4 a.reqid ++ little_bytes 2 a.group
    ++ replicate 2 0 ++ little_bytes 4 a.count ++ replicate 16 0

-- the fields that these bytes have in a response
unfoldable pub response_fields : List ℕ → Response
response_fields bytes = record {
  status = cast_signed w32 (little_number 4 bytes);
  reqid = little_number 4 (drop 4 bytes);
  group = little_number 2 (drop 8 bytes);
  count = little_number 4 (drop 12 bytes);
}

-- whether all of these bytes are zero
unfoldable pub all_zero : List ℕ → Bool
all_zero bytes = list_all (λ b. b == 0) bytes

-- whether the bytes are zero that a response leaves free: 10, 11 and 16 to 31
unfoldable pub is_padded : List ℕ → Bool
is_padded bytes = all_zero (slice_range bytes 10 12) && all_zero (slice_range bytes 16 32)

-- the response that has these bytes, if one has
abbrev pub response_of : List ℕ → Option Response
response_of bytes = if is_padded bytes then Some (response_fields bytes) else None
