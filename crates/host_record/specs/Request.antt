-- The 32 bytes of a request, every number with its low byte first.
use Rattle.std.specs.Prelude.{ℕ, List, ◌++◌, drop}
use Rattle.byteorder.specs.Endian.{little_number, little_bytes}
use Rattle.host_record.specs.declared.request.Request.{Request}

-- the bytes of a request
abbrev pub request_bytes : Request → List ℕ
request_bytes r =
    little_bytes 4 r.command ++ little_bytes 4 r.reqid ++ little_bytes 2 r.group
    ++ little_bytes 2 r.vmoid ++ little_bytes 4 r.length ++ little_bytes 8 r.vmo_offset
    ++ little_bytes 8 r.dev_offset

-- the request that has these bytes
abbrev pub request_of : List ℕ → Request
request_of bytes = record {
  command = little_number 4 bytes;
  reqid = little_number 4 (drop 4 bytes);
  group = little_number 2 (drop 8 bytes);
  vmoid = little_number 2 (drop 10 bytes);
  length = little_number 4 (drop 12 bytes);
  vmo_offset = little_number 8 (drop 16 bytes);
  dev_offset = little_number 8 (drop 24 bytes);
}
