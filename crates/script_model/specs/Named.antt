-- The request that the named line of a record spells.
use Rattle.std.specs.Prelude.{ℕ, ◌+◌, ◌-◌, ◌%◌, Bool, ◌==◌, ◌||◌, nat_le, if◌then◌else◌}
use Rattle.host_record.specs.declared.request.Request.{Request}
use Rattle.host_record.specs.declared.opcode.Opcode.{Opcode}
use Rattle.host_record.specs.declared.opcode.Opcode.TheVariants as op
use Rattle.host_record.specs.Command.{is_forced}

-- the bit of the command that forces a write
abbrev pub force_of : Request → ℕ
force_of r = if is_forced r then 0x1000 else 0

-- the bits of the command above the opcode, but for that one
abbrev pub high_bits : Request → ℕ
high_bits r = r.command - r.command % 256 - force_of r

-- what the group words add to the command: nothing where none are printed
abbrev pub named_bits : Request → ℕ
named_bits r = if high_bits r == 0x800 then 0x800 else if high_bits r == 0xc00 then 0xc00 else 0

-- the group that they name
abbrev pub named_group : Request → ℕ
named_group r = if named_bits r == 0 then 0 else r.group

-- whether a line can name it
abbrev pub has_named_group : Request → Bool
has_named_group r = named_bits r == 0 || nat_le r.group 7

-- the request that the line spells: fields without a word are zero
abbrev pub named_request : Opcode → Request → Request
named_request op.Read r =
    record {
      command = 1 + named_bits r;
      reqid = r.reqid;
      group = named_group r;
      vmoid = r.vmoid;
      length = r.length;
      vmo_offset = r.vmo_offset;
      dev_offset = r.dev_offset;
    }
named_request op.Write r =
    record {
      command = 2 + force_of r + named_bits r;
      reqid = r.reqid;
      group = named_group r;
      vmoid = r.vmoid;
      length = r.length;
      vmo_offset = r.vmo_offset;
      dev_offset = r.dev_offset;
    }
named_request op.Flush r =
    record {
      command = 3 + named_bits r;
      reqid = r.reqid;
      group = named_group r;
      vmoid = 0;
      length = 0;
      vmo_offset = 0;
      dev_offset = 0;
    }
named_request op.Trim r =
    record {
      command = 4 + named_bits r;
      reqid = r.reqid;
      group = named_group r;
      vmoid = 0;
      length = r.length;
      vmo_offset = 0;
      dev_offset = r.dev_offset;
    }
named_request op.Close r =
    record {
      command = 5 + named_bits r;
      reqid = r.reqid;
      group = named_group r;
      vmoid = r.vmoid;
      length = 0;
      vmo_offset = 0;
      dev_offset = 0;
    }
