-- Small sessions, and the realistic one: four writes of one group, a flush, a read and a show.
use Rattle.std.specs.Prelude.{true, false, [], ◌∷◌, ◌++◌, replicate, ℕ, List}
use Rattle.host_block.specs.declared.op.Op.TheVariants as op
use Rattle.host_model.specs.Session.{Session}
use Rattle.host_model.specs.declared.event.AttachError.TheVariants as attach
use Rattle.host_model.specs.declared.event.Event.TheVariants.{Attached, NotAttached, Filled, Shown}
use Rattle.host_model.specs.declared.event.Event.TheVariants.{Drained, Aborted}
use Rattle.host_model.specs.declared.memory.MemEvent.TheVariants as mem
use Rattle.host_record.specs.declared.finish.Finish.TheVariants.{Drain, Abort}
use Rattle.host_record.specs.declared.status.Status.TheVariants as status
use Rattle.model_rows.specs.Parts.{accepted, cells, got, part, refused, send, step}

-- ---- the first failure of a group answers it
abbrev pub failed_group : Session
failed_group = record {
  size = 4;
  range = part;
  log = Attached 1 1 ∷ send 0 0x801 1 3 1 1 0 30 ∷ send 1 0x803 2 3 0 0 0 0
      ∷ send 2 0xc01 3 3 9 1 0 0 ∷ got status.OutOfRange 3 3 3 ∷ Drained ∷ [];
  rows = refused status.OutOfRange ∷ accepted status.Ok ∷ refused status.NotFound ∷ [];
  memory = mem.Attach 1 1 0 ∷ mem.Release 1 ∷ [];
  steps = step 1 0 op.Flush 0 [] false ∷ [];
  finish = Drain;
}

-- ---- a group number used again, answered in the other order
abbrev pub group_again : Session
group_again = record {
  size = 4;
  range = part;
  log = send 0 0xc03 1 3 0 0 0 0 ∷ send 1 0xc03 2 3 0 0 0 0 ∷ got status.Ok 2 3 1
      ∷ got status.Ok 1 3 1 ∷ Drained ∷ [];
  rows = accepted status.Ok ∷ accepted status.Ok ∷ [];
  memory = [];
  steps = step 1 0 op.Flush 0 [] false ∷ step 0 0 op.Flush 0 [] false ∷ [];
  finish = Drain;
}

-- ---- a group that is never closed has no answer
abbrev pub open_group : Session
open_group = record {
  size = 4;
  range = part;
  log = send 0 0x803 1 2 0 0 0 0 ∷ Drained ∷ [];
  rows = accepted status.Ok ∷ [];
  memory = [];
  steps = step 0 0 op.Flush 0 [] false ∷ [];
  finish = Drain;
}

-- ---- a buffer that was closed is attached no more
abbrev pub closed_buffer : Session
closed_buffer = record {
  size = 4;
  range = part;
  log = Attached 1 1 ∷ send 0 5 1 0 1 0 0 0 ∷ send 1 1 2 0 1 1 0 0 ∷ send 2 5 3 0 1 0 0 0
      ∷ got status.NotFound 2 0 1 ∷ got status.Ok 1 0 1 ∷ got status.NotFound 3 0 1
      ∷ Filled 1 0 1 7 false ∷ Drained ∷ [];
  rows = accepted status.Ok ∷ refused status.NotFound ∷ refused status.NotFound ∷ [];
  memory = mem.Attach 1 1 0 ∷ mem.Close 0 1 ∷ mem.Release 1 ∷ [];
  steps = [];
  finish = Drain;
}

-- ---- a read, and a close of its buffer that was sent before the read was answered

abbrev pub read_and_close : Session
read_and_close = record {
  size = 4;
  range = part;
  log = Attached 1 1 ∷ send 0 1 1 0 1 1 0 0 ∷ send 1 5 2 0 1 0 0 0 ∷ got status.Ok 1 0 1
      ∷ got status.Ok 2 0 1 ∷ Drained ∷ [];
  rows = accepted status.Ok ∷ accepted status.Ok ∷ [];
  memory = mem.Attach 1 1 0 ∷ mem.Pin 0 1 2 ∷ mem.Close 1 1 ∷ mem.Land 0 0 1 0 (cells 7)
      ∷ mem.Done 0 1 ∷ mem.Release 1 ∷ [];
  steps = step 0 0 op.Read 34 (cells 7) false ∷ [];
  finish = Drain;
}

-- ---- a buffer is attached only for records sent after its attach
abbrev pub late_attach : Session
late_attach = record {
  size = 4;
  range = part;
  log = Attached 1 1 ∷ send 0 1 1 0 2 1 0 0 ∷ Attached 1 2 ∷ send 1 1 2 0 2 1 0 0
      ∷ got status.NotFound 1 0 1 ∷ got status.Ok 2 0 1 ∷ Drained ∷ [];
  rows = refused status.NotFound ∷ accepted status.Ok ∷ [];
  memory = mem.Attach 1 1 0 ∷ mem.Attach 2 1 1 ∷ mem.Pin 1 2 0 ∷ mem.Land 1 0 2 0 (cells 0x22)
      ∷ mem.Done 1 2 ∷ mem.Release 1 ∷ mem.Release 2 ∷ [];
  steps = step 1 0 op.Read 34 (cells 0x22) false ∷ [];
  finish = Drain;
}

-- ---- a write, a flush that faults, a read that faults at its second block
abbrev pub faults : Session
faults = record {
  size = 4;
  range = part;
  log = Attached 8 1 ∷ Filled 1 0 2 0xc1 true ∷ send 0 2 1 0 1 2 0 0 ∷ got status.Ok 1 0 1
      ∷ send 1 3 2 0 0 0 0 0 ∷ got status.Io 2 0 1 ∷ send 2 1 3 0 1 4 4 0 ∷ got status.Io 3 0 1
      ∷ Shown 1 4 2 true (cells 0xc1 ++ cells 0) ∷ Drained ∷ [];
  rows = accepted status.Ok ∷ accepted status.Io ∷ accepted status.Io ∷ [];
  memory = mem.Attach 1 8 0 ∷ mem.Fill 1 0 2 0xc1 ∷ mem.Pin 0 1 3 ∷ mem.Lift 0 0 1 0 (cells 0xc1)
      ∷ mem.Lift 0 1 1 1 (cells 0xc1) ∷ mem.Done 0 1 ∷ mem.Pin 2 1 0 ∷ mem.Land 2 0 1 4 (cells 0xc1)
      ∷ mem.Done 2 1 ∷ mem.Show 1 4 2 ∷ mem.Release 1 ∷ [];
  steps = step 0 0 op.Write 34 (cells 0xc1) false ∷ step 0 1 op.Write 35 (cells 0xc1) false
      ∷ step 1 0 op.Flush 0 [] true ∷ step 2 0 op.Read 34 (cells 0xc1) false
      ∷ step 2 1 op.Read 35 [] true ∷ [];
  finish = Drain;
}

-- ---- a write that is refused memory before its second step, after it lifted that block
abbrev pub short : Session
short = record {
  size = 4;
  range = part;
  log = Attached 2 1 ∷ send 0 2 1 0 1 2 0 0 ∷ got status.NoMemory 1 0 1 ∷ NotAttached 3 attach.Oom
      ∷ Filled 1 1 2 5 false ∷ Filled 4 0 1 5 false ∷ Drained ∷ [];
  rows = accepted status.NoMemory ∷ [];
  memory = mem.Attach 1 2 0 ∷ mem.Pin 0 1 3 ∷ mem.Lift 0 0 1 0 (cells 0)
      ∷ mem.Lift 0 1 1 1 (cells 0) ∷ mem.Done 0 1 ∷ mem.Release 1 ∷ [];
  steps = step 0 0 op.Write 34 (cells 0) false ∷ [];
  finish = Drain;
}

-- ---- two records of one reqid in flight: one answer doesn't tell which was answered, so a later
-- record may overtake both
abbrev pub twins : Session
twins = record {
  size = 4;
  range = part;
  log =
      send 0 3 7 0 0 0 0 0 ∷ send 1 3 7 0 0 0 0 0 ∷ got status.Ok 7 0 1 ∷ send 2 3 8 0 0 0 0 0
      ∷ got status.Ok 8 0 1 ∷ got status.Ok 7 0 1
      ∷ Drained ∷ [];
  rows = accepted status.Ok ∷ accepted status.Ok ∷ accepted status.Ok ∷ [];
  memory = [];
  steps = step 2 0 op.Flush 0 [] false ∷ step 1 0 op.Flush 0 [] false ∷ step 0 0 op.Flush 0 [] false
      ∷ [];
  finish = Drain;
}

-- ---- an abort: two of three records were taken, and one answer received
abbrev pub aborted : Session
aborted = record {
  size = 4;
  range = part;
  log = Attached 1 1 ∷ send 0 2 7 0 1 1 0 0 ∷ send 1 2 7 0 1 1 0 1 ∷ send 2 5 7 0 1 0 0 0
      ∷ got status.Ok 7 0 1 ∷ Aborted ∷ [];
  rows = accepted status.Ok ∷ accepted status.Ok ∷ [];
  memory = mem.Attach 1 1 0 ∷ mem.Pin 0 1 0 ∷ mem.Pin 1 1 1 ∷ mem.Lift 1 0 1 0 (cells 0)
      ∷ mem.Lift 0 0 1 0 (cells 0) ∷ mem.Done 0 1 ∷ mem.Done 1 1 ∷ mem.Release 1 ∷ [];
  steps = step 1 0 op.Write 35 (cells 0) false ∷ step 0 0 op.Write 34 (cells 0) false ∷ [];
  finish = Abort;
}

-- ---- an abort after a read was answered and a close was sent, but not taken
abbrev pub untaken_close : Session
untaken_close = record {
  size = 4;
  range = part;
  log = Attached 1 1 ∷ Attached 1 2 ∷ send 0 1 1 0 2 1 0 0 ∷ got status.Ok 1 0 1
      ∷ send 1 5 2 0 1 0 0 0 ∷ Aborted ∷ [];
  rows = accepted status.Ok ∷ [];
  memory = mem.Attach 1 1 0 ∷ mem.Attach 2 1 0 ∷ mem.Pin 0 2 0 ∷ mem.Land 0 0 2 0 (cells 7)
      ∷ mem.Done 0 2 ∷ mem.Release 1 ∷ mem.Release 2 ∷ [];
  steps = step 0 0 op.Read 34 (cells 7) false ∷ [];
  finish = Abort;
}

abbrev pub filled : List ℕ
filled = replicate 512 0xa1

abbrev pub realistic : Session
realistic = record {
  size = 512;
  range = part;
  log = Attached 8 1
      ∷ Filled 1 0 4 0xa1 true
      ∷ send 0 0x802 10 3 1 1 0 0
      ∷ send 1 0x802 11 3 1 1 1 1
      ∷ send 2 0x802 12 3 1 1 2 2
      ∷ send 3 0xc02 13 3 1 1 3 3
      ∷ got status.Ok 13 3 4
      ∷ send 4 3 20 0 0 0 0 0
      ∷ got status.Ok 20 0 1
      ∷ send 5 1 30 0 1 4 4 0
      ∷ got status.Ok 30 0 1
      ∷ Shown 1 4 4 true (filled ++ filled ++ filled ++ filled)
      ∷ Drained
      ∷ [];
  rows = replicate 6 (accepted status.Ok);
  memory = mem.Attach 1 8 0
      ∷ mem.Fill 1 0 4 0xa1
      ∷ mem.Pin 0 1 0 ∷ mem.Lift 0 0 1 0 filled ∷ mem.Done 0 1
      ∷ mem.Pin 1 1 0 ∷ mem.Pin 2 1 0 ∷ mem.Lift 2 0 1 2 filled ∷ mem.Done 2 1
      ∷ mem.Lift 1 0 1 1 filled ∷ mem.Done 1 1
      ∷ mem.Pin 3 1 0 ∷ mem.Lift 3 0 1 3 filled ∷ mem.Done 3 1
      ∷ mem.Pin 5 1 0 ∷ mem.Land 5 0 1 4 filled ∷ mem.Land 5 1 1 5 filled
      ∷ mem.Land 5 2 1 6 filled ∷ mem.Land 5 3 1 7 filled ∷ mem.Done 5 1
      ∷ mem.Show 1 4 4
      ∷ mem.Release 1
      ∷ [];
  steps = step 0 0 op.Write 34 filled false ∷ step 2 0 op.Write 36 filled false
      ∷ step 1 0 op.Write 35 filled false
      ∷ step 3 0 op.Write 37 filled false ∷ step 4 0 op.Flush 0 [] false
      ∷ step 5 0 op.Read 34 filled false ∷ step 5 1 op.Read 35 filled false
      ∷ step 5 2 op.Read 36 filled false
      ∷ step 5 3 op.Read 37 filled false
      ∷ [];
  finish = Drain;
}
