use Rattle.std.proofs.Common.{take}
use Rattle.host_text.specs.{hex, AppendsText}
use Rattle.host_text.proofs.line.put_hex.Given as goal

abbrev pub invariant-loop-byte : goal.invariant-loop-byte
invariant-loop-byte g l = AppendsText g.K.Sink.tells g.K.Sink.faults g.K.Sink.appended l.initial.out l.initial.held l.out l.held (hex (take l.byte-index l.bytes))
