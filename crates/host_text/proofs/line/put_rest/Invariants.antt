use Rattle.std.proofs.Common.{take, flat_map}
use Rattle.host_text.specs.{after_space, AppendsText}
use Rattle.host_text.proofs.line.put_rest.Given as goal

abbrev pub invariant-loop-word : goal.invariant-loop-word
invariant-loop-word g l = AppendsText g.K.Sink.tells g.K.Sink.faults g.K.Sink.appended l.initial.out l.initial.held l.out l.held (flat_map after_space (take l.word-index l.words))
