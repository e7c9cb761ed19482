use Rattle.std.proofs.Common.{◌≡◌, ◌<◌, ⊎_elim, length, arith, inl}
use Rattle.std.specs.Prelude.{◌-◌}
use Rattle.std.proofs.lemmas.Bool.Decides.{nat_tests}
use Rattle.host_io.specs.{next_count}
use Rattle.host_io.proofs.FailLemmas.{listed_here, listed_there}
use Rattle.host_io.proofs.mem_sink.MemSink.fails_to_put.Goals as goal
use Rattle.host_io.proofs.mem_sink.MemSink.fails_to_put.Goals.{else-len-self-via-then-len-self+else-not-is_empty, else-len-self-via-else-len-self}

pub returns : goal.returns
returns c =
    let s = c.args.self.now in
    let nr : c.saturating_add.result ≡ next_count s.calls = grind arith in (
      λ named. inl (listed_here c.deref.result.now s.fails.items _ _ c.is_listed.result c.deref.ensures.value nr c.is_listed.ensures named),
      λ fails. ⊎_elim
          (λ there. listed_there c.deref.result.now s.fails.items _ _ c.is_listed.result c.deref.ensures.value nr c.is_listed.ensures there)
          (λ (none : (s.room - length s.bytes.items ≡ 0) × (0 < length c.args.from.now)).
          absurd (elim c.else-len-self.branch [
            | else-len-self-via-then-len-self+else-not-is_empty w ↦ grind (arith, nat_tests, w.is_empty.ensures, w.if-not-is_empty.false, none.1)
            | else-len-self-via-else-len-self w ↦ w.if-len-self.false (omega (arith, c.len.ensures, s.bytes.ok.0, none.0, s.within))
          ]))
          fails,
    )
