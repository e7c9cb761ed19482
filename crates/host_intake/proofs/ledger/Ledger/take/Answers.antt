use Rattle.std.proofs.Common.{◌≡◌, ℕ, ◌+◌, ◌<◌, length, refl, sym, subst, arith}
use Rattle.host_block.specs.{WithRoom}
use Rattle.host_intake.specs.{IntakeEntry, Closed, takings, LedgerState, AreRows, flights_in, kept_slips, phase_in}
use Rattle.host_intake.proofs.Ledgering.{room_took, kept_as, ledger_took, load_is}
use Rattle.host_intake.proofs.RowsKept.{rows_roomy, rows_pushed}
use Rattle.host_intake.proofs.ledger.Ledger.take.Goals as goal

pub push-requires : goal.push-requires
push-requires c = let a = c.self.inside in let few = subst (λ (s : LedgerState). length (takings s.entries) < s.room) (sym c.self.view_is) c.requires.room in
    room_took a.room a.entries a.phase a.flights a.kept.items a.memory_front c.self.invariant.0 few

pub push_row-requires : goal.push_row-requires
push_row-requires c = let a = c.self.inside in let few = subst (λ (s : LedgerState). length (takings s.entries) < s.room) (sym c.self.view_is) c.requires.room in
    rows_roomy a.room a.entries.items a.taken a.rows c.self.invariant.1 few

pub invariant_of-self : goal.invariant_of-self
invariant_of-self c = let a = c.self.inside in let k = c.self.invariant.0 in
    let few = subst (λ (s : LedgerState). length (takings s.entries) < s.room) (sym c.self.view_is) c.requires.room in
    let next = subst (λ (s : LedgerState). c.args.envelope.index ≡ length (takings s.entries)) (sym c.self.view_is) c.requires.index in
    let limit = subst (λ (s : LedgerState). flights_in s.entries + length (kept_slips s.entries) < 64) (sym c.self.view_is) c.requires.limit in
    let unshut = subst (λ (s : LedgerState). phase_in s.entries ≡ Closed → ⊥) (sym c.self.view_is) c.requires.phase in
    let load = load_is a.room a.entries a.phase a.flights a.kept.items a.memory_front k in
    let took = ledger_took a.room a.entries a.phase a.flights a.kept.items a.memory_front k c.args.hand c.args.envelope c.args.verdict c.args.waits c.args.seen next few (subst (λ (z : ℕ). z < 64) load limit) unshut in (
      kept_as a.room _ c.push.new.self a.phase (a.flights + 1) a.kept.items a.kept.items _ c.max-self-inside.result c.push.ensures refl c.max-self-inside.ensures took,
      subst (λ (z : WithRoom IntakeEntry). AreRows a.room z.items (a.taken + 1) c.push_row.new.rows) (sym c.push.ensures)
          (rows_pushed a.room a.entries a.phase a.flights a.kept.items a.memory_front k c.args.hand c.args.envelope c.args.verdict c.args.waits c.args.seen next a.taken a.rows c.push_row.new.rows c.self.invariant.1 c.push_row.ensures),
      c.self.invariant.2,
      c.self.invariant.3,
    )
