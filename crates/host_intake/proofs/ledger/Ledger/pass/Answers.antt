use Rattle.std.proofs.Common.{ℕ, ◌<◌, ◌≤◌, length, refl, sym, subst}
use Rattle.host_block.specs.{WithRoom}
use Rattle.host_intake.specs.{IntakeEntry, LedgerState, AreRows, kept_slips}
use Rattle.host_intake.proofs.Ledgering.{kept_as}
use Rattle.host_intake.proofs.RowsKept.{rows_passed}
use Rattle.host_intake.proofs.Turning.{room_passed, ledger_passed}
use Rattle.host_intake.proofs.ledger.Ledger.pass.Goals as goal

pub push-requires : goal.push-requires
push-requires c = let a = c.self.inside in let some = subst (λ (s : LedgerState). 0 < length (kept_slips s.entries)) (sym c.self.view_is) c.requires in
    room_passed a.room a.entries a.phase a.flights a.kept.items a.memory_front c.self.invariant.0 some

pub invariant_of-self : goal.invariant_of-self
invariant_of-self c = let a = c.self.inside in let some = subst (λ (s : LedgerState). 0 < length (kept_slips s.entries)) (sym c.self.view_is) c.requires in (
  kept_as a.room _ c.push.new.self a.phase a.flights _ c.pop_front.new.self.items a.memory_front a.memory_front c.push.ensures c.pop_front.ensures.rest refl
      (ledger_passed a.room a.entries a.phase a.flights a.kept.items a.memory_front c.self.invariant.0 some c.args.hand),
  subst (λ (z : WithRoom IntakeEntry). AreRows a.room z.items a.taken a.rows) (sym c.push.ensures) (rows_passed a.room a.entries.items a.taken a.rows c.self.invariant.1 c.args.hand),
  subst (λ (z : ℕ). 64 ≤ z) (sym c.pop_front.ensures.capacity) c.self.invariant.2,
  c.self.invariant.3,
)
