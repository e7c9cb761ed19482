use Rattle.std.proofs.Common.{◌≡◌, ℕ, ◌≤◌, [], ◌∷◌, ◌++◌, true, refl, sym, subst}
use Rattle.host_intake.specs.{Aborted, Closed, IntakeEntry, LedgerState, is_course, AreRows, turns}
use Rattle.host_block.specs.{WithRoom}
use Rattle.host_intake.proofs.Ledgering.{kept_as}
use Rattle.host_intake.proofs.RowsKept.{rows_turned}
use Rattle.host_intake.proofs.Turning.{room_turned, ledger_aborted}
use Rattle.host_intake.proofs.ledger.Ledger.abort.Goals as goal

pub push-requires : goal.push-requires
push-requires c = let a = c.self.inside in let course = subst (λ (s : LedgerState). is_course (turns s.entries ++ Aborted ∷ []) ≡ true) (sym c.self.view_is) c.requires in
    room_turned a.room a.entries a.phase a.flights a.kept.items a.memory_front c.self.invariant.0 Aborted course

other : Aborted ≡ Closed → ⊥
other e = cc

pub invariant_of-self : goal.invariant_of-self
invariant_of-self c = let a = c.self.inside in let course = subst (λ (s : LedgerState). is_course (turns s.entries ++ Aborted ∷ []) ≡ true) (sym c.self.view_is) c.requires in (
  kept_as a.room _ c.push.new.self Aborted a.flights [] c.clear.new.self.items a.memory_front a.memory_front c.push.ensures c.clear.ensures.items refl
      (ledger_aborted a.room a.entries a.phase a.flights a.kept.items a.memory_front c.self.invariant.0 Aborted course c.args.hand other refl),
  subst (λ (z : WithRoom IntakeEntry). AreRows a.room z.items a.taken a.rows) (sym c.push.ensures) (rows_turned a.room a.entries.items a.taken a.rows c.self.invariant.1 c.args.hand Aborted),
  subst (λ (z : ℕ). 64 ≤ z) (sym c.clear.ensures.capacity) c.self.invariant.2,
  c.self.invariant.3,
)
