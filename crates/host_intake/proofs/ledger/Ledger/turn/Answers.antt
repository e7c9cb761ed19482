use Rattle.std.proofs.Common.{◌≡◌, [], ◌∷◌, ◌++◌, true, refl, sym, subst}
use Rattle.host_intake.specs.{Closed, IntakeEntry, LedgerState, is_course, AreRows, flights_in, turns}
use Rattle.host_block.specs.{WithRoom}
use Rattle.host_intake.proofs.Ledgering.{kept_as}
use Rattle.host_intake.proofs.RowsKept.{rows_turned}
use Rattle.host_intake.proofs.Turning.{room_turned, ledger_goes_on}
use Rattle.host_intake.proofs.ledger.Ledger.turn.Goals as goal

pub push-requires : goal.push-requires
push-requires c = let a = c.self.inside in let course = subst (λ (s : LedgerState). is_course (turns s.entries ++ c.args.phase ∷ []) ≡ true) (sym c.self.view_is) c.requires.course in
    room_turned a.room a.entries a.phase a.flights a.kept.items a.memory_front c.self.invariant.0 c.args.phase course

pub invariant_of-self : goal.invariant_of-self
invariant_of-self c = let a = c.self.inside in let course = subst (λ (s : LedgerState). is_course (turns s.entries ++ c.args.phase ∷ []) ≡ true) (sym c.self.view_is) c.requires.course in
    let over = subst (λ (s : LedgerState). c.args.phase ≡ Closed → flights_in s.entries ≡ 0) (sym c.self.view_is) c.requires.over in (
      kept_as a.room _ c.push.new.self c.args.phase a.flights a.kept.items a.kept.items a.memory_front a.memory_front c.push.ensures refl refl
          (ledger_goes_on a.room a.entries a.phase a.flights a.kept.items a.memory_front c.self.invariant.0 c.args.phase course c.args.hand over c.requires.other),
      subst (λ (z : WithRoom IntakeEntry). AreRows a.room z.items a.taken a.rows) (sym c.push.ensures) (rows_turned a.room a.entries.items a.taken a.rows c.self.invariant.1 c.args.hand c.args.phase),
      c.self.invariant.2,
      c.self.invariant.3,
    )
