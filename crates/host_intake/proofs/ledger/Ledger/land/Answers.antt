use Rattle.std.proofs.Common.{◌≡◌, ℕ, ◌+◌, ◌≤◌, List, true, length, refl, sym, ap, subst, arith, Bool, ◌++◌, ◌∷◌, [], ◌∙◌}
use Rattle.host_block.specs.{WithRoom}
use Rattle.std.specs.Prelude.{is_some}
use Rattle.host_intake.specs.{IntakeEntry, Landed, LedgerState, AreRows, flights_in, is_flying, kept_slips}
use Rattle.host_intake.proofs.Ending.{is_taken, some_flight, room_landed, kept_room, ledger_landed}
use Rattle.host_intake.proofs.Ledgering.{kept_as, load_is}
use Rattle.host_intake.proofs.RowsKept.{rows_long, rows_settled, settled_still}
use Rattle.host_intake.proofs.ledger.Ledger.land.Goals as goal

pub overflow_sub-self : goal.overflow_sub-self
overflow_sub-self c = let a = c.self.inside in let flying = subst (λ (s : LedgerState). is_flying c.args.index s.entries ≡ true) (sym c.self.view_is) c.requires in
    some_flight a.room a.entries a.phase a.flights a.kept.items a.memory_front c.self.invariant.0 c.args.index flying

pub keep-requires : goal.keep-requires
keep-requires c = let a = c.self.inside in let flying = subst (λ (s : LedgerState). is_flying c.args.index s.entries ≡ true) (sym c.self.view_is) c.requires in
    let few = kept_room a.room a.entries a.phase a.flights a.kept.items a.memory_front c.self.invariant.0 c.args.index flying in let cap = c.self.invariant.2 in omega arith

pub push-requires : goal.push-requires
push-requires c = let a = c.self.inside in let flying = subst (λ (s : LedgerState). is_flying c.args.index s.entries ≡ true) (sym c.self.view_is) c.requires in
    room_landed a.room a.entries a.phase a.flights a.kept.items a.memory_front c.self.invariant.0 c.args.index flying

pub settle_row-requires : goal.settle_row-requires
settle_row-requires c = let a = c.self.inside in let flying = subst (λ (s : LedgerState). is_flying c.args.index s.entries ≡ true) (sym c.self.view_is) c.requires in
    rows_long a.room a.entries.items a.taken a.rows c.self.invariant.1 c.args.index (is_taken a.room a.entries a.phase a.flights a.kept.items a.memory_front c.self.invariant.0 c.args.index flying)

pub invariant_of-self : goal.invariant_of-self
invariant_of-self c = let a = c.self.inside in let k = c.self.invariant.0 in
    let flying = subst (λ (s : LedgerState). is_flying c.args.index s.entries ≡ true) (sym c.self.view_is) c.requires in
    let cap = c.keep.ensures.capacity in let room = c.self.invariant.2 in (
      kept_as a.room _ c.push.new.self a.phase _ _ c.keep.new.slips.items a.memory_front a.memory_front c.push.ensures c.keep.ensures.items refl
          (ledger_landed a.room a.entries a.phase a.flights a.kept.items a.memory_front k c.args.index flying c.args.hand c.args.end c.args.answer c.args.kept),
      subst (λ (z : WithRoom IntakeEntry). AreRows a.room z.items a.taken c.settle_row.new.rows) (sym c.push.ensures)
          (rows_settled a.room a.entries a.phase a.flights a.kept.items a.memory_front k c.args.index flying c.args.hand c.args.end c.args.answer c.args.kept a.taken a.rows c.settle_row.new.rows c.self.invariant.1 c.settle_row.ensures),
      subst (λ (z : ℕ). 64 ≤ z) (sym cap) room,
      c.self.invariant.3,
    )

pub returns-clause-entry : goal.returns-clause-entry
returns-clause-entry c = let a = c.self.inside in let e = Landed c.args.hand c.args.index c.args.end c.args.answer c.args.kept in
    ap (λ (z : WithRoom IntakeEntry). record { room = a.room; keeps = is_some c.settle_row.new.rows; entries = z.items }) c.push.ensures
    ∙ (ap (λ (b : Bool). record { room = a.room; keeps = b; entries = a.entries.items ++ e ∷ [] }) (settled_still c.args.index c.args.end.outcome a.rows c.settle_row.new.rows c.settle_row.ensures)
    ∙ ap (λ (s : LedgerState). record s { entries = s.entries ++ e ∷ [] }) c.self.view_is)

pub returns-clause-limit : goal.returns-clause-limit
returns-clause-limit c = let a = c.self.inside in let k = c.self.invariant.0 in
    let flying = subst (λ (s : LedgerState). is_flying c.args.index s.entries ≡ true) (sym c.self.view_is) c.requires in
    let kept = ledger_landed a.room a.entries a.phase a.flights a.kept.items a.memory_front k c.args.index flying c.args.hand c.args.end c.args.answer c.args.kept in
    let load = load_is a.room _ a.phase _ _ a.memory_front kept in let limit = kept.limit in
    subst (λ (z : List IntakeEntry). flights_in z + length (kept_slips z) ≤ 64) (ap (λ (z : WithRoom IntakeEntry). z.items) (sym c.push.ensures)) (subst (λ (z : ℕ). z ≤ 64) (sym load) limit)
