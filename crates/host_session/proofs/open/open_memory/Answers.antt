use Rattle.std.proofs.Common.{ℕ, ◌+◌, ◌*◌, sym, ap, subst, ◌∙◌}
use Rattle.atomic_table.specs.Seated.{TableId}
use Rattle.host_frames.specs.{pool_id}
use Rattle.host_memory.specs.{MemoryPlan, MemoryState}
use Rattle.host_turn.specs.{AreNewSeats, book_id}
use Rattle.host_session.specs.{SessionSpec, id_limit}
use Rattle.host_session.proofs.open.open_memory.Goals as goal

abbrev planned : SessionSpec → ℕ → TableId × ℕ → ℕ → ℕ → MemoryPlan
planned spec hands pool ids room = record { limits = record { size = spec.size; ids = ids; room = room; records = spec.records; moves = spec.memory_room; hands = hands; keeps = spec.keeps }; pool = pool }

pub returns-in-Ok : goal.returns-in-Ok
returns-in-Ok c =
    let spec : SessionSpec = c.args.spec.now in
    let made = c.in-Ok.ensures in
    let is = made.book.1 ∙ c.in_ok-memory.ensures in
    record {
      count = (made.book.0, sym c.in-Ok.made.1.ok.0 ∙ made.seats.0);
      plan = ap (λ (m : MemoryState). m.plan) is
          ∙ (ap (λ (n : ℕ). planned spec c.args.hands (pool_id c.args.pool.now) n c.in-Some.room) c.min-ids.ensures
          ∙ ap (λ (r : ℕ). planned spec c.args.hands (pool_id c.args.pool.now) (id_limit spec) r) (c.in-Some.ensures.1 ∙ ap (λ (n : ℕ). 3 * n + spec.events) c.min-ids.ensures));
      nothing = ap (λ (m : MemoryState). m.entries) is;
      new = subst (λ (x : MemoryState). AreNewSeats (λ (m : MemoryState). m.entries) (λ (m : MemoryState). m.plan) (book_id c.in-Ok.made.0) x c.in-Ok.made.1.items) (sym made.book.1) made.seats.1;
    }
