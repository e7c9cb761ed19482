use Rattle.std.proofs.Common.{length, ap, sym, subst, ◌∙◌}
use Rattle.host_frames.specs.{contents}
use Rattle.host_memory.specs.{MemoryState}
use Rattle.host_model.specs.{MemEntry}
use Rattle.host_log.specs.{Adds}
use Rattle.host_session.proofs.Dropping.{dropped_adds, dropped_more, fewer_held, pins_same}
use Rattle.host_session.proofs.finish.drop_all.Goals as goal

pub loop-pages-smaller : goal.loop-pages-smaller
loop-pages-smaller c = let e = c.in-Some.ensures.entries in fewer_held c.loop-pages.memory c.drop_next.new.self c.args.client e.0 e.3 e.1

pub loop-pages-preserved : goal.loop-pages-preserved
loop-pages-preserved c =
    let e = c.in-Some.ensures.entries in
    let i = c.loop-pages.invariant in
    let b = c.give_back.ensures in
    record {
      pins = pins_same c.loop-pages.memory c.drop_next.new.self c.args.client e.0 e.3 ∙ i.pins;
      pool = b.seat.0 ∙ i.pool;
      plan = ap (λ (s : MemoryState). s.plan) e.3 ∙ i.plan;
      dropped = dropped_more c.args.client c.args.memory.now c.loop-pages.memory c.drop_next.new.self c.args.seat.now c.loop-pages.seat c.give_back.new.seat i.dropped e.0 (length (contents c.in-Some.pages)) e.3 e.2.number
          (record { pool = b.seat.0; claims = b.seat.1; granted = b.seat.2; given_back = b.given_back });
    }

pub returns-clause-adds : goal.returns-clause-adds
returns-clause-adds c =
    subst (λ (s : MemoryState). Adds (λ (e : MemEntry). e.hand) c.args.client c.args.memory.now.entries s.entries) (sym c.in_default.ensures.entries)
    (dropped_adds c.args.client c.args.memory.now c.loop-pages.memory c.args.seat.now c.loop-pages.seat c.loop-pages.invariant.dropped)
