use Rattle.std.proofs.Common.{arith, ap, ◌∙◌}
use Rattle.host_frames.specs.{SeenPages}
use Rattle.host_frames.proofs.BadgeLemmas.{unpacking}
use Rattle.host_frames.proofs.pool.Pool.give_back.Goals as goal

pub join_seat-requires : goal.join_seat-requires
join_seat-requires c = let b = c.args.self.now in let some = b.some.0 in let words = b.words in let packed_view = c.into_seat-packed.ensures in
    (ap (λ z. z.0) c.requires.seat, packed_view.0 ∙ (ap (λ (z : SeenPages). z.0.0) c.pages.view_is ∙ ap (λ z. z.0) c.requires.pages), packed_view.3, omega arith, unpacking b.table.shared.key _ _ _ _ c.pages.inside.badge.views c.pages.invariant.is_alone packed_view.2)
