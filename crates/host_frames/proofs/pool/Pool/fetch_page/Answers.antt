use Rattle.std.proofs.Common.{arith, ap, ◌∙◌, ◌∷◌}
use Rattle.std.specs.Prelude.{None}
use Rattle.atomic_table.specs.Table.{rest}
use Rattle.host_frames.specs.{first_of, IsBlankPage}
use Rattle.host_frames.proofs.TableCalls.{fetching, first_held, settling}
use Rattle.host_frames.proofs.pool.Pool.fetch_page.Goals as goal

pub load-requires : goal.load-requires
load-requires c = let b = c.args.self.now in let some = b.some.0 in let words = b.words in (c.requires.table, omega arith, fetching IsBlankPage b.table.shared.key _ _ _ c.args.frame c.requires.frame)

pub exchange-page-requires : goal.exchange-page-requires
exchange-page-requires c = let did = c.load.ensures in (did.0 ∙ c.requires.table, first_held _ _ _ c.args.frame _ (ap first_of c.requires.frame.1) (ap (λ z. z.1) did.2.1))

pub load-requires-2 : goal.load-requires-2
load-requires-2 c = let b = c.args.self.now in let some = b.some.0 in let words = b.words in let did = c.load.ensures in let out = c.exchange-page.ensures in
    (out.0 ∙ (did.0 ∙ c.requires.table), omega arith, settling IsBlankPage b.table.shared.key _ _ _ c.args.seat.now.me.0 c.args.frame _ (out.3 ∙ (λ i. ((did.2.1 i).0, (c.args.frame, None) ∷ rest ((did.2.1 i).1)))) (ap first_of c.requires.frame.1) c.requires.frame.0 (b.slots ∙ b.counted))
