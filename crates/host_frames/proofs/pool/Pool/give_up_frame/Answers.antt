use Rattle.std.proofs.Common.{arith, refl, ◌∙◌, ◌%◌}
use Rattle.std.proofs.lemmas.Nat.{mod_below}
use Rattle.atomic_table.specs.Table.{rest}
use Rattle.host_frames.specs.{yielded_view, IsBlankPage}
use Rattle.host_frames.proofs.TableCalls.{yielding}
use Rattle.host_frames.proofs.Claiming.{mask_of}
use Rattle.host_frames.proofs.pool.Pool.give_up_frame.Goals as goal

pub fetch_and-requires : goal.fetch_and-requires
fetch_and-requires c = let b = c.args.self.now in let has = c.requires.page in let f = c.args.frame in
    (c.requires.table, c.requires.word, yielding IsBlankPage b.table.shared.key _ _ _ f has.2 _ _ has.0 c.requires.granted has.1 has.3 (b.slots ∙ b.counted) has.4 refl (mask_of (f % 64) (mod_below f 64 (omega arith))))

pub returns-clause-home : goal.returns-clause-home
returns-clause-home c = c.fetch_and.ensures.2 ∙ (λ i. (yielded_view c.args.seat.now.me.0, rest (c.requires.page.3 i)))
