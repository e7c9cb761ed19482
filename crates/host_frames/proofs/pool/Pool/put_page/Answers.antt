use Rattle.std.proofs.Common.{arith, ap, sym, subst, ◌∙◌, ◌≡◌, ◌∷◌, [], ℕ}
use Rattle.std.specs.Prelude.{Some}
use Rattle.atomic_table.specs.Table.{rest}
use Rattle.host_frames.specs.{first_of, reached_view, IsBlankPage}
use Rattle.host_frames.proofs.TableCalls.{reaching, first_held}
use Rattle.host_frames.proofs.pool.Pool.put_page.Goals as goal

pub load-requires : goal.load-requires
load-requires c = let b = c.args.self.now in let some = b.some.0 in let words = b.words in (c.requires.table, omega arith, reaching IsBlankPage b.table.shared.key _ _ _ c.args.frame c.requires.frame)

pub exchange-nothing-requires : goal.exchange-nothing-requires
exchange-nothing-requires c = let did = c.load.ensures in (did.0 ∙ c.requires.table, first_held _ _ _ c.args.frame _ (ap first_of c.requires.frame.1) (ap (λ z. z.1) did.2))

pub returns-clause-has_put : goal.returns-clause-has_put
returns-clause-has_put c = let old = c.args.seat.now.me in let f = c.args.frame in let page = c.args.page in let next = c.requires.frame in
    let is : c.exchange-nothing.new.seat.me ≡ (reached_view old.0, (f, Some page) ∷ []) = c.exchange-nothing.ensures.3 ∙ ((λ i. ((c.load.ensures.2 i).0, (f, Some page) ∷ rest ((c.load.ensures.2 i).1))) ∙ (λ i. (reached_view old.0, (f, Some page) ∷ next.3 i))) in (
      ap (λ z. z.0.share) is ∙ next.0,
      ap (λ z. z.0.slots_held) is ∙ (λ i. ap first_of next.1 i ∷ next.2 i),
      page,
      ap (λ z. z.1) is,
      subst (λ (n : ℕ). IsBlankPage n page) (sym (ap (λ z. z.0.page_size) is)) c.requires.blank,
    )
