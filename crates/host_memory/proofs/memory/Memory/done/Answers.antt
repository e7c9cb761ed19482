use Rattle.std.proofs.Common.{◌≡◌, ◌∙◌, [], ◌∷◌, ◌++◌, true, refl, sym, ap, subst}
use Rattle.host_model.specs.{Done}
use Rattle.host_memory.specs.{holds_pages, page_count_of, ArePagesOf, MemoryState, history, block_size_of}
use Rattle.host_memory.proofs.Closing.{holds_still, pages_before}
use Rattle.host_memory.proofs.Pushed.{events_pushed}
use Rattle.host_memory.proofs.memory.Memory.done.Goals as goal

pub closer_where_free-requires : goal.closer_where_free-requires
closer_where_free-requires c = let s = c.args.self.now in let e = Done c.args.index c.args.id in
    let now : history c.unpin.new.self ≡ history s ++ e ∷ [] = ap history c.unpin.ensures.entry ∙ events_pushed s.entries (record { hand = c.args.hand; what = e }) in
    subst (λ h. holds_pages c.args.id h ≡ true) (sym now) (holds_still c.args.id (history s) e refl refl ∙ c.unpin.ensures.held)

pub release-pages-requires-clause-held : goal.release-pages-requires-clause-held
release-pages-requires-clause-held c = let s = c.args.self.now in let e = Done c.args.index c.args.id in
    let now : history c.unpin.new.self ≡ history s ++ e ∷ [] = ap history c.unpin.ensures.entry ∙ events_pushed s.entries (record { hand = c.args.hand; what = e }) in
    subst (λ h. holds_pages c.args.id h ≡ true) (sym now) (holds_still c.args.id (history s) e refl refl ∙ c.unpin.ensures.held)

pub returns-clause-pages : goal.returns-clause-pages
returns-clause-pages c = let s = c.args.self.now in let e = Done c.args.index c.args.id in
    let now : history c.unpin.new.self ≡ history s ++ e ∷ [] = ap history c.unpin.ensures.entry ∙ events_pushed s.entries (record { hand = c.args.hand; what = e }) in
    let plan = ap (λ (z : MemoryState). z.plan) c.unpin.ensures.entry in
    pages_before s.plan.pool (block_size_of s) c.args.id (history s) e c.release-pages.result refl (λ k. refl)
    (subst (λ h. ArePagesOf s.plan.pool (block_size_of s) h c.args.id (page_count_of c.args.id h) c.release-pages.result) now
    (subst (λ p. ArePagesOf p.pool p.limits.size (history c.unpin.new.self) c.args.id (page_count_of c.args.id (history c.unpin.new.self)) c.release-pages.result) plan c.release-pages.ensures.pages))
