use Rattle.std.proofs.Common.{◌≡◌, ◌+◌, ◌==◌, ◌∙◌, [], ◌∷◌, ◌++◌, Some, None, true, if◌then◌else◌, refl, sym, ap, subst}
use Rattle.std.specs.Option.{is_some}
use Rattle.host_model.specs.declared.memory.MemEvent.TheVariants as mem
use Rattle.host_memory.specs.{holds_pages, page_count_of, ArePagesOf, closer_due, pins_on, MemoryState, history, block_size_of}
use Rattle.host_memory.proofs.Closing.{busy_found, closing_due, closing_holds, free_found, pages_before}
use Rattle.host_memory.proofs.Pushed.{events_pushed}
use Rattle.host_memory.proofs.memory.Memory.close.Goals as goal

pub closer_where_free-requires : goal.closer_where_free-requires
closer_where_free-requires c = let s = c.args.self.now in
    let now : history c.mark_closed.new.self ≡ history s ++ mem.Close c.args.index c.args.id ∷ [] = ap history c.mark_closed.ensures ∙ events_pushed s.entries (record { hand = c.self.inside.limits.hands + 1; what = mem.Close c.args.index c.args.id }) in
    subst (λ h. holds_pages c.args.id h ≡ true) (sym now) (closing_holds (history s) c.args.index c.args.id c.requires.stands)

pub returns-in_err-closer_where_free-clause-answer : goal.returns-in_err-closer_where_free-clause-answer
returns-in_err-closer_where_free-clause-answer c = let s = c.args.self.now in
    let now : history c.mark_closed.new.self ≡ history s ++ mem.Close c.args.index c.args.id ∷ [] = ap history c.mark_closed.ensures ∙ events_pushed s.entries (record { hand = c.self.inside.limits.hands + 1; what = mem.Close c.args.index c.args.id }) in
    let due : (if pins_on c.args.id (history s) == 0 then Some c.args.index else None) ≡ None = sym (closing_due (history s) c.args.index c.args.id c.requires.open) ∙ (ap (λ h. closer_due c.args.id h) (sym now) ∙ (sym c.closer_where_free.ensures ∙ c.in_err-closer_where_free.was)) in
    ((λ is. absurd (let none = c.from_residual.ensures in let same = ap is_some none in cc)), λ z. absurd (busy_found (pins_on c.args.id (history s)) c.args.index due z))

pub release-requires-clause-held : goal.release-requires-clause-held
release-requires-clause-held c = let s = c.args.self.now in
    let now : history c.mark_closed.new.self ≡ history s ++ mem.Close c.args.index c.args.id ∷ [] = ap history c.mark_closed.ensures ∙ events_pushed s.entries (record { hand = c.self.inside.limits.hands + 1; what = mem.Close c.args.index c.args.id }) in
    subst (λ h. holds_pages c.args.id h ≡ true) (sym now) (closing_holds (history s) c.args.index c.args.id c.requires.stands)

pub returns-clause-answer : goal.returns-clause-answer
returns-clause-answer c = let s = c.args.self.now in
    let now : history c.mark_closed.new.self ≡ history s ++ mem.Close c.args.index c.args.id ∷ [] = ap history c.mark_closed.ensures ∙ events_pushed s.entries (record { hand = c.self.inside.limits.hands + 1; what = mem.Close c.args.index c.args.id }) in
    let due : (if pins_on c.args.id (history s) == 0 then Some c.args.index else None) ≡ Some c.in_ok-closer_where_free.field-0 = sym (closing_due (history s) c.args.index c.args.id c.requires.open) ∙ (ap (λ h. closer_due c.args.id h) (sym now) ∙ (sym c.closer_where_free.ensures ∙ c.in_ok-closer_where_free.was)) in
    ((λ is. free_found (pins_on c.args.id (history s)) c.args.index c.in_ok-closer_where_free.field-0 due), λ z. refl)

pub returns-clause-pages : goal.returns-clause-pages
returns-clause-pages c = let s = c.args.self.now in let e = mem.Close c.args.index c.args.id in
    let now : history c.mark_closed.new.self ≡ history s ++ e ∷ [] = ap history c.mark_closed.ensures ∙ events_pushed s.entries (record { hand = c.self.inside.limits.hands + 1; what = e }) in
    let plan = ap (λ (z : MemoryState). z.plan) c.mark_closed.ensures in
    pages_before s.plan.pool (block_size_of s) c.args.id (history s) e c.release.result refl (λ k. refl)
    (subst (λ h. ArePagesOf s.plan.pool (block_size_of s) h c.args.id (page_count_of c.args.id h) c.release.result) now
    (subst (λ p. ArePagesOf p.pool p.limits.size (history c.mark_closed.new.self) c.args.id (page_count_of c.args.id (history c.mark_closed.new.self)) c.release.result) plan c.release.ensures.pages))
