use Rattle.std.proofs.Common.{arith, ap, sym, ◌∙◌, ℕ, length, replicate}
use Rattle.std.specs.Prelude.{Some}
use Rattle.std.proofs.lemmas.List.Elements.{All-pop}
use Rattle.host_frames.specs.{Page, IsBlankPage, IsInWords}
use Rattle.host_frames.proofs.Claiming.{named_pop}
use Rattle.host_frames.proofs.pool.Pool.give_up.Goals as goal

pub put_page-requires-clause-blank : goal.put_page-requires-clause-blank
put_page-requires-clause-blank c = let p : Page = c.in-Some.field-0 in let inv = c.loop-frame.invariant in let size : ℕ = c.args.seat.now.me.0.page_size in
    let blank = All-pop (λ (q : Page). IsBlankPage size q.bytes) c.loop-frame.pages.items c.pop.new.self.items (Some p) c.in-Some.ensures.items inv.5 in
    blank.1 ∙ ap (λ (n : ℕ). replicate n 0) (sym (ap (λ z. z.0.page_size) inv.4))

pub give_up_frame-requires-clause-word : goal.give_up_frame-requires-clause-word
give_up_frame-requires-clause-word c = (All-pop (IsInWords c.args.self.now.table.shared.table_id.words) c.loop-frame.pages.items c.pop.new.self.items (Some c.in-Some.field-0) c.in-Some.ensures.items c.loop-frame.invariant.0).1

pub give_up_frame-requires-clause-granted : goal.give_up_frame-requires-clause-granted
give_up_frame-requires-clause-granted c = let named = ap length (named_pop c.loop-frame.pages.items c.pop.new.self.items c.in-Some.field-0 c.in-Some.ensures.items) in let was = ap (λ z. z.0.granted) c.loop-frame.invariant.4 in let now = ap (λ z. z.0.granted) c.put_page.ensures.put in omega arith
