use Rattle.std.proofs.Common.{ap, sym, ◌∙◌, ◌≡◌, ℕ, length, replicate}
use Rattle.std.specs.Prelude.{Some}
use Rattle.std.proofs.lemmas.List.Elements.{All-pop}
use Rattle.host_frames.specs.{Page, IsInWords}
use Rattle.host_frames.proofs.pool.Pool.bring_home.Goals as goal

pub put_page-requires-clause-blank : goal.put_page-requires-clause-blank
put_page-requires-clause-blank c = let p : Page = c.in-Some.field-0 in let inv = c.loop-frame.invariant in let size : ℕ = c.args.seat.now.me.0.page_size in
    let long = All-pop (λ (q : Page). length q.bytes.items ≡ size) c.loop-frame.all.items c.pop.new.self.items (Some p) c.in-Some.ensures.items inv.5 in
    c.clear.ensures ∙ ap (λ (n : ℕ). replicate n 0) (p.bytes.ok.0 ∙ (long.1 ∙ sym (ap (λ z. z.0.page_size) inv.4)))

pub bring_frame_home-requires-clause-word : goal.bring_frame_home-requires-clause-word
bring_frame_home-requires-clause-word c = (All-pop (IsInWords c.args.self.now.table.shared.table_id.words) c.loop-frame.all.items c.pop.new.self.items (Some c.in-Some.field-0) c.in-Some.ensures.items c.loop-frame.invariant.0).1
