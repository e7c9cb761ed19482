use Rattle.std.proofs.Common.{ℕ, List, arith, ap, ap₂, ◌∙◌}
use Rattle.host_log.specs.{entries_of}
use Rattle.host_turn.specs.{held_history, number, seen_by}
use Rattle.host_log.proofs.Histories.{own_left}
use Rattle.host_turn.proofs.Stepping.{hands_on}
use Rattle.host_turn.proofs.book.Book.leave.Goals as goal

pub fetch_add-requires : goal.fetch_add-requires
fetch_add-requires g c = let two = c.args.self.now.sized.0 in let did = c.exchange-nothing.ensures in (
  did.0 ∙ c.requires.seat.0,
  omega arith,
  hands_on g.S.Story.story g.S.Story.maker g.S.Story.fixed _ _ _ _ c.args.seat.now.seat.me c.args.state did.3 c.requires.seat.1.0 c.requires.seat.1.1 c.requires.fixed_part c.requires.story,
)

pub returns-clause-own : goal.returns-clause-own
returns-clause-own g c = let old = c.args.seat.now in let a = c.fetch_add.ensures.2 in let b = c.exchange-nothing.ensures.3 in
    ap₂ (λ (n : ℕ) (l : List g.row.S-Entry.Denot). entries_of g.S.Story.maker n l) (ap (λ m. m.0.number) a ∙ ap (λ m. m.0.number) b) (ap (λ m. m.0.seen) a ∙ ap (λ m. held_history g.S.Story.story g.S.Story.maker g.S.Story.fixed m.1) b)
    ∙ own_left g.S.Story.maker (number old) (seen_by old) (g.S.Story.story c.args.state) c.requires.story
