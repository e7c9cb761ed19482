use Rattle.std.proofs.Common.{ap, ◌∙◌, arith}
use Rattle.host_group.proofs.cells.Cells.take_end.Goals as goal
use Rattle.host_group.proofs.RightSteps.{takes_error, takes_device_front, takes_memory_front, takes_closing, frees_word}

pub swap-error-requires : goal.swap-error-requires
swap-error-requires c = let words = c.args.self.now.words in let small = c.requires.0.4 in (c.requires.0.0, omega arith, takes_error _ _ _ _ c.requires.0.4 c.requires.0.2 c.requires.0.3 c.requires.1)

pub swap-device_front-requires : goal.swap-device_front-requires
swap-device_front-requires c = let words = c.args.self.now.words in let small = c.requires.0.4 in let a = c.swap-error.ensures in
    (a.0 ∙ c.requires.0.0, omega arith, takes_device_front _ _ _ _ c.requires.0.4 (ap (λ m. m.0.stage) a.2 ∙ c.requires.0.2) (ap (λ m. m.0.row.member.number) a.2 ∙ c.requires.0.3) (ap (λ m. m.0.row.progress) a.2))

pub swap-memory_front-requires : goal.swap-memory_front-requires
swap-memory_front-requires c = let words = c.args.self.now.words in let small = c.requires.0.4 in let a = c.swap-error.ensures in let b = c.swap-device_front.ensures in (
  b.0 ∙ (a.0 ∙ c.requires.0.0),
  omega arith,
  takes_memory_front _ _ _ _ c.requires.0.4 (ap (λ m. m.0.stage) b.2 ∙ (ap (λ m. m.0.stage) a.2 ∙ c.requires.0.2))
      (ap (λ m. m.0.row.member.number) b.2 ∙ (ap (λ m. m.0.row.member.number) a.2 ∙ c.requires.0.3)) (ap (λ m. m.0.row.progress) b.2),
)

pub swap-closing-requires : goal.swap-closing-requires
swap-closing-requires c = let words = c.args.self.now.words in let small = c.requires.0.4 in let a = c.swap-error.ensures in let b = c.swap-device_front.ensures in let d = c.swap-memory_front.ensures in (
  d.0 ∙ (b.0 ∙ (a.0 ∙ c.requires.0.0)),
  omega arith,
  takes_closing _ _ _ _ c.requires.0.4 (ap (λ m. m.0.stage) d.2 ∙ (ap (λ m. m.0.stage) b.2 ∙ (ap (λ m. m.0.stage) a.2 ∙ c.requires.0.2)))
      (ap (λ m. m.0.row.member.number) d.2 ∙ (ap (λ m. m.0.row.member.number) b.2 ∙ (ap (λ m. m.0.row.member.number) a.2 ∙ c.requires.0.3))) (ap (λ m. m.0.row.progress) d.2),
)

pub store-requires : goal.store-requires
store-requires c = let words = c.args.self.now.words in let small = c.requires.0.4 in let a = c.swap-error.ensures in let b = c.swap-device_front.ensures in let d = c.swap-memory_front.ensures in let e = c.swap-closing.ensures in (
  e.0 ∙ (d.0 ∙ (b.0 ∙ (a.0 ∙ c.requires.0.0))),
  omega arith,
  frees_word _ _ _ _ c.requires.0.4 (ap (λ m. m.0.stage) e.2 ∙ (ap (λ m. m.0.stage) d.2 ∙ (ap (λ m. m.0.stage) b.2 ∙ (ap (λ m. m.0.stage) a.2 ∙ c.requires.0.2))))
      (ap (λ m. m.0.row.member.number) e.2 ∙ (ap (λ m. m.0.row.member.number) d.2 ∙ (ap (λ m. m.0.row.member.number) b.2 ∙ (ap (λ m. m.0.row.member.number) a.2 ∙ c.requires.0.3)))) (ap (λ m. m.0.row.progress) e.2),
)
