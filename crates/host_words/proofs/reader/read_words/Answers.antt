use Rattle.std.proofs.Common.{◌≡◌, ◌∙◌, ◌-◌, sym, ap, map, drop, take, length, length-drop, arith, List}
use Rattle.std.proofs.lemmas.List.{take_all}
use Rattle.std.specs.Borrow.{Bor}
use Rattle.host_words.specs.{Word, has_short}
use Rattle.host_words.proofs.Answered.{short_none}
use Rattle.host_words.proofs.reader.read_words.Goals as goal

rest_is : (words : List (Bor Word)) → take (length words - 1) (drop 1 words) ≡ drop 1 words
rest_is words = take_all (length words - 1) (drop 1 words) (omega (arith, length-drop 1 words))

pub returns-then-has_short-clause-refused : goal.returns-then-has_short-clause-refused
returns-then-has_short-clause-refused c = λ bad.
    short_none c.args.words.now (ap (λ rest. has_short (map (λ w. w.now) rest)) (sym (rest_is c.args.words.now)) ∙ sym c.has_short.ensures ∙ c.if-has_short.true)
