use Rattle.std.proofs.Common.{◌∙◌, ap₂}
use Rattle.std.proofs.lemmas.Result.{IfOk-weaker}
use Rattle.clap.specs.Simple.{with_rule}
use Rattle.host_words.proofs.syntax.run_syntax.Goals as goal

pub returns : goal.returns
returns c =
    let one = c.in_ok-arg.ensures.shape c.valued.ensures.local ∙ ap₂ with_rule c.bare.ensures c.valued.ensures.rule in
    let two = c.in_ok-arg-2.ensures.shape c.valued-2.ensures.local ∙ ap₂ with_rule one c.valued-2.ensures.rule in
    let three = c.in_ok-arg-3.ensures.shape c.valued-3.ensures.local ∙ ap₂ with_rule two c.valued-3.ensures.rule in
    let four = c.in_ok-arg-4.ensures.shape c.plain.ensures.local ∙ ap₂ with_rule three c.plain.ensures.rule in
    let five = c.in_ok-arg-5.ensures.shape c.plain-2.ensures.local ∙ ap₂ with_rule four c.plain-2.ensures.rule in
    let six = c.in_ok-arg-6.ensures.shape c.plain-3.ensures.local ∙ ap₂ with_rule five c.plain-3.ensures.rule in
    IfOk-weaker c.arg-7.result _ _ (λ command adds. adds.shape c.words.ensures.local ∙ ap₂ with_rule six c.words.ensures.rule) c.arg-7.ensures
