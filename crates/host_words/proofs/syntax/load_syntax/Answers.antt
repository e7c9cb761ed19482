use Rattle.std.proofs.Common.{◌∙◌, ap₂}
use Rattle.std.proofs.lemmas.Result.{IfOk-weaker}
use Rattle.clap.specs.Simple.{with_rule}
use Rattle.host_words.proofs.syntax.load_syntax.Goals as goal

pub returns : goal.returns
returns c =
    let one = c.in_ok-arg.ensures.shape c.valued.ensures.local ∙ ap₂ with_rule c.bare.ensures c.valued.ensures.rule in
    let two = c.in_ok-arg-2.ensures.shape c.valued-2.ensures.local ∙ ap₂ with_rule one c.valued-2.ensures.rule in
    let three = c.in_ok-arg-3.ensures.shape c.valued-3.ensures.local ∙ ap₂ with_rule two c.valued-3.ensures.rule in
    IfOk-weaker c.arg-4.result _ _ (λ command adds. adds.shape c.words.ensures.local ∙ ap₂ with_rule three c.words.ensures.rule) c.arg-4.ensures
