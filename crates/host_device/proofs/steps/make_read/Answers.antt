use Rattle.std.proofs.Common.{List, ◌++◌, sym, ap, ◌∙◌, subst, Result}
use Rattle.host_block.specs.{Read}
use Rattle.host_cache.specs.{shape_of}
use Rattle.host_model.specs.{Step, changes_of}
use Rattle.host_device.specs.{StepError, CallsCache, HasContentBy, AreGiven, IsCacheCall, answer_alone}
use Rattle.host_device.proofs.EntryLemmas.{entered, given_bytes}
use Rattle.host_device.proofs.steps.make_read.Goals as goal

pub returns-in-Ok-clause-bytes : goal.returns-in-Ok-clause-bytes
returns-in-Ok-clause-bytes g c =
    given_bytes c.read.new.into c.in-Ok.found.bytes c.in-Ok.found.stored c.with_bytes.result c.in-Ok.ensures.bytes c.in-Ok.ensures.given (c.with_bytes.ensures.answer ∙ c.enter-answer.ensures.answer) c.with_bytes.ensures.bytes

pub returns-in-Ok-clause-entry : goal.returns-in-Ok-clause-entry
returns-in-Ok-clause-entry g c =
    c.enter-answer.ensures.entry
    ∙ ap (λ (l : List Step). record { items = c.args.steps.now.items ++ l; room = c.args.steps.now.room; kept = c.args.steps.now.kept })
    (entered c.args.owner Read c.args.b c.read.new.into c.in-Ok.found.stored (answer_alone c.with_bytes.result) c.in-Ok.ensures.bytes (c.with_bytes.ensures.answer ∙ c.enter-answer.ensures.answer))

pub returns-in-Ok-clause-calls : goal.returns-in-Ok-clause-calls
returns-in-Ok-clause-calls g c =
    let shape = shape_of c.args.cache.now in
    subst (λ (a : Result Unit StepError). CallsCache (IsCacheCall Read shape.blocks shape.size c.args.b c.read.new.into) c.args.cache.now a c.read.new.cache) (sym (c.with_bytes.ensures.answer ∙ c.enter-answer.ensures.answer)) c.in-Ok.ensures.calls

pub returns-in-Ok-clause-gives : goal.returns-in-Ok-clause-gives
returns-in-Ok-clause-gives g c =
    subst (λ (l : List Step). AreGiven (changes_of l) c.args.cache.now)
    (entered c.args.owner Read c.args.b c.read.new.into c.in-Ok.found.stored (answer_alone c.with_bytes.result) c.in-Ok.ensures.bytes (c.with_bytes.ensures.answer ∙ c.enter-answer.ensures.answer)) (c.in-Ok.ensures.gives, tt)

pub returns-in-Ok-clause-content : goal.returns-in-Ok-clause-content
returns-in-Ok-clause-content g c =
    subst (λ (l : List Step). HasContentBy (changes_of l) c.args.cache.now c.read.new.cache)
    (entered c.args.owner Read c.args.b c.read.new.into c.in-Ok.found.stored (answer_alone c.with_bytes.result) c.in-Ok.ensures.bytes (c.with_bytes.ensures.answer ∙ c.enter-answer.ensures.answer)) c.in-Ok.ensures.content

pub returns-in-Ok-clause-fault : goal.returns-in-Ok-clause-fault
returns-in-Ok-clause-fault g c = λ is. c.in-Ok.ensures.fault (sym (c.with_bytes.ensures.answer ∙ c.enter-answer.ensures.answer) ∙ is)
