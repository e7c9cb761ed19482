use Rattle.std.proofs.Common.{List, ◌++◌, sym, ap, ◌∙◌, subst, Result}
use Rattle.host_cache.specs.{shape_of}
use Rattle.host_model.specs.{Step, changes_of}
use Rattle.host_device.specs.{StepError, CallsCache, HasContentBy, AreGiven, IsCacheCall}
use Rattle.host_device.proofs.EntryLemmas.{entered}
use Rattle.host_device.proofs.steps.make_step.Goals as goal

pub returns-in-Ok-clause-entry : goal.returns-in-Ok-clause-entry
returns-in-Ok-clause-entry g c =
    c.enter.ensures.entry
    ∙ ap (λ (l : List Step). record { items = c.args.steps.now.items ++ l; room = c.args.steps.now.room; kept = c.args.steps.now.kept })
    (entered c.args.owner c.args.op c.args.b c.args.bytes c.in-Ok.stored c.enter.result c.in-Ok.ensures.bytes c.enter.ensures.answer)

pub returns-in-Ok-clause-calls : goal.returns-in-Ok-clause-calls
returns-in-Ok-clause-calls g c =
    let shape = shape_of c.args.cache.now in
    subst (λ (a : Result Unit StepError). CallsCache (IsCacheCall c.args.op shape.blocks shape.size c.args.b c.args.bytes) c.args.cache.now a c.call_cache.new.cache) (sym c.enter.ensures.answer) c.in-Ok.ensures.calls

pub returns-in-Ok-clause-gives : goal.returns-in-Ok-clause-gives
returns-in-Ok-clause-gives g c =
    subst (λ (l : List Step). AreGiven (changes_of l) c.args.cache.now)
    (entered c.args.owner c.args.op c.args.b c.args.bytes c.in-Ok.stored c.enter.result c.in-Ok.ensures.bytes c.enter.ensures.answer) (c.in-Ok.ensures.gives, tt)

pub returns-in-Ok-clause-content : goal.returns-in-Ok-clause-content
returns-in-Ok-clause-content g c =
    subst (λ (l : List Step). HasContentBy (changes_of l) c.args.cache.now c.call_cache.new.cache)
    (entered c.args.owner c.args.op c.args.b c.args.bytes c.in-Ok.stored c.enter.result c.in-Ok.ensures.bytes c.enter.ensures.answer) c.in-Ok.ensures.content
