use Rattle.std.proofs.Common.{◌∙◌, List, ℕ, true, Err, ap, refl, sym, subst, length, arith}
use Rattle.host_block.specs.{DiskState}
use Rattle.host_gpt.specs.{current_image}
use Rattle.host_io.specs.{image_of}
use Rattle.host_start.specs.{image_in, IsPlaced, IsSmallEnough, SaysOfBlocks, SaysOfImage, SaysOfTable, parts_of, IsAfterScript, StartError}
use Rattle.host_start.proofs.CopyLemmas.{length-image_in}
use Rattle.host_start.proofs.ImageLemmas.{after_table, as_many_kept, no_rise, same_kept, same_size, says_few, says_of_image}
use Rattle.script_model.specs.{plans_of}
use Rattle.host_start.proofs.ready.start_on.Goals as goal

pub returns-in-Ok-clause-placed : goal.returns-in-Ok-clause-placed
returns-in-Ok-clause-placed c =
    let copy = c.args.copy in
    subst (λ (i : List (List ℕ)). IsPlaced true i c.in-Ok.start) (ap current_image copy.fresh ∙ ap (λ (o : List ℕ). image_of copy.size o) (sym c.on.ensures.opening)) c.in-Ok.ensures.placed

pub not_ready-requires-clause-no_fault : goal.not_ready-requires-clause-no_fault
not_ready-requires-clause-no_fault c = λ is.
    no_rise _ _ c.args.copy.has_not_failed (c.on.ensures.only_reads.no_fault c.args.copy.never_fails) (c.in-Err.ensures.fault (ap (λ (e : StartError). Err e) is))

pub returns-in-Err-clause-cause : goal.returns-in-Err-clause-cause
returns-in-Err-clause-cause c = subst IsAfterScript (sym c.not_ready.ensures.error) (after_table c.in-Err.error c.in-Err.ensures.cause)

pub returns-in-Err-clause-refused : goal.returns-in-Err-clause-refused
returns-in-Err-clause-refused c =
    let copy = c.args.copy in
    let parts = parts_of (plans_of c.args.script) in
    let small : IsSmallEnough (image_in copy) = omega (arith, length-image_in copy, c.requires.few_blocks) in
    subst (SaysOfImage (image_in copy) parts) (sym c.not_ready.ensures.error)
    (says_of_image (image_in copy) parts c.in-Err.error small c.in-Err.ensures.cause
    (subst (λ (s : DiskState). SaysOfTable (current_image s) parts c.in-Err.error) copy.fresh (c.in-Err.ensures.refused refl)))

pub returns-in-Err-clause-found : goal.returns-in-Err-clause-found
returns-in-Err-clause-found c = same_kept c.not_ready.result.copy _ (image_in c.args.copy) c.not_ready.ensures.copy (ap (λ (o : List ℕ). image_of c.args.copy.size o) c.on.ensures.opening)

pub returns-in-Err-clause-found_size : goal.returns-in-Err-clause-found_size
returns-in-Err-clause-found_size c = same_size c.not_ready.result.copy _ c.args.copy.size c.not_ready.ensures.copy refl

pub returns-in-Err-clause-found_blocks : goal.returns-in-Err-clause-found_blocks
returns-in-Err-clause-found_blocks c =
    as_many_kept c.not_ready.result.copy _ c.args.copy.blocks c.not_ready.ensures.copy
    (ap (λ (o : List ℕ). length (image_of c.args.copy.size o)) c.on.ensures.opening ∙ length-image_in c.args.copy)

pub returns-in-Err-clause-refused_blocks : goal.returns-in-Err-clause-refused_blocks
returns-in-Err-clause-refused_blocks c =
    subst (SaysOfBlocks c.args.copy.blocks) (sym c.not_ready.ensures.error) (says_few c.args.copy.blocks c.in-Err.error c.requires.few_blocks c.in-Err.ensures.cause)
