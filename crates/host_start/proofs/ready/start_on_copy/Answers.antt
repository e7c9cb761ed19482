use Rattle.std.proofs.Common.{[], List, ℕ, ◌≡◌, length, subst}
use Rattle.std.specs.Prelude.{IfErr, IfOk, IfSome}
use Rattle.host_start.specs.{image_in, SaysOfBlocks, SaysOfImage, parts_of, ImageCopy, NotReady, ReadyCopy}
use Rattle.host_start.proofs.ImageLemmas.{after_image, found_with, image_not_content, never_faults, says_early}
use Rattle.script_model.specs.{plans_of}
use Rattle.host_start.proofs.ready.start_on_copy.Goals as goal

pub returns-in-Err-clause-cause : goal.returns-in-Err-clause-cause
returns-in-Err-clause-cause g c = after_image c.in-Err.error c.in-Err.ensures.cause

pub returns-in-Err-clause-read_alone : goal.returns-in-Err-clause-read_alone
returns-in-Err-clause-read_alone g c = λ started.
    record { attached = c.in-Err.ensures.is_attached started; writable = c.in-Err.ensures.read_alone started; of_size = c.in-Err.ensures.of_size started }

pub returns-in-Err-clause-refused : goal.returns-in-Err-clause-refused
returns-in-Err-clause-refused g c = λ told. says_early _ [] _ c.in-Err.error c.in-Err.ensures.cause (c.in-Err.ensures.copied told)

pub returns-in-Err-clause-handed : goal.returns-in-Err-clause-handed
returns-in-Err-clause-handed g c = (λ some. absurd (cc some), λ content. absurd (image_not_content c.in-Err.error c.in-Err.ensures.cause content))

pub returns-in-Ok-clause-fault : goal.returns-in-Ok-clause-fault
returns-in-Ok-clause-fault g c = never_faults _ c.start_on.result c.start_on.ensures.no_fault

pub returns-in-Ok-clause-copied : goal.returns-in-Ok-clause-copied
returns-in-Ok-clause-copied g c = λ told.
    subst (λ (i : List (List ℕ)). IfOk c.start_on.result (λ (r : ReadyCopy). image_in r.copy ≡ i)) (c.in-Ok.ensures.copied told).0 c.start_on.ensures.same

pub returns-in-Ok-clause-refused : goal.returns-in-Ok-clause-refused
returns-in-Ok-clause-refused g c = λ told.
    subst (λ (i : List (List ℕ)). IfErr c.start_on.result (λ (no : NotReady). SaysOfImage i (parts_of (plans_of c.args.script)) no.error)) (c.in-Ok.ensures.copied told).0 c.start_on.ensures.refused

pub returns-in-Ok-clause-found_on : goal.returns-in-Ok-clause-found_on
returns-in-Ok-clause-found_on g c = found_with (image_in c.in-Ok.copy) (parts_of (plans_of c.args.script)) c.start_on.result c.start_on.ensures.refused c.start_on.ensures.found

pub returns-in-Ok-clause-found : goal.returns-in-Ok-clause-found
returns-in-Ok-clause-found g c = λ told.
    subst (λ (i : List (List ℕ)). IfErr c.start_on.result (λ (no : NotReady). IfSome no.copy (λ (k : ImageCopy). image_in k ≡ i))) (c.in-Ok.ensures.copied told).0 c.start_on.ensures.found

pub returns-in-Ok-clause-found_size : goal.returns-in-Ok-clause-found_size
returns-in-Ok-clause-found_size g c =
    subst (λ (n : ℕ). IfErr c.start_on.result (λ (no : NotReady). IfSome no.copy (λ (k : ImageCopy). k.size ≡ n))) c.in-Ok.ensures.size c.start_on.ensures.found_size

pub returns-in-Ok-clause-read_alone : goal.returns-in-Ok-clause-read_alone
returns-in-Ok-clause-read_alone g c = λ started.
    record { attached = c.in-Ok.ensures.is_attached tt; writable = c.in-Ok.ensures.read_alone tt; of_size = c.in-Ok.ensures.of_size tt }

pub returns-in-Ok-clause-disk_blocks : goal.returns-in-Ok-clause-disk_blocks
returns-in-Ok-clause-disk_blocks g c = subst (λ (n : ℕ). IfOk c.start_on.result (λ (r : ReadyCopy). r.start.blocks ≡ n)) c.in-Ok.ensures.counted c.start_on.ensures.own_blocks

pub returns-in-Ok-clause-found_blocks : goal.returns-in-Ok-clause-found_blocks
returns-in-Ok-clause-found_blocks g c =
    subst (λ (n : ℕ). IfErr c.start_on.result (λ (no : NotReady). IfSome no.copy (λ (k : ImageCopy). length (image_in k) ≡ n))) c.in-Ok.ensures.counted c.start_on.ensures.found_blocks

pub returns-in-Ok-clause-refused_blocks : goal.returns-in-Ok-clause-refused_blocks
returns-in-Ok-clause-refused_blocks g c =
    subst (λ (n : ℕ). IfErr c.start_on.result (λ (no : NotReady). SaysOfBlocks n no.error)) c.in-Ok.ensures.counted c.start_on.ensures.refused_blocks

pub returns-in-Err-clause-refused_blocks : goal.returns-in-Err-clause-refused_blocks
returns-in-Err-clause-refused_blocks g c = c.in-Err.ensures.blocks
