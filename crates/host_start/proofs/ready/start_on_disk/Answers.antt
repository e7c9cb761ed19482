use Rattle.std.proofs.Common.{◌≡◌, ◌∙◌, [], ℕ, true, ap, subst, sym}
use Rattle.std.specs.Prelude.{IfErr}
use Rattle.host_io.specs.{Shape}
use Rattle.host_start.specs.{IsDiskOpened, SaysOfBlocks, parts_of}
use Rattle.host_start.proofs.ImageLemmas.{after_image, after_tables, attached_by, few_on, fresh_by, placed_on, refused_on, says_early}
use Rattle.script_model.specs.{plans_of}
use Rattle.host_start.proofs.ready.start_on_disk.Goals as goal

pub returns-in-Err-clause-cause : goal.returns-in-Err-clause-cause
returns-in-Err-clause-cause g c = after_image c.in-Err.error c.in-Err.ensures.cause

pub returns-in-Err-clause-refused : goal.returns-in-Err-clause-refused
returns-in-Err-clause-refused g c = λ told. says_early _ [] _ c.in-Err.error c.in-Err.ensures.cause (c.in-Err.ensures.attached told)

pub returns-in-Ok-clause-cause : goal.returns-in-Ok-clause-cause
returns-in-Ok-clause-cause g c = after_tables c.on.result c.on.ensures.cause

pub returns-in-Ok-clause-shape : goal.returns-in-Ok-clause-shape
returns-in-Ok-clause-shape g c =
    let attached = c.in-Ok.ensures.attaches in
    attached_by c.on.result c.in-Ok.blocks c.args.size (g.D.Disk.shape c.args.disk.now).tells (g.D.Disk.shape c.attach.new.disk) (g.D.Disk.shape c.on.new.disk) c.on.ensures.blocks attached.is_attached attached.writable attached.count attached.of_size attached.tells c.on.ensures.shape

pub returns-in-Ok-clause-state : goal.returns-in-Ok-clause-state
returns-in-Ok-clause-state g c = λ told. fresh_by c.on.result _ _ _ c.on.ensures.state (c.in-Ok.ensures.attaches.content told)

pub returns-in-Ok-clause-placed : goal.returns-in-Ok-clause-placed
returns-in-Ok-clause-placed g c =
    let attached = c.in-Ok.ensures.attaches in
    placed_on (g.D.Disk.shape c.attach.new.disk).tells (g.D.Disk.shape c.args.disk.now).tells (g.D.Disk.image_named c.args.disk.now c.args.image.now c.args.size) (g.D.Disk.state c.attach.new.disk) c.on.result attached.tells (λ told. attached.content told) c.on.ensures.placed

pub returns-in-Ok-clause-refused : goal.returns-in-Ok-clause-refused
returns-in-Ok-clause-refused g c = λ told.
    let attached = c.in-Ok.ensures.attaches in
    refused_on (g.D.Disk.image_named c.args.disk.now c.args.image.now c.args.size) (g.D.Disk.state c.attach.new.disk) (parts_of (plans_of c.args.script)) c.on.result (attached.content told) (c.in-Ok.ensures.attached told).1 c.on.ensures.cause (c.on.ensures.refused (attached.tells ∙ told))

pub returns-in-Ok-clause-opened : goal.returns-in-Ok-clause-opened
returns-in-Ok-clause-opened g c = λ started.
    subst (λ (s : Shape). IsDiskOpened c.args.size true s) (sym c.on.ensures.shape)
    (record { attached = c.in-Ok.ensures.is_attached tt; writable = c.in-Ok.ensures.as_asked tt; of_size = c.in-Ok.ensures.of_size tt })

pub returns-in-Err-clause-opened : goal.returns-in-Err-clause-opened
returns-in-Err-clause-opened g c = λ started.
    record { attached = c.in-Err.ensures.is_attached started; writable = c.in-Err.ensures.as_asked started; of_size = c.in-Err.ensures.of_size started }

pub returns-in-Ok-clause-refused_blocks : goal.returns-in-Ok-clause-refused_blocks
returns-in-Ok-clause-refused_blocks g c =
    let same : c.in-Ok.blocks ≡ (g.D.Disk.shape c.on.new.disk).blocks = c.in-Ok.ensures.attaches.count ∙ sym (ap (λ (s : Shape). s.blocks) c.on.ensures.shape) in
    subst (λ (n : ℕ). IfErr c.on.result (SaysOfBlocks n)) same (few_on c.in-Ok.blocks c.on.result c.in-Ok.ensures.few c.on.ensures.cause)

pub returns-in-Err-clause-refused_blocks : goal.returns-in-Err-clause-refused_blocks
returns-in-Err-clause-refused_blocks g c = c.in-Err.ensures.blocks
