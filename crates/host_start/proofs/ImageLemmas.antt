-- What the stages after the script say together.
use Rattle.std.proofs.Common.{◌≡◌, ◌≤◌, ℕ, Bool, List, length, refl, sym, ◌∙◌, ap, subst, arith, Option, Some, None}
use Rattle.std.specs.Prelude.{IsTrue, Result, Ok, Err, IfOk, IfErr, IfSome, OnOk}
use Rattle.host_block.specs.{DiskState, fresh}
use Rattle.host_gpt.specs.{current_image}
use Rattle.host_io.specs.{Rose, Shape}
use Rattle.host_start.specs.{image_in, ImageCopy, NotReady, ReadyCopy, IsAttached, IsLayoutOn, IsPlaced, IsSmallEnough, SaysOfBlocks, SaysOfImage, SaysOfTable, IsAfterScript, IsOfContent, IsImageError, IsOfTable, StartError, Start}
use Rattle.host_start.specs.declared.error.Limit.TheVariants as limit
use Rattle.host_start.specs.declared.error.StartError.TheVariants as error

-- refusals of the image come after the script
pub after_image : (e : StartError) → IsImageError e → IsAfterScript e
after_image error.Source is = is
after_image (error.BadScript line cause) is = is
after_image (error.TooLarge limit.ScriptBytes) is = is
after_image (error.TooLarge limit.Sessions) is = is
after_image (error.TooLarge limit.Records) is = is
after_image (error.TooLarge limit.Moved) is = is
after_image (error.TooLarge limit.Blocks) is = tt
after_image (error.TooLarge limit.Table) is = tt
after_image error.Disk is = tt
after_image error.NoTable is = tt
after_image (error.NoPart session part) is = tt
after_image error.Oom is = tt

-- as do those of its table
pub after_table : (e : StartError) → IsOfTable e → IsAfterScript e
after_table error.Source is = is
after_table (error.BadScript line cause) is = is
after_table (error.TooLarge limit.ScriptBytes) is = is
after_table (error.TooLarge limit.Sessions) is = is
after_table (error.TooLarge limit.Records) is = is
after_table (error.TooLarge limit.Moved) is = is
after_table (error.TooLarge limit.Blocks) is = tt
after_table (error.TooLarge limit.Table) is = tt
after_table error.Disk is = tt
after_table error.NoTable is = tt
after_table (error.NoPart session part) is = tt
after_table error.Oom is = tt

-- what is said of the table of an image that is small enough is said of the image
pub says_of_image : (image : List (List ℕ)) (parts : List ℕ) (e : StartError) → IsSmallEnough image → IsOfTable e → SaysOfTable image parts e → SaysOfImage image parts e
says_of_image image parts error.Source small is says = tt
says_of_image image parts (error.BadScript line cause) small is says = tt
says_of_image image parts (error.TooLarge limit.ScriptBytes) small is says = tt
says_of_image image parts (error.TooLarge limit.Sessions) small is says = tt
says_of_image image parts (error.TooLarge limit.Records) small is says = tt
says_of_image image parts (error.TooLarge limit.Moved) small is says = tt
says_of_image image parts (error.TooLarge limit.Blocks) small is says = absurd is
says_of_image image parts (error.TooLarge limit.Table) small is says = (small, says)
says_of_image image parts error.Disk small is says = tt
says_of_image image parts error.NoTable small is says = (small, says)
says_of_image image parts (error.NoPart session part) small is says = (small, says)
says_of_image image parts error.Oom small is says = tt

-- what is said of no session is said of every one
pub says_early : (image : List (List ℕ)) (none parts : List ℕ) (e : StartError) → IsImageError e → SaysOfImage image none e → SaysOfImage image parts e
says_early image none parts error.Source is says = tt
says_early image none parts (error.BadScript line cause) is says = tt
says_early image none parts (error.TooLarge limit.ScriptBytes) is says = tt
says_early image none parts (error.TooLarge limit.Sessions) is says = tt
says_early image none parts (error.TooLarge limit.Records) is says = tt
says_early image none parts (error.TooLarge limit.Moved) is says = tt
says_early image none parts (error.TooLarge limit.Blocks) is says = says
says_early image none parts (error.TooLarge limit.Table) is says = absurd is
says_early image none parts error.Disk is says = tt
says_early image none parts error.NoTable is says = absurd is
says_early image none parts (error.NoPart session part) is says = absurd is
says_early image none parts error.Oom is says = tt

-- where the table was looked at there are few enough blocks
pub says_few : (blocks : ℕ) (e : StartError) → blocks ≤ 262144 → IsOfTable e → SaysOfBlocks blocks e
says_few blocks error.Source few is = absurd is
says_few blocks (error.BadScript line cause) few is = absurd is
says_few blocks (error.TooLarge limit.ScriptBytes) few is = absurd is
says_few blocks (error.TooLarge limit.Sessions) few is = absurd is
says_few blocks (error.TooLarge limit.Records) few is = absurd is
says_few blocks (error.TooLarge limit.Moved) few is = absurd is
says_few blocks (error.TooLarge limit.Blocks) few is = absurd is
says_few blocks (error.TooLarge limit.Table) few is = few
says_few blocks error.Disk few is = tt
says_few blocks error.NoTable few is = few
says_few blocks (error.NoPart session part) few is = few
says_few blocks error.Oom few is = tt

pub few_on : (blocks : ℕ) (r : Result Start StartError) → blocks ≤ 262144 → IfErr r IsOfTable → IfErr r (SaysOfBlocks blocks)
few_on blocks (Ok start) few is = tt
few_on blocks (Err e) few is = says_few blocks e few is

-- a start on a disk that was just attached is on its image
pub placed_on : (told tells : Bool) (image : List (List ℕ)) (s : DiskState) (r : Result Start StartError) → told ≡ tells → (IsTrue tells → s ≡ fresh image) → IfOk r (IsPlaced told (current_image s))
    → IfOk r (IsPlaced tells image)
placed_on told tells image s (Ok start) same attached placed = record {
  layout = placed.layout;
  blocks = placed.blocks;
  used = placed.used;
  places = placed.places;
  on_image = λ tell. subst (λ (t : DiskState). IsLayoutOn (current_image t) start.which placed.layout) (attached tell) (placed.on_image (subst IsTrue (sym same) tell));
}
placed_on told tells image s (Err e) same attached placed = tt

-- and a refusal there says its cause of the image
pub refused_on : (image : List (List ℕ)) (s : DiskState) (parts : List ℕ) (r : Result Start StartError) → s ≡ fresh image → IsSmallEnough image → IfErr r IsOfTable
    → IfErr r (SaysOfTable (current_image s) parts) → IfErr r (SaysOfImage image parts)
refused_on image s parts (Ok start) attached small of_table says = tt
refused_on image s parts (Err e) attached small of_table says =
    says_of_image image parts e small of_table (subst (λ (t : DiskState). SaysOfTable (current_image t) parts e) attached says)

pub after_tables : (r : Result Start StartError) → IfErr r IsOfTable → IfErr r IsAfterScript
after_tables (Ok start) is = tt
after_tables (Err e) is = after_table e is

-- ---- an attached disk

pub attached_by : (r : Result Start StartError) (blocks size : ℕ) (tells : Bool) (shape shape' : Shape) → IfOk r (λ (s : Start). s.blocks ≡ blocks) → IsTrue shape.attached → IsTrue shape.writable → blocks ≡ shape.blocks → shape.size ≡ size
    → shape.tells ≡ tells → shape' ≡ shape → IfOk r (λ (s : Start). IsAttached s.blocks size tells shape')
attached_by (Ok start) blocks size tells shape shape' same attached writable count of_size told kept =
    subst (λ (t : Shape). IsAttached start.blocks size tells t) (sym kept) (record { attached = attached; writable = writable; count = sym count ∙ sym same; of_size = of_size; told = told })
attached_by (Err e) blocks size tells shape shape' same attached writable count of_size told kept = tt

pub fresh_by : (r : Result Start StartError) (s s' t : DiskState) → s' ≡ s → s ≡ t → OnOk r (s' ≡ t)
fresh_by (Ok start) s s' t kept attached = kept ∙ attached
fresh_by (Err e) s s' t kept attached = tt

-- ---- a copy

-- refusals of the image aren't of its content
pub image_not_content : (e : StartError) → IsImageError e → ¬ IsOfContent e
image_not_content error.Source is content = is
image_not_content (error.BadScript line cause) is content = is
image_not_content (error.TooLarge limit.ScriptBytes) is content = is
image_not_content (error.TooLarge limit.Sessions) is content = is
image_not_content (error.TooLarge limit.Records) is content = is
image_not_content (error.TooLarge limit.Moved) is content = is
image_not_content (error.TooLarge limit.Blocks) is content = content
image_not_content (error.TooLarge limit.Table) is content = is
image_not_content error.Disk is content = content
image_not_content error.NoTable is content = is
image_not_content (error.NoPart session part) is content = is
image_not_content error.Oom is content = content

-- refusals of the table are of its content, but for a failure of the disk and want of memory
pub content_of : (e : StartError) → IsOfTable e → ¬ (e ≡ error.Oom) → ¬ (e ≡ error.Disk) → IsOfContent e
content_of error.Source is no_oom no_fault = is
content_of (error.BadScript line cause) is no_oom no_fault = is
content_of (error.TooLarge limit.ScriptBytes) is no_oom no_fault = is
content_of (error.TooLarge limit.Sessions) is no_oom no_fault = is
content_of (error.TooLarge limit.Records) is no_oom no_fault = is
content_of (error.TooLarge limit.Moved) is no_oom no_fault = is
content_of (error.TooLarge limit.Blocks) is no_oom no_fault = is
content_of (error.TooLarge limit.Table) is no_oom no_fault = is
content_of error.Disk is no_oom no_fault = absurd (no_fault refl)
content_of error.NoTable is no_oom no_fault = is
content_of (error.NoPart session part) is no_oom no_fault = is
content_of error.Oom is no_oom no_fault = absurd (no_oom refl)

-- a count that stood at 0 and stays didn't rise
pub no_rise : (before now : ℕ) → before ≡ 0 → now ≡ before → ¬ Rose before now
no_rise before now none same rose = omega (arith, none, same, rose)

-- what is said of the image is said of the copy that is handed out
said_with : (image : List (List ℕ)) (parts : List ℕ) (e : StartError) (copy : Option ImageCopy) → SaysOfImage image parts e → IfSome copy (λ (c : ImageCopy). image_in c ≡ image) → IfSome copy (λ (c : ImageCopy). SaysOfImage (image_in c) parts e)
said_with image parts e None says same = tt
said_with image parts e (Some copy) says same = subst (λ (i : List (List ℕ)). SaysOfImage i parts e) (sym same) says

pub found_with : (image : List (List ℕ)) (parts : List ℕ) (r : Result ReadyCopy NotReady) → IfErr r (λ (no : NotReady). SaysOfImage image parts no.error) → IfErr r (λ (no : NotReady). IfSome no.copy (λ (c : ImageCopy). image_in c ≡ image))
    → IfErr r (λ (no : NotReady). IfSome no.copy (λ (c : ImageCopy). SaysOfImage (image_in c) parts no.error))
found_with image parts (Ok ready) says same = tt
found_with image parts (Err refused) says same = said_with image parts refused.error refused.copy says same

-- a disk that can't fail has no fault
pub never_faults : (P : Type 0) (r : Result ReadyCopy NotReady) → IfErr r (λ (no : NotReady). ¬ (no.error ≡ error.Disk)) → IfErr r (λ (no : NotReady). no.error ≡ error.Disk → P)
never_faults P (Ok ready) none = tt
never_faults P (Err refused) none = λ is. absurd (none is)

-- the copy that is kept holds the same image
pub same_kept : (copy : Option ImageCopy) (kept : ImageCopy) (image : List (List ℕ)) → IfSome copy (λ (c : ImageCopy). c ≡ kept) → image_in kept ≡ image → IfSome copy (λ (c : ImageCopy). image_in c ≡ image)
same_kept None kept image same is = tt
same_kept (Some c) kept image same is = ap image_in same ∙ is

-- and as many blocks
pub as_many_kept : (copy : Option ImageCopy) (kept : ImageCopy) (blocks : ℕ) → IfSome copy (λ (c : ImageCopy). c ≡ kept) → length (image_in kept) ≡ blocks → IfSome copy (λ (c : ImageCopy). length (image_in c) ≡ blocks)
as_many_kept None kept blocks same is = tt
as_many_kept (Some c) kept blocks same is = ap (λ (k : ImageCopy). length (image_in k)) same ∙ is

-- in blocks of the same size
pub same_size : (copy : Option ImageCopy) (kept : ImageCopy) (size : ℕ) → IfSome copy (λ (c : ImageCopy). c ≡ kept) → kept.size ≡ size → IfSome copy (λ (c : ImageCopy). c.size ≡ size)
same_size None kept size same is = tt
same_size (Some c) kept size same is = ap (λ (k : ImageCopy). k.size) same ∙ is
