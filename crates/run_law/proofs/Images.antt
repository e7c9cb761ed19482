-- A run on an image on which its script can't be played ends with the status that says why.
use Rattle.std.proofs.Common.{◌≡◌, inl, inr, ℕ, ◌<◌, ◌≤◌, List, length, Option, Some, None, refl, subst, arith}
use Rattle.std.specs.Prelude.{IsTrue, IfSome}
use Rattle.host_gpt.proofs.LawLemmas.{large_excludes, table_excludes}
use Rattle.host_gpt.specs.{TableIsAbsent, TableIsTooLarge}
use Rattle.host_io.specs.declared.mem_disk.MemDisk.{MemDisk}
use Rattle.host_part.specs.{Layout}
use Rattle.host_report.specs.{IsLawful, Report}
use Rattle.host_run.specs.Headline.{Headline}
use Rattle.host_run.specs.{IsLawfulOn, LeavesPlayed, start_status, PlayedDisk, copy_or, image_at, opening_image, site_of, RunStatus, NoPart, NoTable, TooLarge}
use Rattle.host_run.specs.Scene.{Scene}
use Rattle.host_start.specs.{IsLayoutOn, IsServedPart, IsSmallEnough, LacksPart, SaysOfBlocks, SaysOfImage, parts_of, IsAfterScript, StartError}
use Rattle.host_start.specs.declared.error.Limit.TheVariants as limit
use Rattle.host_start.specs.declared.error.StartError.TheVariants as error
use Rattle.script_model.specs.{PlannedSession}
use Rattle.script_played.specs.{PlaysPlans}
use Rattle.run_law.specs.{IsDue, IsFailure, AbsentTablesAreTold, IsAskedOn, LargeDisksAreTold, LargeImagesAreTold, LargeTablesAreTold, UnservedSessionsAreTold}
use Rattle.run_law.proofs.Ends.{ends, refused_by, refused_on, same_plans}
use Rattle.run_law.proofs.Firsts.{one_lack, same_layout, served_each}

-- ---- a report on the image

on_image : (size : ℕ) (copy : Option MemDisk) (disk : PlayedDisk) (report : Report) → IsTrue disk.tells → IfSome copy (λ (c : MemDisk). opening_image size c ≡ disk.image) → IsLawfulOn (copy_or size copy disk) report → IsLawful disk.image report
on_image size None disk report tells opened lawful = lawful tells
on_image size (Some c) disk report tells opened lawful = subst (λ (image : List (List ℕ)). IsLawful image report) opened (lawful refl)

-- a report is lawful for the image that the disk handed in held
lawful_there : (scene : Scene) (plans : List PlannedSession) (image : List (List ℕ)) (report : Report) → IsAskedOn scene plans image → Headline scene report → LeavesPlayed (site_of scene) scene.playing.cut report → IsLawful image report
lawful_there scene plans image report asked headline disks =
    subst (λ (i : List (List ℕ)). IsLawful i report) asked.held
    (on_image scene.playing.size scene.copy (record { tells = scene.disk.shape.tells; image = image_at (site_of scene); state = scene.new_disk.state }) report asked.tells (disks.opened asked.tells) headline.lawful)

-- a report of few blocks isn't lawful for an image of many
too_many : (image : List (List ℕ)) (report : Report) → IsLawful image report → report.blocks ≤ 262144 → 262144 < length image → ⊥
too_many image report lawful few many = absurd (let blocks : report.blocks ≡ length image = lawful.of_image.blocks in omega (arith, blocks, few, many))

-- where a report is lawful, the table is neither absent nor too large
has_table : (image : List (List ℕ)) (report : Report) → IsLawful image report → (¬ TableIsAbsent image) × (¬ TableIsTooLarge image)
has_table image report lawful = let on = lawful.on_table in table_excludes image report.which on.disk_id on.first_usable on.last_usable on.entries on.table

-- and each session that was played has its partition
lacks_none : (image : List (List ℕ)) (report : Report) (plans : List PlannedSession) (session part : ℕ) → IsLawful image report → PlaysPlans plans report → LacksPart image (parts_of plans) session part → ⊥
lacks_none image report plans session part lawful played lacks =
    let on = lawful.on_table in
    let layout : Layout = record { first_usable = on.first_usable; last_usable = on.last_usable; blocks = length image; entries = on.entries } in
    let there : IsLayoutOn image report.which layout = record { disk_id = on.disk_id; table = on.table; blocks = refl } in
    let first = lacks.first in
    first.unserved (subst (λ (l : Layout). IsServedPart l part) (same_layout image report.which lacks.which layout lacks.layout there lacks.on_image)
    (served_each layout plans report.sessions.items first.before first.after part played on.ranges first.is))

-- ---- the causes

not_small : (image : List (List ℕ)) → 262144 < length image → IsSmallEnough image → ⊥
not_small image many few = absurd (let least : length image ≤ 262144 = few in omega (arith, many, least))

-- a table serves what was asked for only where there is one
lacks_a_part : (image : List (List ℕ)) (parts : List ℕ) (session part : ℕ) → LacksPart image parts session part → (¬ TableIsAbsent image) × (¬ TableIsTooLarge image)
lacks_a_part image parts session part lacks = let on = lacks.on_image in table_excludes image lacks.which on.disk_id lacks.layout.first_usable lacks.layout.last_usable lacks.layout.entries on.table

-- the status by the cause in the image
by_cause : (image : List (List ℕ)) (parts : List ℕ) (due : RunStatus) (e : StartError) → (262144 < length image → TooLarge limit.Blocks ≡ due) → (IsSmallEnough image → TableIsAbsent image → NoTable ≡ due)
    → (IsSmallEnough image → TableIsTooLarge image → TooLarge limit.Table ≡ due) → ((session part : ℕ) → IsSmallEnough image → LacksPart image parts session part → NoPart session part ≡ due)
    → IsAfterScript e → SaysOfImage image parts e → IsDue IsFailure due (start_status e)
by_cause image parts due error.Disk many absent large lacks cause says = inr (inl refl)
by_cause image parts due error.Oom many absent large lacks cause says = inr (inr (inr refl))
by_cause image parts due (error.TooLarge limit.Blocks) many absent large lacks cause says = inl (many says)
by_cause image parts due (error.TooLarge limit.Table) many absent large lacks cause says = inl (large says.0 says.1)
by_cause image parts due error.NoTable many absent large lacks cause says = inl (absent says.0 says.1)
by_cause image parts due (error.NoPart session part) many absent large lacks cause says = inl (lacks session part says.0 says.1)
by_cause image parts due error.Source many absent large lacks cause says = absurd cause
by_cause image parts due (error.BadScript line word) many absent large lacks cause says = absurd cause
by_cause image parts due (error.TooLarge limit.ScriptBytes) many absent large lacks cause says = absurd cause
by_cause image parts due (error.TooLarge limit.Sessions) many absent large lacks cause says = absurd cause
by_cause image parts due (error.TooLarge limit.Records) many absent large lacks cause says = absurd cause
by_cause image parts due (error.TooLarge limit.Moved) many absent large lacks cause says = absurd cause

-- the status by the blocks of the disk, which are too many
by_blocks : (blocks : ℕ) (e : StartError) → 262144 < blocks → IsAfterScript e → SaysOfBlocks blocks e → IsDue IsFailure (TooLarge limit.Blocks) (start_status e)
by_blocks blocks error.Disk many cause says = inr (inl refl)
by_blocks blocks error.Oom many cause says = inr (inr (inr refl))
by_blocks blocks (error.TooLarge limit.Blocks) many cause says = inl refl
by_blocks blocks (error.TooLarge limit.Table) many cause says = absurd (omega (arith, many, says))
by_blocks blocks error.NoTable many cause says = absurd (omega (arith, many, says))
by_blocks blocks (error.NoPart session part) many cause says = absurd (omega (arith, many, says))
by_blocks blocks error.Source many cause says = absurd cause
by_blocks blocks (error.BadScript line word) many cause says = absurd cause
by_blocks blocks (error.TooLarge limit.ScriptBytes) many cause says = absurd cause
by_blocks blocks (error.TooLarge limit.Sessions) many cause says = absurd cause
by_blocks blocks (error.TooLarge limit.Records) many cause says = absurd cause
by_blocks blocks (error.TooLarge limit.Moved) many cause says = absurd cause

-- ---- the laws

pub large_images_are_told : LargeImagesAreTold
large_images_are_told scene status report plans image left asked many =
    ends scene IsFailure (TooLarge limit.Blocks) status report left
    (λ r headline disks. too_many image r (lawful_there scene plans image r asked headline disks) disks.few many)
    (refused_on scene plans image (TooLarge limit.Blocks) status asked
    (λ e. by_cause image (parts_of plans) (TooLarge limit.Blocks) e (λ same. refl) (λ few absent. absurd (not_small image many few)) (λ few large. absurd (not_small image many few))
    (λ session part few lacks. absurd (not_small image many few))))

pub absent_tables_are_told : AbsentTablesAreTold
absent_tables_are_told scene status report plans image left asked few absent =
    ends scene IsFailure NoTable status report left
    (λ r headline disks. (has_table image r (lawful_there scene plans image r asked headline disks)).0 absent)
    (refused_on scene plans image NoTable status asked
    (λ e. by_cause image (parts_of plans) NoTable e (λ many. absurd (not_small image many few)) (λ small none. refl) (λ small large. absurd (large_excludes image large absent))
    (λ session part small lacks. absurd ((lacks_a_part image (parts_of plans) session part lacks).0 absent))))

pub large_tables_are_told : LargeTablesAreTold
large_tables_are_told scene status report plans image left asked few large =
    ends scene IsFailure (TooLarge limit.Table) status report left
    (λ r headline disks. (has_table image r (lawful_there scene plans image r asked headline disks)).1 large)
    (refused_on scene plans image (TooLarge limit.Table) status asked
    (λ e. by_cause image (parts_of plans) (TooLarge limit.Table) e (λ many. absurd (not_small image many few)) (λ small absent. absurd (large_excludes image large absent)) (λ small same. refl)
    (λ session part small lacks. absurd ((lacks_a_part image (parts_of plans) session part lacks).1 large))))

pub unserved_sessions_are_told : UnservedSessionsAreTold
unserved_sessions_are_told scene status report plans image session part left asked few lacks =
    ends scene IsFailure (NoPart session part) status report left never
    (refused_on scene plans image (NoPart session part) status asked
    (λ e. by_cause image (parts_of plans) (NoPart session part) e (λ many. absurd (not_small image many few))
    (λ small absent. absurd ((lacks_a_part image (parts_of plans) session part lacks).0 absent)) (λ small large. absurd ((lacks_a_part image (parts_of plans) session part lacks).1 large))
    (λ session' part' small lacks'. one_lack image (parts_of plans) session session' part part' lacks lacks')))
  where
    never : (r : Report) → Headline scene r → LeavesPlayed (site_of scene) scene.playing.cut r → ⊥
    never r headline disks =
        let same = same_plans scene.playing.size scene.playing.making scene.source scene.new_source plans headline.played.plans asked.script headline.played.script in
        lacks_none image r plans session part (lawful_there scene plans image r asked headline disks) (subst (λ (p : List PlannedSession). PlaysPlans p r) same headline.played.is.played) lacks

pub large_disks_are_told : LargeDisksAreTold
large_disks_are_told scene status report plans left stands many =
    ends scene IsFailure (TooLarge limit.Blocks) status report left never
    (refused_by scene plans (TooLarge limit.Blocks) status stands (λ e cause says. by_blocks scene.new_disk.shape.blocks e many cause says.blocks))
  where
    never : (r : Report) → Headline scene r → LeavesPlayed (site_of scene) scene.playing.cut r → ⊥
    never r headline disks = let few = disks.few in let own = disks.own_blocks in absurd (omega (arith, few, own, many))
