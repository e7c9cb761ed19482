-- What can be played is refused only where something outside failed, or for want of memory.
use Rattle.std.proofs.Common.{◌≡◌, ◌⊎◌, inl, inr, ℕ, ◌<◌, ◌≤◌, suc, List, [], ◌∷◌, ◌++◌, length, Option, Some, None, Ok, Err, refl, sym, ◌∙◌, ap, subst, arith}
use Rattle.std.specs.Prelude.{All}
use Rattle.std.proofs.lemmas.List.{length-append}
use Rattle.host_gpt.proofs.LawLemmas.{one_table, table_excludes}
use Rattle.host_part.specs.{Layout}
use Rattle.host_gpt.specs.{Which}
use Rattle.host_start.specs.{IsLayoutOn, IsServedPart, LacksPart, parts_of, IsAfterScript, IsOfScript, StartError}
use Rattle.host_start.specs.declared.error.Limit.TheVariants as limit
use Rattle.host_start.specs.declared.error.StartError.TheVariants as error
use Rattle.script_model.specs.{limit_of, PlannedSession, script_of, Bad}
use Rattle.host_run.specs.{IsDoneOrOutOfMemory, IsNoScript, IsNoStart, IsScenePlayable, IsScriptOf, SaysNoScript, StandsThere, start_status, NoneFaulted, image_at, site_of, DiskFaulted, SourceFaulted, SourceSeen, Making, RunStatus}
use Rattle.host_run.specs.Scene.{Scene}

-- ---- the script

-- a text that is too long isn't short enough
too_long : (left new_left taken : List ℕ) → left ≡ taken ++ new_left → 1048577 ≤ length taken → length left ≤ 1048576 → ⊥
too_long left new_left taken is many few = absurd (let n = ap (λ (l : List ℕ). length l) is ∙ length-append taken new_left in omega (arith, n, many, few))

-- where there is a script, there is none only for want of memory or for a source that failed
no_script : (size : ℕ) (making : Option Making) (before after : SourceSeen) (plans : List PlannedSession) (e : StartError) → StandsThere size making before plans → IsOfScript e → SaysNoScript size making before after e → (e ≡ error.Source) ⊎ (e ≡ error.Oom)
no_script size making before after plans error.Source stands cause says = inl refl
no_script size making before after plans error.Oom stands cause says = inr refl
no_script size None before after plans (error.BadScript line word) stands cause says =
    let bad : script_of before.left ≡ Err (Bad line word) = (says stands.0).is.is in
    let good : script_of before.left ≡ Ok plans = stands.1.meant in absurd (cc)
no_script size (Some making) before after plans (error.BadScript line word) stands cause says = absurd says
no_script size None before after plans (error.TooLarge limit.ScriptBytes) stands cause says =
    let long = says stands.0 in absurd (too_long before.left after.left long.0 long.2 long.1 stands.1.short)
no_script size None before after plans (error.TooLarge limit.Sessions) stands cause says =
    let past = (says stands.0).is in
    let meant : script_of before.left ≡ Ok past.plans = past.meant in
    let good : script_of before.left ≡ Ok plans = stands.1.meant in
    let passed : limit_of size past.plans ≡ Some past.past.passed = past.past.is in
    let fits : limit_of size plans ≡ None = stands.1.fits in absurd (cc)
no_script size None before after plans (error.TooLarge limit.Records) stands cause says =
    let past = (says stands.0).is in
    let meant : script_of before.left ≡ Ok past.plans = past.meant in
    let good : script_of before.left ≡ Ok plans = stands.1.meant in
    let passed : limit_of size past.plans ≡ Some past.past.passed = past.past.is in
    let fits : limit_of size plans ≡ None = stands.1.fits in absurd (cc)
no_script size None before after plans (error.TooLarge limit.Moved) stands cause says =
    let past = (says stands.0).is in
    let meant : script_of before.left ≡ Ok past.plans = past.meant in
    let good : script_of before.left ≡ Ok plans = stands.1.meant in
    let passed : limit_of size past.plans ≡ Some past.past.passed = past.past.is in
    let fits : limit_of size plans ≡ None = stands.1.fits in absurd (cc)
no_script size None before after plans (error.TooLarge limit.Blocks) stands cause says = absurd cause
no_script size None before after plans (error.TooLarge limit.Table) stands cause says = absurd cause
no_script size (Some making) before after plans (error.TooLarge what) stands cause says =
    let passed : limit_of size plans ≡ Some says.passed = ap (limit_of size) stands.0 ∙ says.is in
    let fits : limit_of size plans ≡ None = stands.1 in absurd (cc)
no_script size making before after plans error.Disk stands cause says = absurd cause
no_script size making before after plans error.NoTable stands cause says = absurd cause
no_script size making before after plans (error.NoPart session part) stands cause says = absurd cause

-- a script that was read or made is the one that stands there
same_plans : (size : ℕ) (making : Option Making) (before after : SourceSeen) (plans its : List PlannedSession) → StandsThere size making before plans → IsScriptOf size making before after its → its ≡ plans
same_plans size None before after plans its stands script =
    let meant : script_of before.left ≡ Ok its = (script stands.0).is.meant in
    let good : script_of before.left ≡ Ok plans = stands.1.meant in cc
same_plans size (Some making) before after plans its stands script = script.0 ∙ sym stands.0

-- ---- the image

at_middle : {X : Type 0} (P : X → Type 0) (before : List X) (x : X) (after : List X) → All P (before ++ x ∷ after) → P x
at_middle P [] x after all = all 0 x (omega arith)
at_middle P (y ∷ before) x after all = at_middle P before x after (λ k d within. all (suc k) d (omega (arith, within)))

-- an image has one layout
same_layout : (image : List (List ℕ)) (which which' : Which) (layout layout' : Layout) → IsLayoutOn image which layout → IsLayoutOn image which' layout' → layout ≡ layout'
same_layout image which which' layout layout' on on' =
    let same = one_table image which which' on.disk_id on'.disk_id layout.first_usable layout'.first_usable layout.last_usable layout'.last_usable layout.entries layout'.entries on.table on'.table in
    (λ i. record { first_usable = same.same_first i; last_usable = same.same_last i; blocks = (on.blocks ∙ sym on'.blocks) i; entries = same.same_entries i })

-- a table that serves each partition lacks none
lacks_none : (image : List (List ℕ)) (which : Which) (layout : Layout) (parts : List ℕ) (session part : ℕ) → IsLayoutOn image which layout → All (IsServedPart layout) parts → LacksPart image parts session part → ⊥
lacks_none image which layout parts session part on served lacks =
    let first = lacks.first in
    first.unserved (subst (λ (l : Layout). IsServedPart l part) (same_layout image which lacks.which layout lacks.layout on lacks.on_image)
    (at_middle (IsServedPart layout) first.before part first.after (subst (All (IsServedPart layout)) first.is served)))

-- where what is asked for can be played, it is refused after the script only for want of memory or for a disk that failed
no_start : (scene : Scene) (e : StartError) (cause : IsAfterScript e) (playable : IsScenePlayable scene) → (because : IsNoStart scene e) → (e ≡ error.Disk) ⊎ (e ≡ error.Oom)
no_start scene error.Disk cause playable because = inl refl
no_start scene error.Oom cause playable because = inr refl
no_start scene error.Source cause playable because = absurd cause
no_start scene (error.BadScript line word) cause playable because = absurd cause
no_start scene (error.TooLarge limit.ScriptBytes) cause playable because = absurd cause
no_start scene (error.TooLarge limit.Sessions) cause playable because = absurd cause
no_start scene (error.TooLarge limit.Records) cause playable because = absurd cause
no_start scene (error.TooLarge limit.Moved) cause playable because = absurd cause
no_start scene (error.TooLarge limit.Blocks) cause playable because =
    let image = image_at (site_of scene) in
    let many : 262144 < length image = because.says.told playable.disk_tells in absurd (let few : length image ≤ 262144 = playable.few in omega (arith, many, few))
no_start scene (error.TooLarge limit.Table) cause playable because =
    let on = playable.on_image in
    absurd ((table_excludes (image_at (site_of scene)) playable.which on.disk_id playable.layout.first_usable playable.layout.last_usable playable.layout.entries on.table).1 (because.says.told playable.disk_tells).1)
no_start scene error.NoTable cause playable because =
    let on = playable.on_image in
    absurd ((table_excludes (image_at (site_of scene)) playable.which on.disk_id playable.layout.first_usable playable.layout.last_usable playable.layout.entries on.table).0 (because.says.told playable.disk_tells).1)
no_start scene (error.NoPart session part) cause playable because =
    let same = same_plans scene.playing.size scene.playing.making scene.source scene.new_source playable.plans because.plans playable.script because.script in
    absurd (lacks_none (image_at (site_of scene)) playable.which playable.layout (parts_of playable.plans) session part playable.on_image playable.served
    (subst (λ (plans : List PlannedSession). LacksPart (image_at (site_of scene)) (parts_of plans) session part) same (because.says.told playable.disk_tells).1))

-- ---- the end

-- where what is asked for can be played, it is refused only for want of memory or where source or disk failed
why : (scene : Scene) (e : StartError) → IsScenePlayable scene → IsNoScript scene e ⊎ IsNoStart scene e → (e ≡ error.Source) ⊎ ((e ≡ error.Disk) ⊎ (e ≡ error.Oom))
why scene e playable (inl because) =
    elim (no_script scene.playing.size scene.playing.making scene.source scene.new_source playable.plans e playable.script because.cause because.says) [ inl source ↦ inl source | inr memory ↦ inr (inr memory) ]
why scene e playable (inr because) = inr (no_start scene e because.cause playable because)

pub refused_playable : (scene : Scene) (status : RunStatus) (e : StartError) → status ≡ start_status e → IsNoScript scene e ⊎ IsNoStart scene e → (e ≡ error.Source → SourceFaulted scene.source scene.new_source) → (e ≡ error.Disk → DiskFaulted scene.disk scene.new_disk)
    → IsScenePlayable scene → NoneFaulted scene → IsDoneOrOutOfMemory status
refused_playable scene status e is because source_fault disk_fault playable none =
    elim (why scene e playable because) [
      | inl source ↦ absurd (none.source (source_fault source))
      | inr (inl disk) ↦ absurd (none.disk (disk_fault disk))
      | inr (inr memory) ↦ inr (is ∙ ap start_status memory)
    ]
