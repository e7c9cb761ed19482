-- How a run ends, from what it leaves.
use Rattle.std.proofs.Common.{◌≡◌, ◌⊎◌, inl, inr, ℕ, ◌≤◌, List, ◌++◌, length, Option, Some, None, Ok, Err, refl, sym, ◌∙◌, ap, subst, arith}
use Rattle.std.proofs.lemmas.List.{length-append}
use Rattle.host_report.specs.{Report}
use Rattle.host_run.specs.{IsItsScript, IsNoScript, IsNoStart, IsRefused, IsScriptOf, SaysNoScript, StandsThere, LeavesPlayed, SaysCause, start_status, RunLeaves, site_of, SourceSeen, Making, RunStatus}
use Rattle.host_run.specs.Headline.{Headline}
use Rattle.host_run.specs.Scene.{Scene}
use Rattle.host_start.specs.{SaysOfImage, parts_of, IsAfterScript, IsOfScript, StartError}
use Rattle.host_start.specs.declared.error.Limit.TheVariants as limit
use Rattle.host_start.specs.declared.error.StartError.TheVariants as error
use Rattle.script_model.specs.{limit_of, PlannedSession, script_of, Bad}
use Rattle.run_law.specs.{EndsWith, IsDue, IsFailure, IsAskedOn}

-- ---- the end

-- a run that can't have a report ends as its refusal says
pub ends : (scene : Scene) (others : RunStatus → Type 0) (due status : RunStatus) (report : Option Report) → RunLeaves scene status report
    → ((r : Report) → Headline scene r → LeavesPlayed (site_of scene) scene.playing.cut r → ⊥) → (IsRefused scene status → IsDue others due status) → EndsWith others due status report
ends scene others due status None left never told = record { no_report = refl; status_is = told left.refused }
ends scene others due status (Some r) left never told = absurd (never r left.headline left.disks)

-- the status of the error
pub told_by : (others : RunStatus → Type 0) (due status : RunStatus) (e : StartError) → status ≡ start_status e → IsDue others due (start_status e) → IsDue others due status
told_by others due status e is told = subst (λ (s : RunStatus). IsDue others due s) (sym is) told

-- a run without a script ends as the error of the script says
pub ends_unread : (scene : Scene) (others : RunStatus → Type 0) (due status : RunStatus) (report : Option Report) → RunLeaves scene status report
    → ((plans : List PlannedSession) → IsItsScript scene plans → ⊥) → ((e : StartError) → IsNoScript scene e → IsDue others due (start_status e)) → EndsWith others due status report
ends_unread scene others due status report left never told =
    ends scene others due status report left (λ r headline disks. never headline.played.plans headline.played.script)
    (λ because. told_by others due status because.error because.is (from because.error because.why))
  where
    from : (e : StartError) → IsNoScript scene e ⊎ IsNoStart scene e → IsDue others due (start_status e)
    from e (inl unplayed) = told e unplayed
    from e (inr unplayed) = absurd (never unplayed.plans unplayed.script)

-- ---- a script that stands there

-- a text that is too long isn't short enough
pub too_long : (left new_left taken : List ℕ) → left ≡ taken ++ new_left → 1048577 ≤ length taken → length left ≤ 1048576 → ⊥
too_long left new_left taken is many few = absurd (let n = ap (λ (l : List ℕ). length l) is ∙ length-append taken new_left in omega (arith, n, many, few))

-- where there is a script, there is none only for want of memory or for a source that failed
no_script : (size : ℕ) (making : Option Making) (before after : SourceSeen) (plans : List PlannedSession) (e : StartError) → StandsThere size making before plans → IsOfScript e → SaysNoScript size making before after e → (e ≡ error.Source) ⊎ (e ≡ error.Oom)
no_script size making before after plans error.Source stands cause says = inl refl
no_script size making before after plans error.Oom stands cause says = inr refl
no_script size None before after plans (error.BadScript line word) stands cause says =
    let bad : script_of before.left ≡ Err (Bad line word) = (says stands.0).is.is in
    let good : script_of before.left ≡ Ok plans = stands.1.meant in absurd (cc)
no_script size (Some making) before after plans (error.BadScript line word) stands cause says = absurd says
no_script size None before after plans (error.TooLarge limit.ScriptBytes) stands cause says =
    let long = says stands.0 in absurd (too_long before.left after.left long.0 long.2 long.1 stands.1.short)
no_script size None before after plans (error.TooLarge limit.Sessions) stands cause says =
    let past = (says stands.0).is in
    let meant : script_of before.left ≡ Ok past.plans = past.meant in
    let good : script_of before.left ≡ Ok plans = stands.1.meant in
    let passed : limit_of size past.plans ≡ Some past.past.passed = past.past.is in
    let fits : limit_of size plans ≡ None = stands.1.fits in absurd (cc)
no_script size None before after plans (error.TooLarge limit.Records) stands cause says =
    let past = (says stands.0).is in
    let meant : script_of before.left ≡ Ok past.plans = past.meant in
    let good : script_of before.left ≡ Ok plans = stands.1.meant in
    let passed : limit_of size past.plans ≡ Some past.past.passed = past.past.is in
    let fits : limit_of size plans ≡ None = stands.1.fits in absurd (cc)
no_script size None before after plans (error.TooLarge limit.Moved) stands cause says =
    let past = (says stands.0).is in
    let meant : script_of before.left ≡ Ok past.plans = past.meant in
    let good : script_of before.left ≡ Ok plans = stands.1.meant in
    let passed : limit_of size past.plans ≡ Some past.past.passed = past.past.is in
    let fits : limit_of size plans ≡ None = stands.1.fits in absurd (cc)
no_script size None before after plans (error.TooLarge limit.Blocks) stands cause says = absurd cause
no_script size None before after plans (error.TooLarge limit.Table) stands cause says = absurd cause
no_script size (Some making) before after plans (error.TooLarge what) stands cause says =
    let passed : limit_of size plans ≡ Some says.passed = ap (limit_of size) stands.0 ∙ says.is in
    let fits : limit_of size plans ≡ None = stands.1 in absurd (cc)
no_script size making before after plans error.Disk stands cause says = absurd cause
no_script size making before after plans error.NoTable stands cause says = absurd cause
no_script size making before after plans (error.NoPart session part) stands cause says = absurd cause

-- a script that was read or made is the one that stands there
pub same_plans : (size : ℕ) (making : Option Making) (before after : SourceSeen) (plans its : List PlannedSession) → StandsThere size making before plans → IsScriptOf size making before after its → its ≡ plans
same_plans size None before after plans its stands script =
    let meant : script_of before.left ≡ Ok its = (script stands.0).is.meant in
    let good : script_of before.left ≡ Ok plans = stands.1.meant in cc
same_plans size (Some making) before after plans its stands script = script.0 ∙ sym stands.0

-- where a script stands there, the refusal says its cause, or tells of a failure
pub refused_by : (scene : Scene) (plans : List PlannedSession) (due status : RunStatus) → StandsThere scene.playing.size scene.playing.making scene.source plans
    → ((e : StartError) → IsAfterScript e → SaysCause (site_of scene) plans e → IsDue IsFailure due (start_status e)) → IsRefused scene status → IsDue IsFailure due status
refused_by scene plans due status stands told because = told_by IsFailure due status because.error because.is (from because.error because.why)
  where
    from : (e : StartError) → IsNoScript scene e ⊎ IsNoStart scene e → IsDue IsFailure due (start_status e)
    from e (inl unplayed) =
        elim (no_script scene.playing.size scene.playing.making scene.source scene.new_source plans e stands unplayed.cause unplayed.says) [
          | inl source ↦ inr (inr (inl (ap start_status source)))
          | inr memory ↦ inr (inr (inr (ap start_status memory)))
        ]
    from e (inr unplayed) =
        let same = same_plans scene.playing.size scene.playing.making scene.source scene.new_source plans unplayed.plans stands unplayed.script in
        told e unplayed.cause (subst (λ (p : List PlannedSession). SaysCause (site_of scene) p e) same unplayed.says)

-- a cause in the image, where the disk tells that
pub refused_on : (scene : Scene) (plans : List PlannedSession) (image : List (List ℕ)) (due status : RunStatus) → IsAskedOn scene plans image
    → ((e : StartError) → IsAfterScript e → SaysOfImage image (parts_of plans) e → IsDue IsFailure due (start_status e)) → IsRefused scene status → IsDue IsFailure due status
refused_on scene plans image due status asked told =
    refused_by scene plans due status asked.script (λ e cause says. told e cause (subst (λ (i : List (List ℕ)). SaysOfImage i (parts_of plans) e) asked.held (says.told asked.tells)))
