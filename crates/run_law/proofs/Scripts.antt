-- A run on a script that can't be played ends with the status that says why.
use Rattle.std.proofs.Common.{◌≡◌, inl, inr, ◌∙◌, ℕ, ◌<◌, ◌≤◌, List, length, Option, Some, None, Result, Ok, Err, refl, sym, ap, subst, arith}
use Rattle.std.specs.Prelude.{IsTrue}
use Rattle.host_run.specs.{IsNoScript, IsScriptOf, SaysNoScript, start_status, SourceSeen, Making, plans_made, RunStatus, BadScript, Done, OutOfMemory, TooLarge}
use Rattle.host_run.specs.Scene.{Scene}
use Rattle.host_start.specs.{IsBadAt, IsPast, IsTextPast, IsWithinLimits, Makes, SaysOfScript, IsOfScript, limit_in, Limit, StartError}
use Rattle.host_start.specs.declared.error.Limit.TheVariants as limit
use Rattle.host_start.specs.declared.error.StartError.TheVariants as error
use Rattle.script_model.specs.{limit_of, PlannedSession, script_of, ScriptCause, ParseError, Bad, Oom}
use Rattle.run_law.specs.{IsDue, IsNoMemory, IsUnread, BadScriptsAreTold, IsReadFrom, LongScriptsAreTold, MadeLimitsAreTold, PassedLimitsAreTold}
use Rattle.run_law.proofs.Ends.{ends_unread, too_long}

-- ---- a script that is read

-- the text of the script, where one was read
its_within : (size : ℕ) (making : Option Making) (before after : SourceSeen) (text : List ℕ) (plans : List PlannedSession) → making ≡ None → IsTrue before.tells → before.left ≡ text → IsScriptOf size making before after plans → IsWithinLimits size text plans
its_within size making before after text plans none tells is script = subst (λ (l : List ℕ). IsWithinLimits size l plans) is ((subst (λ (m : Option Making). IsScriptOf size m before after plans) none script) tells).is

within_of : (scene : Scene) (text : List ℕ) (plans : List PlannedSession) → IsReadFrom scene text → IsScriptOf scene.playing.size scene.playing.making scene.source scene.new_source plans → IsWithinLimits scene.playing.size text plans
within_of scene text plans from script = its_within scene.playing.size scene.playing.making scene.source scene.new_source text plans from.read from.tells from.left script

-- what the refusal says of the text
its_saying : (size : ℕ) (making : Option Making) (before after : SourceSeen) (text : List ℕ) (e : StartError) → making ≡ None → IsTrue before.tells → before.left ≡ text → SaysNoScript size making before after e → SaysOfScript size text after.left e
its_saying size making before after text e none tells is says = subst (λ (l : List ℕ). SaysOfScript size l after.left e) is ((subst (λ (m : Option Making). SaysNoScript size m before after e) none says) tells)

saying_of : (scene : Scene) (text : List ℕ) (e : StartError) → IsReadFrom scene text → IsNoScript scene e → SaysOfScript scene.playing.size text scene.new_source.left e
saying_of scene text e from unplayed = its_saying scene.playing.size scene.playing.making scene.source scene.new_source text e from.read from.tells from.left unplayed.says

-- ---- a bad text

-- a text isn't both a script and bad
not_both : (text : List ℕ) (plans : List PlannedSession) (line : ℕ) (cause : ScriptCause) → script_of text ≡ Ok plans → script_of text ≡ Err (Bad line cause) → ⊥
not_both text plans line cause good bad = absurd (cc)

-- the status of the first bad line
abbrev told_of : Result (List PlannedSession) ParseError → RunStatus
told_of (Ok plans) = Done
told_of (Err (Bad line cause)) = BadScript line cause
told_of (Err Oom) = OutOfMemory

bad_status : (size : ℕ) (text rest : List ℕ) (line : ℕ) (cause : ScriptCause) (e : StartError) → IsBadAt text line cause → IsOfScript e → SaysOfScript size text rest e → IsDue IsUnread (BadScript line cause) (start_status e)
bad_status size text rest line cause error.Source bad of says = inr (inl refl)
bad_status size text rest line cause error.Oom bad of says = inr (inr refl)
bad_status size text rest line cause (error.BadScript n word) bad of says = inl (ap told_of (sym says.is.is ∙ bad.is))
bad_status size text rest line cause (error.TooLarge limit.ScriptBytes) bad of says = absurd (too_long text rest says.0 says.2 says.1 bad.short)
bad_status size text rest line cause (error.TooLarge limit.Sessions) bad of says = let past = says.is in absurd (not_both text past.plans line cause past.meant bad.is)
bad_status size text rest line cause (error.TooLarge limit.Records) bad of says = let past = says.is in absurd (not_both text past.plans line cause past.meant bad.is)
bad_status size text rest line cause (error.TooLarge limit.Moved) bad of says = let past = says.is in absurd (not_both text past.plans line cause past.meant bad.is)
bad_status size text rest line cause (error.TooLarge limit.Blocks) bad of says = absurd of
bad_status size text rest line cause (error.TooLarge limit.Table) bad of says = absurd of
bad_status size text rest line cause error.Disk bad of says = absurd of
bad_status size text rest line cause error.NoTable bad of says = absurd of
bad_status size text rest line cause (error.NoPart session part) bad of says = absurd of

pub bad_scripts_are_told : BadScriptsAreTold
bad_scripts_are_told scene status report text line cause left from bad =
    ends_unread scene IsUnread (BadScript line cause) status report left
    (λ plans script. not_both text plans line cause (within_of scene text plans from script).meant bad.is)
    (λ e unplayed. bad_status scene.playing.size text scene.new_source.left line cause e bad unplayed.cause (saying_of scene text e from unplayed))

-- ---- a text that is too long

not_short : (text : List ℕ) → 1048576 < length text → length text ≤ 1048576 → ⊥
not_short text long short = absurd (omega (arith, long, short))

long_status : (size : ℕ) (text rest : List ℕ) (e : StartError) → 1048576 < length text → IsOfScript e → SaysOfScript size text rest e → IsDue IsUnread (TooLarge limit.ScriptBytes) (start_status e)
long_status size text rest error.Source long of says = inr (inl refl)
long_status size text rest error.Oom long of says = inr (inr refl)
long_status size text rest (error.BadScript n word) long of says = absurd (not_short text long says.is.short)
long_status size text rest (error.TooLarge limit.ScriptBytes) long of says = inl refl
long_status size text rest (error.TooLarge limit.Sessions) long of says = absurd (not_short text long says.is.short)
long_status size text rest (error.TooLarge limit.Records) long of says = absurd (not_short text long says.is.short)
long_status size text rest (error.TooLarge limit.Moved) long of says = absurd (not_short text long says.is.short)
long_status size text rest (error.TooLarge limit.Blocks) long of says = absurd of
long_status size text rest (error.TooLarge limit.Table) long of says = absurd of
long_status size text rest error.Disk long of says = absurd of
long_status size text rest error.NoTable long of says = absurd of
long_status size text rest (error.NoPart session part) long of says = absurd of

pub long_scripts_are_told : LongScriptsAreTold
long_scripts_are_told scene status report text left from long =
    ends_unread scene IsUnread (TooLarge limit.ScriptBytes) status report left
    (λ plans script. not_short text long (within_of scene text plans from script).short)
    (λ e unplayed. long_status scene.playing.size text scene.new_source.left e long unplayed.cause (saying_of scene text e from unplayed))

-- ---- a limit that is passed

-- a script passes one limit first
one_limit : (size : ℕ) (plans : List PlannedSession) (what other : Limit) → IsPast size plans what → IsPast size plans other → other ≡ what
one_limit size plans what other a b =
    let first : limit_of size plans ≡ Some a.passed = a.is in
    let second : limit_of size plans ≡ Some b.passed = b.is in
    let one : b.passed ≡ a.passed = cc in
    b.named ∙ (ap limit_in one ∙ sym a.named)

-- so does a text
same_limit : (size : ℕ) (text : List ℕ) (what other : Limit) → IsTextPast size text what → IsTextPast size text other → other ≡ what
same_limit size text what other a b =
    let good : script_of text ≡ Ok a.plans = a.meant in
    let good' : script_of text ≡ Ok b.plans = b.meant in
    let same : b.plans ≡ a.plans = cc in
    one_limit size a.plans what other a.past (subst (λ (p : List PlannedSession). IsPast size p other) same b.past)

-- a script that passes a limit isn't within them
not_within : (size : ℕ) (plans : List PlannedSession) (what : Limit) → IsPast size plans what → limit_of size plans ≡ None → ⊥
not_within size plans what past fits = let passed : limit_of size plans ≡ Some past.passed = past.is in absurd (cc)

text_not_within : (size : ℕ) (text : List ℕ) (what : Limit) (plans : List PlannedSession) → IsTextPast size text what → IsWithinLimits size text plans → ⊥
text_not_within size text what plans past within =
    let good : script_of text ≡ Ok past.plans = past.meant in
    let good' : script_of text ≡ Ok plans = within.meant in
    let same : plans ≡ past.plans = cc in
    not_within size past.plans what past.past (subst (λ (p : List PlannedSession). limit_of size p ≡ None) same within.fits)

limit_status : (size : ℕ) (text rest : List ℕ) (what : Limit) (e : StartError) → IsTextPast size text what → IsOfScript e → SaysOfScript size text rest e → IsDue IsUnread (TooLarge what) (start_status e)
limit_status size text rest what error.Source past of says = inr (inl refl)
limit_status size text rest what error.Oom past of says = inr (inr refl)
limit_status size text rest what (error.BadScript n word) past of says = absurd (not_both text past.plans n word past.meant says.is.is)
limit_status size text rest what (error.TooLarge limit.ScriptBytes) past of says = absurd (too_long text rest says.0 says.2 says.1 past.short)
limit_status size text rest what (error.TooLarge limit.Sessions) past of says = inl (ap TooLarge (same_limit size text what limit.Sessions past says.is))
limit_status size text rest what (error.TooLarge limit.Records) past of says = inl (ap TooLarge (same_limit size text what limit.Records past says.is))
limit_status size text rest what (error.TooLarge limit.Moved) past of says = inl (ap TooLarge (same_limit size text what limit.Moved past says.is))
limit_status size text rest what (error.TooLarge limit.Blocks) past of says = absurd of
limit_status size text rest what (error.TooLarge limit.Table) past of says = absurd of
limit_status size text rest what error.Disk past of says = absurd of
limit_status size text rest what error.NoTable past of says = absurd of
limit_status size text rest what (error.NoPart session part) past of says = absurd of

pub passed_limits_are_told : PassedLimitsAreTold
passed_limits_are_told scene status report text what left from past =
    ends_unread scene IsUnread (TooLarge what) status report left
    (λ plans script. text_not_within scene.playing.size text what plans past (within_of scene text plans from script))
    (λ e unplayed. limit_status scene.playing.size text scene.new_source.left what e past unplayed.cause (saying_of scene text e from unplayed))

-- ---- a generated script

made_status : (size : ℕ) (plans : List PlannedSession) (what : Limit) (e : StartError) → IsPast size plans what → Makes size plans (Err e) → IsDue IsNoMemory (TooLarge what) (start_status e)
made_status size plans what error.Oom past says = inr refl
made_status size plans what (error.TooLarge other) past says = inl (ap TooLarge (one_limit size plans what other past says))
made_status size plans what error.Source past says = absurd says
made_status size plans what (error.BadScript n word) past says = absurd says
made_status size plans what error.Disk past says = absurd says
made_status size plans what error.NoTable past says = absurd says
made_status size plans what (error.NoPart session part) past says = absurd says

its_plans : (size : ℕ) (o : Option Making) (making : Making) (before after : SourceSeen) (plans : List PlannedSession) → o ≡ Some making → IsScriptOf size o before after plans → (plans ≡ plans_made making) × (limit_of size plans ≡ None)
its_plans size o making before after plans is script = subst (λ (m : Option Making). IsScriptOf size m before after plans) is script

its_making : (size : ℕ) (o : Option Making) (making : Making) (before after : SourceSeen) (e : StartError) → o ≡ Some making → SaysNoScript size o before after e → Makes size (plans_made making) (Err e)
its_making size o making before after e is says = subst (λ (m : Option Making). SaysNoScript size m before after e) is says

pub made_limits_are_told : MadeLimitsAreTold
made_limits_are_told scene status report making what left made past =
    ends_unread scene IsNoMemory (TooLarge what) status report left never
    (λ e unplayed. made_status scene.playing.size (plans_made making) what e past (its_making scene.playing.size scene.playing.making making scene.source scene.new_source e made unplayed.says))
  where
    never : (plans : List PlannedSession) → IsScriptOf scene.playing.size scene.playing.making scene.source scene.new_source plans → ⊥
    never plans script =
        let its = its_plans scene.playing.size scene.playing.making making scene.source scene.new_source plans made script in
        not_within scene.playing.size (plans_made making) what past (subst (λ (p : List PlannedSession). limit_of scene.playing.size p ≡ None) its.0 its.1)
