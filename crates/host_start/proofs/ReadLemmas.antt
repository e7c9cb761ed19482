-- What the steps of reading a script say together.
use Rattle.std.proofs.Common.{◌≡◌, ℕ, ◌≤◌, Bool, true, false, cond, List, [], ◌++◌, length, take, refl, sym, ◌∙◌, ap, subst, arith, Option, Some, None, Result, Ok, Err}
use Rattle.std.specs.Prelude.{nat_lt, IfOk}
use Rattle.std.proofs.lemmas.Bool.{ltb-false}
use Rattle.std.proofs.lemmas.List.{length-map, length-take-le}
use Rattle.host_start.specs.{GivesScript, GivesText, IsFit, IsPast, IsTaken, Judges, Makes, Means, TakesMore, Limit, StartError, IsOfScript, IsOfSource, limit_in}
use Rattle.host_start.specs.declared.error.Limit.TheVariants as limit
use Rattle.host_start.specs.declared.error.StartError.TheVariants as error
use Rattle.script_model.specs.{generated, limit_of, can_be_said, PlannedSession, plan_of, plans_of, script_of}
use Rattle.script_model.proofs.SaidScript.{generated_fits, script_fits}
use Rattle.script_model.specs.declared.limit.Limit.{Limit as ScriptLimit}
use Rattle.script_model.specs.declared.limit.Limit.TheVariants as script
use Rattle.script_model.specs.declared.script.Script.{Script}

-- ---- the limit of sessions

by_first : (t : Bool) (rest : Option ScriptLimit) → cond t (Some script.Sessions) rest ≡ None → t ≡ false
by_first true rest is = cc
by_first false rest is = refl

-- a script within its limits has few sessions
pub few_sessions : (size : ℕ) (script : Script) → limit_of size (plans_of script) ≡ None → length script.sessions.items ≤ 16
unfolding limit_of
few_sessions size script is =
    let few = ltb-false 16 (length (plans_of script)) (by_first (nat_lt 16 (length (plans_of script))) _ is) in
    omega (arith, few, length-map script.sessions.items plan_of)

-- ---- scripts that can be said

-- a script that a text means, within its limits
pub means_fit : (size : ℕ) (text : List ℕ) (r : Result Script StartError) → Means size (script_of text) r → IfOk r (λ (s : Script). IsFit size (plans_of s))
means_fit size text (Ok script) (meant, limits) = record { said = script_fits text (plans_of script) meant; limits = limits }
means_fit size text (Err e) means = tt

-- a generated script, within its limits
pub makes_fit : (size seed sessions requests : ℕ) (r : Result Script StartError) → sessions ≤ 16 → Makes size (generated seed sessions requests) r → IfOk r (λ (s : Script). IsFit size (plans_of s))
makes_fit size seed sessions requests (Ok script) few (made, limits) = record {
  said = ap can_be_said made ∙ generated_fits seed sessions requests few;
  limits = ap (λ (p : List PlannedSession). limit_of size p) made ∙ limits;
}
makes_fit size seed sessions requests (Err e) few makes = tt

-- ---- the text

-- a refusal while the source is read
pub source_gives : (left new_left : List ℕ) (e : StartError) → IsOfSource e → GivesText left new_left (Err e)
source_gives left new_left error.Source is = tt
source_gives left new_left error.Oom is = tt
source_gives left new_left (error.BadScript line cause) is = absurd is
source_gives left new_left (error.TooLarge what) is = absurd is
source_gives left new_left error.Disk is = absurd is
source_gives left new_left error.NoTable is = absurd is
source_gives left new_left (error.NoPart session part) is = absurd is

pub source_script : (e : StartError) → IsOfSource e → IsOfScript e
source_script error.Source is = tt
source_script error.Oom is = tt
source_script (error.BadScript line cause) is = absurd is
source_script (error.TooLarge what) is = absurd is
source_script error.Disk is = absurd is
source_script error.NoTable is = absurd is
source_script (error.NoPart session part) is = absurd is

-- a piece that was taken
pub piece_taken : (left new_left piece old new : List ℕ) (n : ℕ) → left ≡ take n piece ++ new_left → n ≤ length piece → new ≡ old ++ take n piece → (n ≡ 0 → left ≡ []) → TakesMore left new_left old new n
piece_taken left new_left piece old new n from within into end = record {
  taken = take n piece;
  count = length-take-le n piece within;
  from = from;
  into = into;
  end = λ none. sym (ap (λ (k : ℕ). take k piece ++ new_left) none) ∙ sym from ∙ end none;
}

not_bytes : (passed : ScriptLimit) → ¬ (limit.ScriptBytes ≡ limit_in passed)
not_bytes script.Sessions same = cc
not_bytes script.Records same = cc
not_bytes script.Moved same = cc

past : (size : ℕ) (text new_left : List ℕ) (plans : List PlannedSession) (what : Limit) → new_left ≡ [] → length text ≤ 1048576 → script_of text ≡ Ok plans → IsPast size plans what
    → GivesScript size text new_left (Err (error.TooLarge what))
past size text new_left plans limit.ScriptBytes end short meant is = absurd (not_bytes is.passed is.named)
past size text new_left plans limit.Sessions end short meant is = record { end = end; is = record { short = short; plans = plans; meant = meant; past = is } }
past size text new_left plans limit.Records end short meant is = record { end = end; is = record { short = short; plans = plans; meant = meant; past = is } }
past size text new_left plans limit.Moved end short meant is = record { end = end; is = record { short = short; plans = plans; meant = meant; past = is } }
past size text new_left plans limit.Blocks end short meant is = record { end = end; is = record { short = short; plans = plans; meant = meant; past = is } }
past size text new_left plans limit.Table end short meant is = record { end = end; is = record { short = short; plans = plans; meant = meant; past = is } }

given : (size : ℕ) (text new_left : List ℕ) (r : Result Script StartError) → new_left ≡ [] → length text ≤ 1048576 → Means size (script_of text) r → GivesScript size text new_left r
given size text new_left (Ok script) end short (meant, fits) = record { end = end; is = record { short = short; meant = meant; fits = fits } }
given size text new_left (Err (error.BadScript line cause)) end short is = record { end = end; is = record { short = short; is = is } }
given size text new_left (Err (error.TooLarge what)) end short (plans, meant, is) = past size text new_left plans what end short meant is
given size text new_left (Err error.Oom) end short is = tt
given size text new_left (Err error.Source) end short is = absurd is
given size text new_left (Err error.Disk) end short is = absurd is
given size text new_left (Err error.NoTable) end short is = absurd is
given size text new_left (Err (error.NoPart session part)) end short is = absurd is

-- a text that was taken, and what it means
pub gives : (size : ℕ) (left new_left text : List ℕ) (r : Result Script StartError) → IsTaken left new_left text → Means size (script_of text) r → GivesScript size left new_left r
gives size left new_left text r taken means =
    subst (λ (l : List ℕ). GivesScript size l new_left r) (sym taken.all) (given size text new_left r taken.end taken.short means)

-- ---- the limits

-- a script of a text that was judged
pub means : (size : ℕ) (text : List ℕ) (script : Script) (r : Result Script StartError) → script_of text ≡ Ok (plans_of script) → Judges size script r → Means size (script_of text) r
means size text script (Ok judged) meant (same, fits) = (meant ∙ ap (λ (s : Script). Ok (plans_of s)) (sym same), subst (λ (s : Script). limit_of size (plans_of s) ≡ None) (sym same) fits)
means size text script (Err (error.TooLarge what)) meant is = (plans_of script, meant, is)
means size text script (Err (error.BadScript line cause)) meant is = absurd is
means size text script (Err error.Oom) meant is = tt
means size text script (Err error.Source) meant is = absurd is
means size text script (Err error.Disk) meant is = absurd is
means size text script (Err error.NoTable) meant is = absurd is
means size text script (Err (error.NoPart session part)) meant is = absurd is

-- a generated script that was judged
pub makes : (size : ℕ) (plans : List PlannedSession) (script : Script) (r : Result Script StartError) → plans_of script ≡ plans → Judges size script r → Makes size plans r
makes size plans script (Ok judged) made (same, fits) = (ap plans_of same ∙ made, ap (λ (p : List PlannedSession). limit_of size p) (sym made) ∙ fits)
makes size plans script (Err (error.TooLarge what)) made is = subst (λ (p : List PlannedSession). IsPast size p what) made is
makes size plans script (Err (error.BadScript line cause)) made is = absurd is
makes size plans script (Err error.Oom) made is = tt
makes size plans script (Err error.Source) made is = absurd is
makes size plans script (Err error.Disk) made is = absurd is
makes size plans script (Err error.NoTable) made is = absurd is
makes size plans script (Err (error.NoPart session part)) made is = absurd is
