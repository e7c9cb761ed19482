-- What reading a script says of its text.
use Rattle.std.specs.Prelude.{◌≡◌, ℕ, ◌≤◌, true, List, [], ◌++◌, length, Some, None, Result, Ok}
use Rattle.std.specs.Prelude.{Err, Vec}
use Rattle.std.specs.declared.alloc.Global.{Global}
use Rattle.host_start.specs.Refusals.{limit_in}
use Rattle.host_start.specs.declared.error.Limit.{Limit}
use Rattle.host_start.specs.declared.error.Limit.TheVariants as limit
use Rattle.host_start.specs.declared.error.StartError.{StartError}
use Rattle.host_start.specs.declared.error.StartError.TheVariants as error
use Rattle.script_model.specs.Limit.{limit_of}
use Rattle.script_model.specs.Planned.{can_be_said}
use Rattle.script_model.specs.Plans.{PlannedSession, plans_of}
use Rattle.script_model.specs.Script.{script_of}
use Rattle.script_model.specs.declared.cause.ScriptCause.{ScriptCause}
use Rattle.script_model.specs.declared.limit.Limit.{Limit as ScriptLimit}
use Rattle.script_model.specs.declared.parse_error.ParseError.{ParseError}
use Rattle.script_model.specs.declared.parse_error.ParseError.TheVariants.{Bad}
use Rattle.script_model.specs.declared.script.Script.{Script}

-- ---- the text

-- the bytes are few enough for a script
abbrev pub IsShortEnough : List ℕ → Type 0
IsShortEnough text = length text ≤ 1048576

-- the text is this script, which passes no limit with blocks of this size
pub record IsWithinLimits (size : ℕ) (text : List ℕ) (plans : List PlannedSession) : Type 0 where
  pub short : IsShortEnough text
  pub meant : script_of text ≡ Ok plans
  pub fits : limit_of size plans ≡ None

-- a text can say the script, and it passes no limit with blocks of this size
pub record IsFit (size : ℕ) (plans : List PlannedSession) : Type 0 where
  pub said : can_be_said plans ≡ true
  pub limits : limit_of size plans ≡ None

-- this is the first bad line of the text, with the first cause in it
pub record IsBadAt (text : List ℕ) (line : ℕ) (cause : ScriptCause) : Type 0 where
  pub short : IsShortEnough text
  pub is : script_of text ≡ Err (Bad line cause)

-- this is the first limit that a script passes
pub record IsPast (size : ℕ) (plans : List PlannedSession) (what : Limit) : Type 0 where
  pub passed : ScriptLimit
  pub is : limit_of size plans ≡ Some passed
  pub named : what ≡ limit_in passed

-- the text is a script, and this is the first limit that it passes
pub record IsTextPast (size : ℕ) (text : List ℕ) (what : Limit) : Type 0 where
  pub short : IsShortEnough text
  pub plans : List PlannedSession
  pub meant : script_of text ≡ Ok plans
  pub past : IsPast size plans what

-- ---- the source

-- what was left begins with these bytes, which were taken
abbrev pub TakesText : List ℕ → List ℕ → List ℕ → Type 0
TakesText left new_left taken = left ≡ taken ++ new_left

-- more bytes were taken than a script may have
abbrev pub IsTooLong : List ℕ → List ℕ → Type 0
IsTooLong left new_left =
    (taken : List ℕ) × (1048577 ≤ length taken) × TakesText left new_left taken

-- the source was read to its end, and this holds of what was left
pub record IsReadAs (holds : List ℕ → Type 0) (left new_left : List ℕ) : Type 0 where
  pub end : new_left ≡ []
  pub is : holds left

-- what a refusal says of the text; a failure of the source and want of memory say nothing
abbrev pub SaysOfScript : ℕ → List ℕ → List ℕ → StartError → Type 0
SaysOfScript size left new_left (error.BadScript line cause) =
    IsReadAs (λ text. IsBadAt text line cause) left new_left
SaysOfScript size left new_left (error.TooLarge limit.ScriptBytes) = IsTooLong left new_left
SaysOfScript size left new_left (error.TooLarge what) =
    IsReadAs (λ text. IsTextPast size text what) left new_left
SaysOfScript size left new_left _ = Unit {0}

-- what reading a script gives: it, within its limits, or why there is none
abbrev pub GivesScript : ℕ → List ℕ → List ℕ → Result Script StartError → Type 0
GivesScript size left new_left (Ok script) =
    IsReadAs (λ text. IsWithinLimits size text (plans_of script)) left new_left
GivesScript size left new_left (Err e) = SaysOfScript size left new_left e

-- ---- the steps

-- n bytes were taken and added to a text; none are the end
pub record TakesMore (left new_left old new : List ℕ) (n : ℕ) : Type 0 where
  pub taken : List ℕ
  pub count : length taken ≡ n
  pub from : TakesText left new_left taken
  pub into : new ≡ old ++ taken
  pub end : n ≡ 0 → new_left ≡ []

-- all of a text was taken, which isn't too long
pub record IsTaken (left new_left text : List ℕ) : Type 0 where
  pub all : left ≡ text
  pub end : new_left ≡ []
  pub short : IsShortEnough text

-- taking the bytes of a script
abbrev pub GivesText : List ℕ → List ℕ → Result (Vec ℕ Global) StartError → Type 0
GivesText left new_left (Ok text) = IsTaken left new_left text.items
GivesText left new_left (Err (error.TooLarge limit.ScriptBytes)) = IsTooLong left new_left
GivesText left new_left (Err error.Source) = Unit {0}
GivesText left new_left (Err error.Oom) = Unit {0}
GivesText left new_left (Err _) = ⊥

-- testing the limits of a script
abbrev pub Judges : ℕ → Script → Result Script StartError → Type 0
Judges size script (Ok judged) = (judged ≡ script) × (limit_of size (plans_of script) ≡ None)
Judges size script (Err (error.TooLarge what)) = IsPast size (plans_of script) what
Judges size script (Err _) = ⊥

-- a script within its limits, of what a text means
abbrev pub Means : ℕ → Result (List PlannedSession) ParseError → Result Script StartError → Type 0
Means size meant (Ok script) =
    (meant ≡ Ok (plans_of script)) × (limit_of size (plans_of script) ≡ None)
Means size meant (Err (error.BadScript line cause)) = meant ≡ Err (Bad line cause)
Means size meant (Err (error.TooLarge what)) =
    (plans : List PlannedSession) × (meant ≡ Ok plans) × IsPast size plans what
Means size meant (Err error.Oom) = Unit {0}
Means size meant (Err _) = ⊥

-- a generated script within its limits
abbrev pub Makes : ℕ → List PlannedSession → Result Script StartError → Type 0
Makes size plans (Ok script) = (plans_of script ≡ plans) × (limit_of size plans ≡ None)
Makes size plans (Err (error.TooLarge what)) = IsPast size plans what
Makes size plans (Err error.Oom) = Unit {0}
Makes size plans (Err _) = ⊥
