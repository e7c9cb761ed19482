-- What the words of a call ask for.
use Rattle.std.specs.Borrow.{Bor}
use Rattle.std.specs.Prelude.{◌≡◌, ◌≤◌, ℕ, Bool, true, false, List, map, Option, Some, None}
use Rattle.std.specs.Prelude.{unwrap_or, Result, Ok, Err}
use Rattle.host_report.specs.Summary.{summary_text}
use Rattle.host_report.specs.Text.{report_text}
use Rattle.host_report.specs.declared.report.Report.{Report}
use Rattle.host_run.specs.declared.mode.Mode.{Mode}
use Rattle.host_run.specs.declared.mode.Text.{Text}
use Rattle.host_run.specs.declared.mode.Text.TheVariants as text
use Rattle.host_words.specs.Commands.{Meaning, command_of, lists, load, make, meaning_of, run}
use Rattle.host_words.specs.declared.command.Command.{Command}
use Rattle.host_words.specs.declared.words_error.WordsError.{WordsError}
use Rattle.host_words.specs.declared.words_error.WordsError.TheVariants as error
use Rattle.script_model.specs.Generate.{generated}
use Rattle.script_model.specs.Plans.{PlannedSession}

-- the text of a report, or its summary
abbrev pub text_of : Text → Report → List ℕ
text_of (text.Report steps) report = report_text report steps
text_of text.Summary report = summary_text report

-- ---- what is asked for

-- what the words after the program's name mean
abbrev pub said_by : List (Bor (List ℕ)) → Option Meaning
said_by words = command_of (map (λ w. w.now) words)

-- the numbers of a script that is to be made
pub record Making : Type 0 where
  pub seed : ℕ
  pub sessions : ℕ
  pub requests : ℕ

-- the script that is made of them
abbrev pub plans_made : Making → List PlannedSession
plans_made making = generated making.seed making.sessions making.requests

-- A run: its image, the size of a block, workers beside the clients, elements of a ring, whether
-- the closing flush is left out and whether it is played on a copy, what is put of it, and the
-- script where that isn't read but made.
pub record Playing : Type 0 where
  pub name : List ℕ
  pub size : ℕ
  pub workers : ℕ
  pub depth : ℕ
  pub cut : Bool
  pub dry : Bool
  pub told : Text
  pub making : Option Making

-- a run on this image in this mode
abbrev pub playing_by : List ℕ → ℕ → Mode → Option Making → Playing
playing_by name size mode making = record {
  name = name;
  size = size;
  workers = mode.setting.workers;
  depth = mode.setting.depth;
  cut = mode.setting.cut;
  dry = mode.dry;
  told = mode.text;
  making = making;
}

-- the run that words of this meaning ask for
abbrev pub playing_in : Option Meaning → Option Playing
playing_in (Some (run name size workers depth dry cut steps)) = Some (record {
  name = name;
  size = size;
  workers = unwrap_or workers 2;
  depth = unwrap_or depth 128;
  cut = cut;
  dry = dry;
  told = text.Report steps;
  making = None;
})
playing_in (Some (load name seed sessions requests size workers depth)) = Some (record {
  name = name;
  size = size;
  workers = unwrap_or workers 2;
  depth = unwrap_or depth 128;
  cut = false;
  dry = true;
  told = text.Summary;
  making = Some (record { seed = seed; sessions = sessions; requests = requests });
})
playing_in _ = None

-- words of this meaning ask for a run on a script that is read
abbrev pub reads_script : Option Meaning → Bool
reads_script (Some (run name size workers depth dry cut steps)) = true
reads_script _ = false

-- words of this meaning ask for a run on the disk itself
abbrev pub plays_on_disk : Option Meaning → Bool
plays_on_disk (Some (run name size workers depth false cut steps)) = true
plays_on_disk _ = false

-- the image and the size of a block of a table that is to be listed
pub record TableOf : Type 0 where
  pub name : List ℕ
  pub size : ℕ

-- the table that words of this meaning ask for
abbrev pub listing_in : Option Meaning → Option TableOf
listing_in (Some (lists name size)) = Some (record { name = name; size = size })
listing_in _ = None

-- the text of a script that words of this meaning ask for
abbrev pub making_in : Option Meaning → Option Making
making_in (Some (make seed sessions requests)) =
    Some (record { seed = seed; sessions = sessions; requests = requests })
making_in _ = None

-- ---- numbers in their ranges

-- numbers of which a script can be made
pub record IsMakeable (seed sessions requests : ℕ) : Type 0 where
  pub few_seeds : seed ≤ 2147483647
  pub few_sessions : sessions ≤ 16
  pub few_requests : requests ≤ 2048

-- workers and elements of a ring
pub record IsCrew (workers depth : ℕ) : Type 0 where
  pub some_workers : (1 ≤ workers) × (workers ≤ 16)
  pub some_depth : (1 ≤ depth) × (depth ≤ 128)

-- the numbers of words of this meaning are in their ranges
abbrev pub HasNumbers : Meaning → Type 0
HasNumbers (run name size workers depth dry cut steps) =
    IsCrew (unwrap_or workers 2) (unwrap_or depth 128)
HasNumbers (lists name size) = Unit {0}
HasNumbers (make seed sessions requests) = IsMakeable seed sessions requests
HasNumbers (load name seed sessions requests size workers depth) =
    IsMakeable seed sessions requests × IsCrew (unwrap_or workers 2) (unwrap_or depth 128)

-- what reading words of this meaning gives
abbrev pub Asks : Option Meaning → Result Command WordsError → Type 0
Asks meaning (Ok command) = (meaning ≡ Some (meaning_of command)) × HasNumbers (meaning_of command)
Asks meaning (Err error.BadWords) = meaning ≡ None
Asks meaning (Err error.Oom) = Unit {0}
