-- The lines of a run that is refused before its session begins.
use Rattle.std.specs.Prelude.{ℕ, List, [], ◌∷◌, ◌++◌, codes, decimal}
use Rattle.host_start.specs.declared.error.Limit.{Limit}
use Rattle.host_start.specs.declared.error.Limit.TheVariants as limit
use Rattle.host_start.specs.declared.error.StartError.{StartError}
use Rattle.host_start.specs.declared.error.StartError.TheVariants as error
use Rattle.host_run.specs.declared.refusal.Refusal.{Refusal}
use Rattle.host_run.specs.declared.refusal.Refusal.TheVariants as refusal
use Rattle.host_run.specs.declared.status.RunStatus.{RunStatus}
use Rattle.host_run.specs.declared.status.RunStatus.TheVariants as status
use Rattle.host_text.specs.Words.{line}
use Rattle.script_model.specs.Causes.{cause_word}

-- the status of a run that has no start
abbrev pub start_status : StartError → RunStatus
start_status error.Source = status.ScriptFault
start_status (error.BadScript n cause) = status.BadScript n cause
start_status (error.TooLarge what) = status.TooLarge what
start_status error.Disk = status.DiskFault
start_status error.NoTable = status.NoTable
start_status (error.NoPart session part) = status.NoPart session part
start_status error.Oom = status.OutOfMemory

-- the status that the run ends with
abbrev pub refused_status : Refusal → RunStatus
refused_status refusal.Words = status.BadWords
refused_status (refusal.NoStart e) = start_status e

-- the word of a limit
abbrev pub limit_word : Limit → List ℕ
limit_word limit.ScriptBytes = codes "script"
limit_word limit.Sessions = codes "sessions"
limit_word limit.Records = codes "records"
limit_word limit.Moved = codes "moved"
limit_word limit.Blocks = codes "blocks"
limit_word limit.Table = codes "table"

-- the line of a status, with its line feed; none where a run with this status isn't refused
abbrev pub refusal_line : RunStatus → List ℕ
refusal_line status.BadWords = codes "refused 2 words\n"
refusal_line status.NoTable = codes "refused 3 no table\n"
refusal_line (status.BadScript n cause) =
    line (codes "refused" ∷ codes "4" ∷ codes "line" ∷ decimal n ∷ cause_word cause ∷ [])
refusal_line status.DiskFault = codes "refused 5 disk\n"
refusal_line status.ScriptFault = codes "refused 6 script unread\n"
refusal_line status.OutOfMemory = codes "refused 8 memory\n"
refusal_line (status.TooLarge what) = codes "refused 9 " ++ (limit_word what ++ codes "\n")
refusal_line (status.NoPart session part) =
    line (codes "refused" ∷ codes "10" ∷ codes "session" ∷ decimal session ∷ codes "part"
    ∷ decimal part ∷ [])
refusal_line _ = []
