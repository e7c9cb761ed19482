-- Which refusals come from which stage.
use Rattle.host_gpt.specs.declared.table_error.TableError.{TableError}
use Rattle.host_gpt.specs.declared.table_error.TableError.TheVariants as table
use Rattle.host_io.specs.declared.disk.DiskError.{DiskError}
use Rattle.host_io.specs.declared.disk.DiskError.TheVariants as disk
use Rattle.host_start.specs.declared.error.Limit.{Limit}
use Rattle.host_start.specs.declared.error.Limit.TheVariants as limit
use Rattle.host_start.specs.declared.error.StartError.{StartError}
use Rattle.host_start.specs.declared.error.StartError.TheVariants as error
use Rattle.script_model.specs.declared.limit.Limit.{Limit as ScriptLimit}
use Rattle.script_model.specs.declared.limit.Limit.TheVariants as script

-- a limit of the script language
abbrev pub limit_in : ScriptLimit → Limit
limit_in script.Sessions = limit.Sessions
limit_in script.Records = limit.Records
limit_in script.Moved = limit.Moved

abbrev pub of_disk_error : DiskError → StartError
of_disk_error disk.Failed = error.Disk
of_disk_error disk.Oom = error.Oom

abbrev pub of_table_error : TableError → StartError
of_table_error table.NoTable = error.NoTable
of_table_error table.Disk = error.Disk
of_table_error table.TooLarge = error.TooLarge limit.Table
of_table_error table.Oom = error.Oom

abbrev pub IsScriptLimit : Limit → Type 0
IsScriptLimit limit.ScriptBytes = Unit {0}
IsScriptLimit limit.Sessions = Unit {0}
IsScriptLimit limit.Records = Unit {0}
IsScriptLimit limit.Moved = Unit {0}
IsScriptLimit limit.Blocks = ⊥
IsScriptLimit limit.Table = ⊥

-- refusals while the source is read
abbrev pub IsOfSource : StartError → Type 0
IsOfSource error.Source = Unit {0}
IsOfSource error.Oom = Unit {0}
IsOfSource _ = ⊥

-- refusals of the script
abbrev pub IsOfScript : StartError → Type 0
IsOfScript error.Source = Unit {0}
IsOfScript (error.BadScript line cause) = Unit {0}
IsOfScript (error.TooLarge what) = IsScriptLimit what
IsOfScript error.Oom = Unit {0}
IsOfScript _ = ⊥

-- refusals of the image, before its table is read
abbrev pub IsImageError : StartError → Type 0
IsImageError error.Disk = Unit {0}
IsImageError (error.TooLarge limit.Blocks) = Unit {0}
IsImageError error.Oom = Unit {0}
IsImageError _ = ⊥

-- what is told of a table that was read, or of a partition that it doesn't serve
abbrev pub IsOfContent : StartError → Type 0
IsOfContent error.NoTable = Unit {0}
IsOfContent (error.TooLarge limit.Table) = Unit {0}
IsOfContent (error.NoPart session part) = Unit {0}
IsOfContent _ = ⊥

-- refusals that come only where the image was attached
abbrev pub IsAfterAttach : StartError → Type 0
IsAfterAttach (error.TooLarge limit.Blocks) = Unit {0}
IsAfterAttach e = IsOfContent e

-- refusals of the table and of the partitions
abbrev pub IsOfTable : StartError → Type 0
IsOfTable error.Disk = Unit {0}
IsOfTable error.Oom = Unit {0}
IsOfTable e = IsOfContent e

-- refusals after the script
abbrev pub IsAfterScript : StartError → Type 0
IsAfterScript error.Source = ⊥
IsAfterScript (error.BadScript line cause) = ⊥
IsAfterScript (error.TooLarge limit.Blocks) = Unit {0}
IsAfterScript (error.TooLarge limit.Table) = Unit {0}
IsAfterScript (error.TooLarge _) = ⊥
IsAfterScript error.Disk = Unit {0}
IsAfterScript error.NoTable = Unit {0}
IsAfterScript (error.NoPart session part) = Unit {0}
IsAfterScript error.Oom = Unit {0}
