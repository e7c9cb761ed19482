-- The scripts that a text can say.
use Rattle.std.specs.Prelude.{ℕ, Bool, true, ◌==◌, ◌&&◌, nat_le, nat_lt, List, [], ◌∷◌, ◌++◌}
use Rattle.std.specs.Prelude.{length}
use Rattle.std.specs.List.{list_all}
use Rattle.script_model.specs.declared.script.ScriptLine.{ScriptLine}
use Rattle.script_model.specs.declared.script.ScriptLine.TheVariants.{Attach, Fill, Show, Send}
use Rattle.script_model.specs.declared.script.ScriptLine.TheVariants.{WaitAll, WaitFor}
use Rattle.script_model.specs.Plans.{PlannedSession}
use Rattle.script_model.specs.Owed.{owed}

abbrev pub is_between : ℕ → ℕ → ℕ → Bool
is_between low high n = nat_le low n && nat_le n high

abbrev pub is_record_bytes : List ℕ → Bool
is_record_bytes bytes = length bytes == 32 && list_all (λ b. nat_lt b 256) bytes

-- whether a line can be said where so many answers are owed
abbrev pub fits_line : ℕ → ScriptLine → Bool
fits_line answers (Attach pages) = is_between 1 4096 pages
fits_line answers (Fill id block count byte) =
    is_between 0 65535 id
    && (is_between 0 65535 block && (is_between 1 4096 count && nat_lt byte 256))
fits_line answers (Show id block count) =
    is_between 0 65535 id && (is_between 0 65535 block && is_between 1 4096 count)
fits_line answers (Send bytes) = is_record_bytes bytes
fits_line answers WaitAll = true
fits_line answers (WaitFor total) = is_between 1 4294967295 total && nat_le total answers

abbrev pub fits_lines : List ScriptLine → List ScriptLine → Bool
fits_lines before [] = true
fits_lines before (line ∷ lines) =
    fits_line (owed before) line && fits_lines (before ++ line ∷ []) lines

abbrev pub fits_plan : PlannedSession → Bool
fits_plan s = is_between 1 1024 s.part && fits_lines [] s.lines

abbrev pub can_be_said : List PlannedSession → Bool
can_be_said plans = list_all fits_plan plans
