-- The words of a line that stand for numbers, and the two that put a record into its group.
use Rattle.std.specs.Prelude.{ℕ, ◌+◌, Bool, ◌==◌, ◌||◌, if◌then◌else◌, List, [], length, get_or}
use Rattle.std.specs.Prelude.{codes, Result, Ok, Err}
use Rattle.std.specs.Str.{bytes_eq}
use Rattle.script_model.specs.declared.cause.ScriptCause.{ScriptCause}
use Rattle.script_model.specs.declared.cause.ScriptCause.TheVariants.{WrongCount}
use Rattle.script_model.specs.Numbers.{number}
use Rattle.script_model.specs.Steps.{holds}

-- the word of that number
abbrev pub word : List (List ℕ) → ℕ → List ℕ
word ws i = get_or ws i []

abbrev pub is_word : List (List ℕ) → ℕ → List ℕ → Bool
is_word ws i w = bytes_eq (word ws i) w

-- a line of n words
unfoldable pub has_count : ℕ → List (List ℕ) → Result (Unit {0}) ScriptCause
has_count n ws = holds (length ws == n) WrongCount

-- ---- numbers in the ranges of their places

abbrev pub u16_at : List (List ℕ) → ℕ → Result ℕ ScriptCause
u16_at ws i = number 0 0xffff (word ws i)

abbrev pub u32_at : List (List ℕ) → ℕ → Result ℕ ScriptCause
u32_at ws i = number 0 0xffff_ffff (word ws i)

abbrev pub u64_at : List (List ℕ) → ℕ → Result ℕ ScriptCause
u64_at ws i = number 0 0xffff_ffff_ffff_ffff (word ws i)

abbrev pub count_at : List (List ℕ) → ℕ → Result ℕ ScriptCause
count_at ws i = number 1 4096 (word ws i)

-- ---- groups

-- Of a line of n words, what the two further words that put its record into a group add to the
-- command: nothing without them.
unfoldable pub group_bits : ℕ → List (List ℕ) → Result ℕ ScriptCause
group_bits n ws =
    if length ws == n then Ok 0
    else if length ws == n + 2 then
    (if is_word ws n (codes "member") then Ok 0x800
    else if is_word ws n (codes "last") then Ok 0xc00
    else Err WrongCount)
    else Err WrongCount

-- the group's number, 0 without a group
unfoldable pub group_number : ℕ → List (List ℕ) → Result ℕ ScriptCause
group_number n ws = if length ws == n then Ok 0 else number 0 7 (word ws (n + 1))

-- ---- forced writes

-- the words of a write before those of its group: seven where it is forced, as a line of seven or
-- nine words is
abbrev pub write_count : List (List ℕ) → ℕ
write_count ws = if length ws == 7 || length ws == 9 then 7 else 6

-- what the word `force` adds to the command
unfoldable pub force_bit : List (List ℕ) → Result ℕ ScriptCause
force_bit ws =
    if write_count ws == 7 then
    (if is_word ws 6 (codes "force") then Ok 0x1000 else Err WrongCount)
    else Ok 0
