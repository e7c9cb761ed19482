-- Which calls of an object in memory fail.
use Rattle.std.specs.Prelude.{ℕ, Bool, ◌==◌, ◌&&◌, if◌then◌else◌, List, [], ◌∷◌, Option, Some, None}
use Rattle.host_io.specs.declared.fails.CallKind.{CallKind}
use Rattle.host_io.specs.declared.fails.CallKind.TheVariants.{Attach, Read, Write, Sync}
use Rattle.host_io.specs.declared.fails.FailAt.{FailAt}

-- a number for each kind
abbrev pub kind_number : CallKind → ℕ
kind_number Attach = 0
kind_number Read = 1
kind_number Write = 2
kind_number Sync = 3

-- whether this entry of the list is of the call of this kind and number
abbrev pub names_call : FailAt → CallKind → ℕ → Bool
names_call f kind nr = (kind_number f.kind == kind_number kind) && (f.nr == nr)

-- how much is done of a call, where the list names it as one that fails; of several entries the
-- first counts
abbrev pub part_listed : List FailAt → CallKind → ℕ → Option ℕ
part_listed [] kind nr = None
part_listed (f ∷ fs) kind nr = if names_call f kind nr then Some f.part else part_listed fs kind nr
