-- What a history tells once an entry was added.
use Rattle.std.proofs.Common.{◌≡◌, ℕ, suc, ◌+◌, ◌≤◌, ◌==◌, true, false, not, List, [], ◌∷◌, ◌++◌, length, filter_map, Option, Some, None, refl, ap, ◌∙◌, arith}
use Rattle.std.specs.List.{list_any, cons_option}
use Rattle.std.proofs.lemmas.List.Folds.{list_any-append}
use Rattle.host_model.specs.{count}
use Rattle.host_rings.specs.{Slip}
use Rattle.host_intake.specs.{IntakeEntry, Took, Landed, Passed, Turned, Landing, takings, landings, is_landing_of, is_open, turns, kept_by, is_passed}
use Rattle.host_intake.proofs.Counting.{but_for}
use Rattle.host_log.proofs.Bools.{not_or}

-- ---- how many entries there are

-- the entries of each kind, added up
pub parts_of : (es : List IntakeEntry) → length es ≡ length (takings es) + length (landings es) + count is_passed es + length (turns es)
parts_of [] = refl
parts_of (Took hand envelope verdict waits seen ∷ es) = let h = parts_of es in omega arith
parts_of (Landed hand index end answer kept ∷ es) = let h = parts_of es in omega arith
parts_of (Passed hand ∷ es) = let h = parts_of es in omega arith
parts_of (Turned hand phase ∷ es) = let h = parts_of es in omega arith

option_few : (o : Option Slip) (l : List Slip) (n : ℕ) → length l ≤ n → length (cons_option o l) ≤ suc n
option_few None l n h = omega arith
option_few (Some x) l n h = omega arith

-- an answer is kept where a record ended
pub kept_few : (es : List IntakeEntry) → length (filter_map kept_by es) ≤ length (landings es)
kept_few [] = omega arith
kept_few (Took hand envelope verdict waits seen ∷ es) = kept_few es
kept_few (Landed hand index end answer true ∷ es) = option_few answer (filter_map kept_by es) (length (landings es)) (kept_few es)
kept_few (Landed hand index end answer false ∷ es) = let h = kept_few es in omega arith
kept_few (Passed hand ∷ es) = kept_few es
kept_few (Turned hand phase ∷ es) = kept_few es

-- ---- the records that ended

-- a record that ended isn't open any more
pub open_landed : (ls : List Landing) (l : Landing) (i : ℕ) → is_open (ls ++ l ∷ []) i ≡ but_for l.index (is_open ls) i
open_landed ls l i = ap not (list_any-append (is_landing_of i) ls (l ∷ [])) ∙ not_or (list_any (is_landing_of i) ls) (l.index == i)
