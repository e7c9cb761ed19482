-- The number of answers owed, as lines are added.
use Rattle.std.proofs.Common.{◌≡◌, ℕ, suc, Bool, ◌+◌, ◌≤◌, true, false, cond, List, [], ◌∷◌, ◌++◌, length, ap, ◌∙◌, arith, length-append, add-zero}
use Rattle.std.specs.Prelude.{filter}
use Rattle.std.proofs.lemmas.List.Elements.{filter-append}
use Rattle.script_model.specs.{ScriptLine, owes, owed}

owed-append : (lines more : List ScriptLine) → owed (lines ++ more) ≡ owed lines + owed more
unfolding owed
owed-append lines more = ap length (filter-append owes lines more) ∙ length-append (filter owes lines) (filter owes more)

pub owed_with : (lines : List ScriptLine) (line : ScriptLine) → owes line ≡ true → owed (lines ++ line ∷ []) ≡ owed lines + 1
unfolding owed
owed_with lines line h =
    let one : length (filter owes (line ∷ [])) ≡ 1 = rw h in
    owed-append lines (line ∷ []) ∙ ap (λ n. owed lines + n) one

pub owed_without : (lines : List ScriptLine) (line : ScriptLine) → owes line ≡ false → owed (lines ++ line ∷ []) ≡ owed lines
unfolding owed
owed_without lines line h =
    let none : length (filter owes (line ∷ [])) ≡ 0 = rw h in
    owed-append lines (line ∷ []) ∙ ap (λ n. owed lines + n) none ∙ add-zero (owed lines)

kept_at_most : (b : Bool) (x : ScriptLine) (xs : List ScriptLine) (n : ℕ) → length xs ≤ n → length (cond b (x ∷ xs) xs) ≤ suc n
kept_at_most true x xs n h = omega arith
kept_at_most false x xs n h = omega arith

pub owed_at_most : (lines : List ScriptLine) → owed lines ≤ length lines
unfolding owed
owed_at_most [] = omega arith
owed_at_most (x ∷ xs) = kept_at_most (owes x) x (filter owes xs) (length xs) (owed_at_most xs)
