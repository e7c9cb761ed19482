-- What is known of a book's fixed part as a seat enters it.
use Rattle.std.proofs.Common.{◌≡◌, Option, Some, MatchOption, sym, subst, ◌∙◌}

-- what is known of an option's value holds of that value
pub plan_entered : {F : Type 0} (P : F → Type 0) (o r : Option F) (x : F) → MatchOption o ⊥ P → r ≡ o → r ≡ Some x → P x
plan_entered {F} P o r x m same is = subst (λ (y : Option F). MatchOption y ⊥ P) (sym same ∙ is) m
