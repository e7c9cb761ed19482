-- One prefix more.
use Rattle.std.proofs.Common.{◌≡◌, ℕ, ◌+◌, Bool, ◌&&◌, List, [], ◌∷◌, length, take, sym, ap, ◌∙◌}
use Rattle.std.proofs.Math.Bool.{and-true}
use Rattle.std.proofs.Math.Seq.{take-length}
use Rattle.std.proofs.lemmas.List.Folds.{list_all-append}
use Rattle.std.specs.List.{list_all}
use Rattle.host_model.specs.{below}
use Rattle.record_check.proofs.GroupLemmas.{below_more}

pub all_below_more : (test : ℕ → Bool) (n : ℕ) → list_all test (below (n + 1)) ≡ (list_all test (below n) && test n)
all_below_more test n = ap (list_all test) (below_more n) ∙ list_all-append test (below n) (n ∷ []) ∙ ap (λ b. list_all test (below n) && b) (and-true (test n))

-- the whole list is the last prefix
pub prefixes_end : {A : Type 0} (test : List A → Bool) (xs : List A) (n : ℕ) (all last : Bool) → n ≡ length xs
    → all ≡ list_all (λ k. test (take k xs)) (below n) → last ≡ test xs → all && last ≡ list_all (λ k. test (take k xs)) (below (length xs + 1))
prefixes_end test xs n all last e h l =
    ap (λ b. b && last) (h ∙ ap (λ m. list_all (λ k. test (take k xs)) (below m)) e)
    ∙ ap (λ b. list_all (λ k. test (take k xs)) (below (length xs)) && b) (l ∙ ap test (sym (take-length xs)))
    ∙ sym (all_below_more (λ k. test (take k xs)) (length xs))
