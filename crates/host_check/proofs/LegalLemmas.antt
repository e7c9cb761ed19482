-- A history is legal where its tests hold.
use Rattle.std.proofs.Common.{◌≡◌, ◌↔◌, ℕ, ◌+◌, ◌<◌, Bool, true, false, not, ◌&&◌, IsTrue, List, [], length, take, replicate, Some, slice_get, get_or, sym, ap, ◌∙◌, subst, arith}
use Rattle.std.proofs.lemmas.List.{get_or-map, length-map, length-replicate, take-map}
use Rattle.std.proofs.lemmas.Option.{slice_get-get_or, slice_get_within}
use Rattle.std.proofs.lemmas.Slice.Eq.{bytes_eq-Decides}
use Rattle.std.specs.List.{list_all}
use Rattle.std.specs.Option.{option_map_or}
use Rattle.host_block.specs.{Flush, Change, IsLegal, content, is_read}
use Rattle.host_model.specs.{Step, change_of, changes_of, below}
use Rattle.host_model.proofs.ListTests.{implied, implies-from, tested_below}
use Rattle.host_check.specs.{reads_after, reads_content}
use Rattle.record_check.proofs.GroupLemmas.{all_below-from, below_step}

pub zeros_are : (n : ℕ) (zeros : List ℕ) → zeros ≡ replicate n 0 → zeros ≡ replicate (length zeros) 0
zeros_are n zeros e = e ∙ ap (λ k. replicate k 0) (sym (ap length e ∙ length-replicate n 0))

pub zeros_length : (n : ℕ) (zeros : List ℕ) → zeros ≡ replicate n 0 → length zeros ≡ n
zeros_length n zeros e = ap length e ∙ length-replicate n 0

-- the change at a place is that of the step there
found : (steps : List Step) (p : ℕ) (step : Step) → p < length steps → step ≡ get_or steps p step → slice_get (changes_of steps) p ≡ Some (change_of step)
found steps p step within at =
    slice_get-get_or (changes_of steps) p (change_of step) (omega (arith, within, length-map steps change_of))
    ∙ ap Some (get_or-map change_of steps p step (change_of step) within ∙ ap change_of (sym at))

pub legal_step : (image : List (List ℕ)) (steps : List Step) (p : ℕ) (step : Step) (all here : Bool) → p < length steps → step ≡ get_or steps p step
    → all ≡ list_all (reads_content image (changes_of steps)) (below p) → here ≡ reads_after image (changes_of (take p steps)) (change_of step)
    → all && here ≡ list_all (reads_content image (changes_of steps)) (below (p + 1))
legal_step image steps p step all here within at e h =
    below_step (reads_content image (changes_of steps)) p all here e
    (
    h
    ∙ ap (λ before. reads_after image before (change_of step)) (sym (take-map change_of p steps))
    ∙ ap (λ o. option_map_or (reads_after image (take p (changes_of steps))) o true) (sym (found steps p step within at))
    )

none : Change
none = record { op = Flush; block = 0; bytes = []; faulted = false }

legal-to : (image : List (List ℕ)) (history : List Change) → list_all (reads_content image history) (below (length history)) ≡ true → IsLegal image history
legal-to image history t p c at good =
    let within : p < length history = slice_get_within history p c at in
    let here : IsTrue (reads_content image history p) = tested_below (reads_content image history) (length history) t p within in
    let same : IsTrue (reads_after image (take p history) c) = subst (λ o. IsTrue (option_map_or (reads_after image (take p history)) o true)) at here in
    (bytes_eq-Decides c.bytes (content image history p c.block)).0 (implied (is_read c.op && not c.faulted) _ same good)

legal-from : (image : List (List ℕ)) (history : List Change) → IsLegal image history → list_all (reads_content image history) (below (length history)) ≡ true
legal-from image history h = all_below-from (reads_content image history) (length history) (λ p within.
    let c : Change = get_or history p none in
    let at : slice_get history p ≡ Some c = slice_get-get_or history p none within in
    subst (λ o. IsTrue (option_map_or (reads_after image (take p history)) o true)) (sym at)
    (implies-from (is_read c.op && not c.faulted) _ (λ good. (bytes_eq-Decides c.bytes (content image history p c.block)).1 (h p c at good))))

pub legal_is : (image : List (List ℕ)) (steps : List Step) → IsTrue (list_all (reads_content image (changes_of steps)) (below (length steps))) ↔ IsLegal image (changes_of steps)
legal_is image steps =
    let e : length (changes_of steps) ≡ length steps = length-map steps change_of in
    subst (λ n. IsTrue (list_all (reads_content image (changes_of steps)) (below n)) ↔ IsLegal image (changes_of steps)) e
    (legal-to image (changes_of steps), legal-from image (changes_of steps))
