-- What the blocks of a range have depends on the changes of the range alone.
use Rattle.std.proofs.Common.{◌≡◌, ℕ, ◌==◌, Bool, true, false, cond, List, [], ◌∷◌, length, refl, sym, ap, ◌∙◌, arith}
use Rattle.std.proofs.Math.Bool.{and-false}
use Rattle.std.specs.Prelude.{not, ◌&&◌, if◌then◌else◌}
use Rattle.std.proofs.lemmas.Bool.{eqb-true}
use Rattle.std.proofs.lemmas.List.{take_all}
use Rattle.host_block.specs.declared.range.Range.{Range}
use Rattle.host_block.specs.{Change, changed, changes_block, content, put_by, puts_bytes, block_at}
use Rattle.host_worker.specs.{ContentIsOfOwnEntries, inside, is_in_range}

-- a change of a block outside doesn't touch one inside
untouched : (range : Range) (c : Change) (b : ℕ) → is_in_range range b ≡ true → is_in_range range c.block ≡ false → changes_block c b ≡ false
untouched range c b here there = ap (λ (w : Bool). not c.faulted && puts_bytes c.op && w) (other (c.block == b) refl) ∙ and-false (not c.faulted && puts_bytes c.op)
  where
    other : (w : Bool) → (c.block == b) ≡ w → w ≡ false
    other true e = absurd (cc (sym there ∙ (ap (λ (n : ℕ). is_in_range range n) (eqb-true c.block b e) ∙ here)))
    other false e = refl

changed_inside : (size : ℕ) (range : Range) (cs : List Change) (b : ℕ) (bytes : List ℕ) → is_in_range range b ≡ true → changed size cs b bytes ≡ changed size (inside range cs) b bytes
changed_inside size range [] b bytes here = refl
changed_inside size range (c ∷ cs) b bytes here = step (is_in_range range c.block) refl (λ x. changed_inside size range cs b x here)
  where
    step : (v : Bool) → is_in_range range c.block ≡ v → ((x : List ℕ) → changed size cs b x ≡ changed size (inside range cs) b x) → changed size (c ∷ cs) b bytes ≡ changed size (cond v (c ∷ inside range cs) (inside range cs)) b bytes
    step true e rest = rest (if changes_block c b then put_by size c.op c.bytes else bytes)
    step false e rest = ap (λ (w : Bool). changed size cs b (if w then put_by size c.op c.bytes else bytes)) (untouched range c b here e) ∙ rest bytes

whole : (image : List (List ℕ)) (history : List Change) (b : ℕ) → content image history (length history) b ≡ changed (length (block_at image b)) history b (block_at image b)
whole image history b = ap (λ (l : List Change). changed (length (block_at image b)) l b (block_at image b)) (take_all (length history) history (omega arith))

pub content_is_of_own : ContentIsOfOwnEntries
content_is_of_own image history range b here =
    whole image history b
    ∙ (changed_inside (length (block_at image b)) range history b (block_at image b) here
    ∙ sym (whole image (inside range history) b))
