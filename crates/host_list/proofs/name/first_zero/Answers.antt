use Rattle.std.proofs.Common.{◌≡◌, ◌<◌, ◌≤◌, ℕ, true, false, List, length, get_or, sym, arith}
use Rattle.std.specs.Prelude.{◌==◌}
use Rattle.std.specs.List.{position_or_len}
use Rattle.std.proofs.lemmas.Bool.{eq-eqb}
use Rattle.std.proofs.lemmas.List.Sums.{position_or_len_is}
use Rattle.host_list.proofs.name.first_zero.Goals as goal

first : (name : List ℕ) (i : ℕ) → i ≤ length name → ((k : ℕ) → k < i → (get_or name k 0 == 0) ≡ false) → (i < length name → (get_or name i 0 == 0) ≡ true) → i ≡ position_or_len (λ u. u == 0) name
first name i le before here = sym (position_or_len_is (λ u. u == 0) name i 0 le before here)

pub returns-then-unit-eq0-clause-value : goal.returns-then-unit-eq0-clause-value
returns-then-unit-eq0-clause-value c = first c.args.name.now c.loop-index.index (omega arith) c.loop-index.invariant (λ lt. eq-eqb (get_or c.args.name.now c.loop-index.index 0) 0 c.if-unit-eq0.true)

pub returns-clause-value : goal.returns-clause-value
returns-clause-value c = first c.args.name.now (length c.args.name.now) (omega arith) (λ k lt. c.loop-index.invariant k (omega arith)) (λ lt. absurd (omega arith))
