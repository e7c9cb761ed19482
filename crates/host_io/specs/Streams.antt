-- What the calls of a source and a sink give.
use Rattle.std.specs.Prelude.{◌≡◌, ℕ, ◌<◌, ◌≤◌, Bool, IsTrue, List, [], ◌++◌, length, take, Result}
use Rattle.std.specs.Prelude.{OnErr, IfOk}

abbrev pub TakesAtMost : {E : Type 0} → List ℕ → Result ℕ E → Type 0
TakesAtMost into result = IfOk result (λ n. n ≤ length into)

-- where the source tells, `into` begins with the next n bytes, which are left no more; none come
-- only where nothing is left or wanted
pub record Takes {E : Type 0} (tells : Bool) (left new_left into : List ℕ) (result : Result ℕ E)
    : Type 0 where
  pub bytes : IsTrue tells → IfOk result (λ n. left ≡ take n into ++ new_left)
  pub end : IsTrue tells → IfOk result (λ n. n ≡ 0 → 0 < length into → left ≡ [])

pub record PutsSome {E : Type 0} (from : List ℕ) (result : Result ℕ E) : Type 0 where
  pub most : IfOk result (λ n. n ≤ length from)
  pub least : IfOk result (λ n. 0 < length from → 1 ≤ n)

-- a sink that tells has the bytes that it took behind those from before, and none more after an
-- error
pub record Puts {E : Type 0} (tells : Bool) (appended new_appended from : List ℕ)
    (result : Result ℕ E) : Type 0 where
  pub ok : IsTrue tells → IfOk result (λ n. new_appended ≡ appended ++ take n from)
  pub err : IsTrue tells → OnErr result (new_appended ≡ appended)
