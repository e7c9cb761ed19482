-- The entries that an array has are used ones, and their numbers rise.
use Rattle.std.proofs.Common.{◌≡◌, ℕ, zero, suc, ◌+◌, ◌≤◌, List, [], ◌∷◌, ◌++◌, take, drop, refl, sym, subst, arith, Bool, true, false, IsTrue}
use Rattle.std.specs.Prelude.{All, map, not}
use Rattle.std.specs.List.Sorted.{IsStrictlyIncreasing}
use Rattle.std.proofs.lemmas.List.Elements.{All-nil, All-cons}
use Rattle.host_gpt.proofs.EntryLemmas.{used_one, used_none}
use Rattle.host_gpt.specs.{AreUsed, entries_from, is_used, is_zero, used, Entry}

-- used entries with rising numbers, none below this one
Rises : ℕ → List Entry → Type 0
Rises low [] = Unit {0}
Rises low (e ∷ es) = (low ≤ e.number) × (IsTrue (not (is_zero e.type_id)) × Rises (e.number + 1) es)

lower : (low from : ℕ) (es : List Entry) → low ≤ from → Rises from es → Rises low es
unfolding Rises
lower low from [] h r = tt
lower low from (e ∷ es) h r = (omega (arith, h, r.0), (r.1.0, r.1.1))

rises : (number size n : ℕ) (array : List ℕ) → Rises number (entries_from number size n array)
unfolding Rises entries_from
rises number size zero array = tt
rises number size (suc n) array = choose (is_used (take size array)) refl (rises (number + 1) size n (drop size array))
  where
    choose : (b : Bool) → is_used (take size array) ≡ b → Rises (number + 1) (entries_from (number + 1) size n (drop size array))
        → Rises number (used number (take size array) ++ entries_from (number + 1) size n (drop size array))
    choose true is rest = subst (λ (es : List Entry). Rises number (es ++ entries_from (number + 1) size n (drop size array))) (sym (used_one number (take size array) is)) (omega arith, (is, rest))
    choose false is rest = subst (λ (es : List Entry). Rises number (es ++ entries_from (number + 1) size n (drop size array))) (sym (used_none number (take size array) is)) (lower number (number + 1) (entries_from (number + 1) size n (drop size array)) (omega arith) rest)

all_used : (low : ℕ) (es : List Entry) → Rises low es → All (λ (e : Entry). IsTrue (not (is_zero e.type_id))) es
unfolding Rises
all_used low [] r = All-nil (λ (e : Entry). IsTrue (not (is_zero e.type_id)))
all_used low (e ∷ es) r = All-cons (λ (e : Entry). IsTrue (not (is_zero e.type_id))) e es r.1.0 (all_used (e.number + 1) es r.1.1)

increasing : (low : ℕ) (es : List Entry) → Rises low es → IsStrictlyIncreasing (map (λ (e : Entry). e.number) es)
unfolding Rises
increasing low [] r k h = absurd (omega arith)
increasing low (e ∷ []) r k h = absurd (omega arith)
increasing low (e ∷ f ∷ es) r zero h = omega (arith, r.1.1.0)
increasing low (e ∷ f ∷ es) r (suc k) h =
    let next : suc k + 1 ≡ suc (k + 1) = omega arith in
    rw next (increasing (e.number + 1) (f ∷ es) r.1.1 k (omega (arith, h)))

-- the entries of an array are used ones, by rising number
pub are_used : (number size n : ℕ) (array : List ℕ) (entries : List Entry) → entries ≡ entries_from number size n array → AreUsed entries
are_used number size n array entries is =
    let all = rises number size n array in
    subst (λ (es : List Entry). AreUsed es) (sym is) (record {
      used = all_used number (entries_from number size n array) all;
      rising = increasing number (entries_from number size n array) all;
    })
