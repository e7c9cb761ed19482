-- Requests as more are sent: which record answers which.
use Rattle.std.proofs.Common.{◌≡◌, ◌⊎◌, inl, inr, ℕ, zero, suc, ◌+◌, ◌≤◌, ◌<◌, ◌==◌, Bool, true, false, not, ◌&&◌, ◌||◌, nat_lt, cond, List, [], ◌∷◌, ◌++◌, length, take, drop, Some, None, refl, sym, ap, ◌∙◌, arith, eq-eqb}
use Rattle.std.specs.List.{slice_get}
use Rattle.std.proofs.lemmas.Bool.{eqb-true, ltb-false, ltb-true}
use Rattle.std.proofs.lemmas.List.{take-append-drop, take-take}
use Rattle.host_record.specs.declared.request.Request.{Request}
use Rattle.host_model.specs.{answers_for, closings, is_closing, is_member, is_owing, same_instance, count, request_at}
use Rattle.session_law.proofs.Places.{take_one}
use Rattle.host_log.proofs.Places.{some_at}
use Rattle.session_law.proofs.Sums.{bit, count_both, count_one}
use Rattle.host_log.proofs.Bools.{and_parts, either_way, and_both}

-- ---- a record answers those before it

count_longer : {A : Type 0} (p : A → Bool) (xs : List A) (m n : ℕ) → m ≤ n → count p (take m xs) ≤ count p (take n xs)
count_longer p xs m n le =
    let whole : count p (take m (take n xs) ++ drop m (take n xs)) ≡ count p (take n xs) = ap (count p) (take-append-drop m (take n xs)) in
    let same : count p (take m (take n xs)) ≡ count p (take m xs) = ap (count p) (take-take m n xs le) in
    omega (arith, whole, same, count_both p (take m (take n xs)) (drop m (take n xs)))

pub count_next : {A : Type 0} (p : A → Bool) (xs : List A) (n : ℕ) (x : A) → slice_get xs n ≡ Some x → p x ≡ true → count p (take (suc n) xs) ≡ count p (take n xs) + 1
count_next p xs n x at is =
    let e : count p (take (suc n) xs) ≡ count p (take n xs ++ x ∷ []) = ap (count p) (take_one xs n x at) in
    let b : bit (p x) ≡ 1 = ap bit is in
    omega (arith, e, count_both p (take n xs) (x ∷ []), count_one p x [], b)

pub count_between : {A : Type 0} (p : A → Bool) (xs : List A) (m n : ℕ) (x : A) → slice_get xs m ≡ Some x → p x ≡ true → m < n → count p (take m xs) < count p (take n xs)
count_between p xs m n x at is lt = omega (arith, count_next p xs m x at is, count_longer p xs (suc m) n lt)

-- what an answering member's test says
pub record IsSameInstance (rs : List Request) (i k : ℕ) : Type 0 where
  pub closing : is_closing (request_at rs i) ≡ true
  pub member : is_member (request_at rs k) ≡ true
  pub group : (request_at rs i).group ≡ (request_at rs k).group
  pub instance : closings (request_at rs i).group (take i rs) ≡ closings (request_at rs k).group (take k rs)

pub answers_split : (rs : List Request) (i k : ℕ) → answers_for rs i k ≡ true → (is_member (request_at rs i) ≡ true) × IsSameInstance rs i k ⊎ (is_member (request_at rs i) ≡ false) × (i ≡ k)
answers_split rs i k e = step (is_member (request_at rs i)) (is_closing (request_at rs i)) (is_member (request_at rs k)) refl refl refl e
  where
    step : (b c d : Bool) → is_member (request_at rs i) ≡ b → is_closing (request_at rs i) ≡ c → is_member (request_at rs k) ≡ d
        → cond b (c && same_instance (cond b (Some ((request_at rs i).group, closings (request_at rs i).group (take i rs))) None) (cond d (Some ((request_at rs k).group, closings (request_at rs k).group (take k rs))) None)) (i == k) ≡ true
        → (b ≡ true) × IsSameInstance rs i k ⊎ (b ≡ false) × (i ≡ k)
    step false c d p q r f = inr (refl, eqb-true i k f)
    step true false d p q r f = absurd (cc)
    step true true false p q r f = absurd (cc)
    step true true true p q r f =
        let t = and_parts ((request_at rs i).group == (request_at rs k).group) (closings (request_at rs i).group (take i rs) == closings (request_at rs k).group (take k rs)) f in
        inl (
          refl,
          record {
            closing = q;
            member = r;
            group = eqb-true (request_at rs i).group (request_at rs k).group t.0;
            instance = eqb-true (closings (request_at rs i).group (take i rs)) (closings (request_at rs k).group (take k rs)) t.1;
          },
        )

pub owing_from : (rs : List Request) (i k : ℕ) → answers_for rs i k ≡ true → is_owing (request_at rs i) ≡ true
owing_from rs i k e = step (answers_split rs i k e)
  where
    step : (is_member (request_at rs i) ≡ true) × IsSameInstance rs i k ⊎ (is_member (request_at rs i) ≡ false) × (i ≡ k) → is_owing (request_at rs i) ≡ true
    step (inl s) = either_way (is_member (request_at rs i)) (is_closing (request_at rs i)) s.1.closing
    step (inr s) = ap (λ b. not b || is_closing (request_at rs i)) s.0

pub answers_earlier : (rs : List Request) (i k : ℕ) → i < length rs → answers_for rs i k ≡ true → k ≤ i
answers_earlier rs i k lt e = step (answers_split rs i k e)
  where
    test : ℕ → Request → Bool
    test g r = is_closing r && r.group == g

    later : IsSameInstance rs i k → i < k → ⊥
    later s more =
        let r : Request = request_at rs i in let g : ℕ = r.group in
        let at = some_at rs i lt in
        let here : at.0 ≡ request_at rs i = same_at rs i at.0 at.1 in
        let is : (is_closing at.0 && at.0.group == (request_at rs i).group) ≡ true =
        ap (λ (w : Request). is_closing w && w.group == (request_at rs i).group) here ∙ and_both (is_closing (request_at rs i)) ((request_at rs i).group == (request_at rs i).group) s.closing (eq-eqb (request_at rs i).group (request_at rs i).group refl) in
        let c = count_between (λ (w : Request). is_closing w && w.group == (request_at rs i).group) rs i k at.0 at.1 is more in
        let d : closings (request_at rs i).group (take i rs) ≡ closings (request_at rs i).group (take k rs) = s.instance ∙ ap (λ n. closings n (take k rs)) (sym s.group) in
        omega (arith, c, d)
      where
        same_at : (xs : List Request) (n : ℕ) (x : Request) → slice_get xs n ≡ Some x → x ≡ request_at xs n
        same_at [] zero x f = absurd (cc)
        same_at [] (suc n) x f = absurd (cc)
        same_at (y ∷ ys) zero x f = let q : y ≡ x = cc in sym q
        same_at (y ∷ ys) (suc n) x f = same_at ys n x f

    step : (is_member (request_at rs i) ≡ true) × IsSameInstance rs i k ⊎ (is_member (request_at rs i) ≡ false) × (i ≡ k) → k ≤ i
    step (inr s) = let q = s.1 in omega arith
    step (inl s) = at (nat_lt i k) refl
      where
        at : (b : Bool) → nat_lt i k ≡ b → k ≤ i
        at true f = absurd (later s.1 (ltb-true i k f))
        at false f = ltb-false i k f
