-- The words of one number, and the rows of one instance.
use Rattle.std.proofs.Common.{◌≡◌, ◌≢◌, ℕ, zero, suc, ◌+◌, ◌*◌, ◌≤◌, ◌<◌, List, [], ◌∷◌, length, get_or, set, sym, refl, ap, ◌∙◌, arith, eq-eqb, ne_eqb, eqb, cond}
use Rattle.std.specs.Prelude.{Bool, true, false}
use mathlib.Core.Logic.{dite}
use native.Mathlib.Decide.{ℕ_discrete}
use Rattle.host_group.specs.{Member, cell, where_in}

pub set_len : (l : List ℕ) (i x : ℕ) → length (set l i x) ≡ length l
set_len [] i x = refl
set_len (y ∷ l) zero x = refl
set_len (y ∷ l) (suc i) x = let e = set_len l i x in omega arith

pub word_here : (l : List ℕ) (i x : ℕ) → i < length l → get_or (set l i x) i 0 ≡ x
word_here [] i x h = absurd (omega arith)
word_here (y ∷ l) zero x h = refl
word_here (y ∷ l) (suc i) x h = word_here l i x (omega arith)

pub word_else : (l : List ℕ) (i j x : ℕ) → j ≢ i → get_or (set l i x) j 0 ≡ get_or l j 0
word_else [] i j x h = refl
word_else (y ∷ l) zero zero x h = absurd (h refl)
word_else (y ∷ l) zero (suc j) x h = refl
word_else (y ∷ l) (suc i) zero x h = refl
word_else (y ∷ l) (suc i) (suc j) x h = word_else l i j x (λ e. h (ap suc e))

module _ (ws : List ℕ) (g x : ℕ) where
  pub cell_else : (i h : ℕ) → 5 * g ≤ i → i ≤ 5 * g + 4 → h ≢ g → cell (set ws i x) h ≡ cell ws h
  cell_else i h lo hi ne = λ k. record {
    left = word_else ws i (5 * h) x (λ e. ne (omega arith)) k;
    error = word_else ws i (5 * h + 1) x (λ e. ne (omega arith)) k;
    device_front = word_else ws i (5 * h + 2) x (λ e. ne (omega arith)) k;
    memory_front = word_else ws i (5 * h + 3) x (λ e. ne (omega arith)) k;
    closing = word_else ws i (5 * h + 4) x (λ e. ne (omega arith)) k;
  }

  pub cell_left : 5 * g < length ws → cell (set ws (5 * g) x) g ≡ record (cell ws g) { left = x }
  cell_left lt = λ k. record {
    left = word_here ws (5 * g) x lt k;
    error = word_else ws (5 * g) (5 * g + 1) x (λ e. omega arith) k;
    device_front = word_else ws (5 * g) (5 * g + 2) x (λ e. omega arith) k;
    memory_front = word_else ws (5 * g) (5 * g + 3) x (λ e. omega arith) k;
    closing = word_else ws (5 * g) (5 * g + 4) x (λ e. omega arith) k;
  }

  pub cell_error : 5 * g + 1 < length ws → cell (set ws (5 * g + 1) x) g ≡ record (cell ws g) { error = x }
  cell_error lt = λ k. record {
    left = word_else ws (5 * g + 1) (5 * g) x (λ e. omega arith) k;
    error = word_here ws (5 * g + 1) x lt k;
    device_front = word_else ws (5 * g + 1) (5 * g + 2) x (λ e. omega arith) k;
    memory_front = word_else ws (5 * g + 1) (5 * g + 3) x (λ e. omega arith) k;
    closing = word_else ws (5 * g + 1) (5 * g + 4) x (λ e. omega arith) k;
  }

  pub cell_device_front : 5 * g + 2 < length ws → cell (set ws (5 * g + 2) x) g ≡ record (cell ws g) { device_front = x }
  cell_device_front lt = λ k. record {
    left = word_else ws (5 * g + 2) (5 * g) x (λ e. omega arith) k;
    error = word_else ws (5 * g + 2) (5 * g + 1) x (λ e. omega arith) k;
    device_front = word_here ws (5 * g + 2) x lt k;
    memory_front = word_else ws (5 * g + 2) (5 * g + 3) x (λ e. omega arith) k;
    closing = word_else ws (5 * g + 2) (5 * g + 4) x (λ e. omega arith) k;
  }

  pub cell_memory_front : 5 * g + 3 < length ws → cell (set ws (5 * g + 3) x) g ≡ record (cell ws g) { memory_front = x }
  cell_memory_front lt = λ k. record {
    left = word_else ws (5 * g + 3) (5 * g) x (λ e. omega arith) k;
    error = word_else ws (5 * g + 3) (5 * g + 1) x (λ e. omega arith) k;
    device_front = word_else ws (5 * g + 3) (5 * g + 2) x (λ e. omega arith) k;
    memory_front = word_here ws (5 * g + 3) x lt k;
    closing = word_else ws (5 * g + 3) (5 * g + 4) x (λ e. omega arith) k;
  }

  pub cell_closing : 5 * g + 4 < length ws → cell (set ws (5 * g + 4) x) g ≡ record (cell ws g) { closing = x }
  cell_closing lt = λ k. record {
    left = word_else ws (5 * g + 4) (5 * g) x (λ e. omega arith) k;
    error = word_else ws (5 * g + 4) (5 * g + 1) x (λ e. omega arith) k;
    device_front = word_else ws (5 * g + 4) (5 * g + 2) x (λ e. omega arith) k;
    memory_front = word_else ws (5 * g + 4) (5 * g + 3) x (λ e. omega arith) k;
    closing = word_here ws (5 * g + 4) x lt k;
  }

cond_same : {T : Type 0} (b : Bool) (y : T) → cond b y y ≡ y
cond_same true y = refl
cond_same false y = refl

pub cond_all : {T : Type 0} (P : T → Type 0) (b : Bool) (x y : T) → P x → P y → P (cond b x y)
cond_all P true x y p q = p
cond_all P false x y p q = q

module _ {T : Type 0} (g j : ℕ) (m : Member) (x y : T) where
  pub at_own : m.number ≡ g → m.instance ≡ j → where_in g j m x y ≡ x
  at_own a b = ap (λ k. cond k (cond (eqb m.instance j) x y) y) (eq-eqb m.number g a) ∙ ap (λ k. cond k x y) (eq-eqb m.instance j b)

  pub at_number : m.number ≢ g → where_in g j m x y ≡ y
  at_number a = ap (λ k. cond k (cond (eqb m.instance j) x y) y) (ne_eqb m.number g a)

  pub at_instance : m.instance ≢ j → where_in g j m x y ≡ y
  at_instance b = ap (λ k. cond (eqb m.number g) k y) (ap (λ k. cond k x y) (ne_eqb m.instance j b)) ∙ cond_same (eqb m.number g) y

  pub at_all : (P : T → Type 0) → P x → P y → P (where_in g j m x y)
  at_all P p q = cond_all P (eqb m.number g) (cond (eqb m.instance j) x y) y (cond_all P (eqb m.instance j) x y p q) q

pub at_same : {T : Type 0} (g j : ℕ) (m : Member) (x x' y : T) → (m.number ≡ g → m.instance ≡ j → ⊥) → where_in g j m x y ≡ where_in g j m x' y
at_same g j m x x' y f = dite (ℕ_discrete m.number g)
    (λ a. dite (ℕ_discrete m.instance j) (λ b. absurd (f a b)) (λ b. at_instance g j m x y b ∙ sym (at_instance g j m x' y b)))
    (λ a. at_number g j m x y a ∙ sym (at_number g j m x' y a))
