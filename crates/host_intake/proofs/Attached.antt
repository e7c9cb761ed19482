-- A buffer that stands for a record is attached for it, and so the verdicts are those of the definition.
use Rattle.std.proofs.Common.{◌≡◌, ℕ, ◌≤◌, ◌<◌, ◌==◌, Bool, true, false, ◌&&◌, nat_le, cond, List, [], ◌∷◌, length, filter_map, Option, Some, None, refl, sym, ap, ◌∙◌, arith}
use Rattle.std.specs.Prelude.{slice_get}
use Rattle.std.specs.Bool.{then_some}
use Rattle.std.specs.List.{cons_option}
use Rattle.std.specs.Option.{is_some, option_map_or}
use Rattle.std.proofs.lemmas.Bool.{leb-true}
use Rattle.host_model.specs.{MemEvent, Attach, lent_by, lent_in}
use Rattle.host_memory.specs.{attachment_by, attachment_of, closer_of, is_before_close, is_released, pages_for, standing_in}

-- ---- one history

none_lent : (h : List MemEvent) (i v : ℕ) → length (filter_map (attachment_by v) h) ≡ 0 → filter_map (lent_by i v) h ≡ []
none_lent [] i v e = refl
none_lent (Attach id pages from ∷ h) i v e = step (id == v) e (λ z. none_lent h i v z)
  where
    step : (b : Bool) → length (cons_option (then_some b (record { pages = pages; from = from })) (filter_map (attachment_by v) h)) ≡ 0 → (length (filter_map (attachment_by v) h) ≡ 0 → filter_map (lent_by i v) h ≡ [])
        → cons_option (cond (b && nat_le from i) (Some pages) None) (filter_map (lent_by i v) h) ≡ []
    step true e more = absurd (omega arith)
    step false e more = more e
none_lent (_ ∷ h) i v e = none_lent h i v e

-- what one attach lends, where a buffer was attached once at most
pub lent_is : (h : List MemEvent) (i v : ℕ) → length (filter_map (attachment_by v) h) ≤ 1 → option_map_or (pages_for i) (attachment_of v h) None ≡ lent_in h i v
lent_is [] i v one = refl
lent_is (Attach id pages from ∷ h) i v one = step (id == v) one (λ z. lent_is h i v z) (λ z. none_lent h i v z)
  where
    step : (b : Bool) → length (cons_option (then_some b (record { pages = pages; from = from })) (filter_map (attachment_by v) h)) ≤ 1
        → (length (filter_map (attachment_by v) h) ≤ 1 → option_map_or (pages_for i) (attachment_of v h) None ≡ lent_in h i v)
        → (length (filter_map (attachment_by v) h) ≡ 0 → filter_map (lent_by i v) h ≡ [])
        → option_map_or (pages_for i) (slice_get (cons_option (then_some b (record { pages = pages; from = from })) (filter_map (attachment_by v) h)) 0) None
        ≡ slice_get (cons_option (cond (b && nat_le from i) (Some pages) None) (filter_map (lent_by i v) h)) 0
    step true one more none = lends (nat_le from i) (none (omega arith))
      where
        lends : (b : Bool) → filter_map (lent_by i v) h ≡ [] → then_some b pages ≡ slice_get (cons_option (cond b (Some pages) None) (filter_map (lent_by i v) h)) 0
        lends true e = refl
        lends false e = ap (λ l. slice_get l 0) (sym e)
    step false one more none = more one
lent_is (_ ∷ h) i v one = lent_is h i v one

-- A buffer stands for a record just where no earlier record closed it and it was attached before the record was sent,
-- while no buffer was released but by a close.
pub standing_is_lent : (h : List MemEvent) (i v : ℕ) → length (filter_map (attachment_by v) h) ≤ 1 → (is_released v h ≡ true → is_some (closer_of v h) ≡ true) → ((j : ℕ) → closer_of v h ≡ Some j → j < i)
    → standing_in v i h ≡ (cond (is_some (closer_of v h)) None (lent_in h i v))
standing_is_lent h i v one released earlier = step (closer_of v h) refl (is_released v h) refl
  where
    past : (j i : ℕ) → j < i → nat_le i j ≡ false
    past j i less = off (nat_le i j) refl
      where
        off : (b : Bool) → nat_le i j ≡ b → b ≡ false
        off true e = absurd (let le = leb-true i j e in omega arith)
        off false e = refl

    step : (o : Option ℕ) → closer_of v h ≡ o → (b : Bool) → is_released v h ≡ b → cond b None (cond (is_before_close i o) (option_map_or (pages_for i) (attachment_of v h) None) None) ≡ cond (is_some o) None (lent_in h i v)
    step None e true r = absurd (let z : is_some (closer_of v h) ≡ true = released r in let y : false ≡ true = sym (ap is_some e) ∙ z in cc)
    step None e false r = lent_is h i v one
    step (Some j) e true r = refl
    step (Some j) e false r = ap (λ b. cond b (option_map_or (pages_for i) (attachment_of v h) None) None) (past j i (earlier j e))
