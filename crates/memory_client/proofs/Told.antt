-- What a list of what was done tells.
use Rattle.std.proofs.Common.{◌≡◌, ℕ, suc, ◌+◌, ◌*◌, ◌≤◌, ◌==◌, Bool, true, false, not, ◌&&◌, ◌||◌, nat_lt, cond, List, [], ◌∷◌, filter, filter_map, length, Some, None, refl, ap, ◌∙◌, arith}
use Rattle.std.specs.Prelude.{slice_get}
use Rattle.std.specs.Bool.{then_some}
use Rattle.std.specs.List.{cons_option, find, list_any}
use Rattle.std.specs.Option.{option_map_or}
use Rattle.std.proofs.lemmas.Bool.{and_parts, eqb-true, or_parts}
use Rattle.std.proofs.lemmas.List.Sums.{count_by-le-length, length-filter}
use Rattle.host_model.specs.{MemEvent, Attach, Pin, is_close_of, is_pin}
use Rattle.host_model.specs.declared.memory.MemEvent.TheVariants as mem
use Rattle.host_memory.specs.{is_attach_entry, is_fill_or_show, pin_count, used_room, attachment_by, closer_by, closer_of, is_block_of, is_given_by, is_done_for, is_left, is_pin_by, is_pinned_by}
use Rattle.memory_client.specs.{has_page}

-- ---- the room that entries take

used_step : (x : MemEvent) (a b : Bool) (l m : List MemEvent) (n : ℕ) → (a && b) ≡ false → 3 * length l + length m ≤ 3 * n → 3 * length (cond a (x ∷ l) l) + length (cond b (x ∷ m) m) ≤ 3 * suc n
used_step x true true l m n e h = absurd (cc)
used_step x true false l m n e h = omega arith
used_step x false true l m n e h = omega arith
used_step x false false l m n e h = omega arith

not_both : (x : MemEvent) → (is_attach_entry x && is_fill_or_show x) ≡ false
not_both (Attach id pages from) = refl
not_both _ = refl

pub used_few : (h : List MemEvent) → used_room h ≤ 3 * length h
used_few [] = omega arith
used_few (x ∷ xs) = used_step x (is_attach_entry x) (is_fill_or_show x) (filter is_attach_entry xs) (filter is_fill_or_show xs) (length xs) (not_both x) (used_few xs)

pub pins_few : (h : List MemEvent) → pin_count h ≤ length h
pins_few h = let few = count_by-le-length is_pin h in let is = length-filter is_pin h in omega arith

-- ---- no close

open_step : (v : ℕ) (x : MemEvent) → is_close_of v x ≡ false → closer_by v x ≡ None
open_step v (mem.Close index id) e = ap (λ b. then_some b index) e
open_step v _ e = refl

never_closed : (v : ℕ) (h : List MemEvent) → list_any (is_close_of v) h ≡ false → filter_map (closer_by v) h ≡ []
never_closed v [] e = refl
never_closed v (x ∷ xs) e = let parts = or_parts (is_close_of v x) (list_any (is_close_of v) xs) e in ap (λ o. cons_option o (filter_map (closer_by v) xs)) (open_step v x parts.0) ∙ never_closed v xs parts.1

pub open_closer : (v : ℕ) (h : List MemEvent) → list_any (is_close_of v) h ≡ false → closer_of v h ≡ None
open_closer v h e = ap (λ l. slice_get l 0) (never_closed v h e)

-- ---- a pin without a done

kept_step : {A : Type 0} (p : A → Bool) (x : A) (l : List A) (b c rest : Bool) → p x ≡ b → (b ≡ true → c ≡ true) → (rest ≡ true → list_any p l ≡ true) → (b || rest) ≡ true → list_any p (cond c (x ∷ l) l) ≡ true
kept_step p x l true true rest s bc more e = ap (λ z. z || list_any p l) s
kept_step p x l true false rest s bc more e = absurd (let f : false ≡ true = bc refl in cc)
kept_step p x l false true rest s bc more e = ap (λ z. z || list_any p l) s ∙ more e
kept_step p x l false false rest s bc more e = more e

any_kept : {A : Type 0} (p q : A → Bool) → ((x : A) → p x ≡ true → q x ≡ true) → (xs : List A) → list_any p xs ≡ true → list_any p (filter q xs) ≡ true
any_kept p q pq [] e = absurd (cc)
any_kept p q pq (x ∷ xs) e = kept_step p x (filter q xs) (p x) (q x) (list_any p xs) refl (pq x) (λ r. any_kept p q pq xs r) e

left_step : (h : List MemEvent) (hand i v : ℕ) → list_any (is_done_for i) h ≡ false → (x : MemEvent) → is_pin_by hand i v x ≡ true → is_left h x ≡ true
left_step h hand i v n (Pin index id by) e =
    let parts = and_parts (by == hand && index == i) (id == v) e in
    let is = eqb-true index i (and_parts (by == hand) (index == i) parts.0).1 in
    ap (λ j. not (list_any (is_done_for j) h)) is ∙ ap not n
left_step h hand i v n _ e = absurd (cc)

pub pinned_still : (h : List MemEvent) (hand i v : ℕ) → list_any (is_pin_by hand i v) h ≡ true → list_any (is_done_for i) h ≡ false → is_pinned_by hand i v h ≡ true
pinned_still h hand i v p n = any_kept (is_pin_by hand i v) (is_left h) (left_step h hand i v n) h p

-- ---- the block of a buffer

given_step : (v block : ℕ) (id pages from : ℕ) (t : Bool) (rest : List MemEvent) → option_map_or (λ a. nat_lt block a.pages) (slice_get (filter_map (attachment_by v) rest) 0) false ≡ option_map_or (has_page block) (find (is_given_by v) rest) false
    → option_map_or (λ a. nat_lt block a.pages) (slice_get (cons_option (then_some t (record { pages = pages; from = from })) (filter_map (attachment_by v) rest)) 0) false
    ≡ option_map_or (has_page block) (cond t (Some (Attach id pages from)) (find (is_given_by v) rest)) false
given_step v block id pages from true rest more = refl
given_step v block id pages from false rest more = more

pub block_found : (v block : ℕ) (h : List MemEvent) → is_block_of v h block ≡ option_map_or (has_page block) (find (is_given_by v) h) false
block_found v block [] = refl
block_found v block (Attach id pages from ∷ xs) = given_step v block id pages from (id == v) xs (block_found v block xs)
block_found v block (_ ∷ xs) = block_found v block xs
