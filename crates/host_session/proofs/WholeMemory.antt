-- The whole history of a session's buffers: what others left there after the client changes nothing for it.
use Rattle.std.proofs.Common.{◌≡◌, ℕ, zero, suc, Bool, true, false, ◌||◌, ◌==◌, cond, List, [], ◌∷◌, ◌++◌, length, filter, filter_map, Option, Some, None, refl, sym, ap, ap₂, ◌∙◌}
use Rattle.std.specs.List.{range_with_len, slice_get}
use Rattle.std.specs.Option.{option_map_or}
use Rattle.std.proofs.lemmas.Bool.{eq-eqb}
use Rattle.std.proofs.lemmas.List.Elements.{filter_map-append}
use Rattle.std.proofs.lemmas.List.Folds.{list_any-append}
use Rattle.host_memory.specs.{given_count, is_attach_entry, Attachment, attachment_by, attachment_of, first_held, holds_pages, is_released}
use Rattle.host_model.specs.{MemEntry, MemEvent, Attach, Fill, Show, Pin, Lift, Land, Done, Release, is_client, is_release_of}
use Rattle.host_model.specs.declared.memory.MemEvent.TheVariants as mem
use Rattle.host_log.specs.{entries_of}
use Rattle.host_session.proofs.Snoc.{filter_rest}

-- ---- pages that are home stay there

-- where nothing is the client's, no buffer is attached
no_attach : (rest : List MemEvent) → filter is_client rest ≡ [] → filter is_attach_entry rest ≡ []
no_attach [] none = refl
no_attach (Attach id pages from ∷ rest) none = absurd (cc none)
no_attach (Fill id block cnt byte ∷ rest) none = absurd (cc none)
no_attach (Show id block cnt ∷ rest) none = absurd (cc none)
no_attach (Pin index id by ∷ rest) none = no_attach rest none
no_attach (Lift index k id block bytes ∷ rest) none = no_attach rest none
no_attach (Land index k id block bytes ∷ rest) none = no_attach rest none
no_attach (Done index id ∷ rest) none = no_attach rest none
no_attach (mem.Close index id ∷ rest) none = no_attach rest none
no_attach (Release id ∷ rest) none = no_attach rest none

no_attachment : (v : ℕ) (rest : List MemEvent) → filter is_client rest ≡ [] → filter_map (attachment_by v) rest ≡ []
no_attachment v [] none = refl
no_attachment v (Attach id pages from ∷ rest) none = absurd (cc none)
no_attachment v (Fill id block cnt byte ∷ rest) none = absurd (cc none)
no_attachment v (Show id block cnt ∷ rest) none = absurd (cc none)
no_attachment v (Pin index id by ∷ rest) none = no_attachment v rest none
no_attachment v (Lift index k id block bytes ∷ rest) none = no_attachment v rest none
no_attachment v (Land index k id block bytes ∷ rest) none = no_attachment v rest none
no_attachment v (Done index id ∷ rest) none = no_attachment v rest none
no_attachment v (mem.Close index id ∷ rest) none = no_attachment v rest none
no_attachment v (Release id ∷ rest) none = no_attachment v rest none

append_none : {A : Type 0} (xs ys : List A) → ys ≡ [] → xs ++ ys ≡ xs
append_none [] ys e = e
append_none (x ∷ xs) ys e = ap (λ l. x ∷ l) (append_none xs ys e)

held_before : (a b : Bool) (o : Option ℕ) → option_map_or (λ (n : ℕ). true) (cond (a || b) None o) false ≡ true → option_map_or (λ (n : ℕ). true) (cond a None o) false ≡ true
held_before true b o e = e
held_before false true o e = absurd (cc e)
held_before false false o e = e

-- a buffer that holds pages has held them before
holds_before : (v : ℕ) (h rest : List MemEvent) → filter is_client rest ≡ [] → holds_pages v (h ++ rest) ≡ true → holds_pages v h ≡ true
holds_before v h rest none e =
    let found : filter_map (attachment_by v) (h ++ rest) ≡ filter_map (attachment_by v) h = filter_map-append (attachment_by v) h rest ∙ append_none (filter_map (attachment_by v) h) (filter_map (attachment_by v) rest) (no_attachment v rest none) in
    held_before (is_released v h) (is_released v rest) (option_map_or (λ (a : Attachment). Some a.pages) (attachment_of v h) None)
    (sym (ap₂ (λ (b : Bool) (l : List Attachment). option_map_or (λ (n : ℕ). true) (cond b None (option_map_or (λ (a : Attachment). Some a.pages) (slice_get l 0) None)) false)
    (list_any-append (is_release_of v) h rest) found) ∙ e)

none_first : (l : List ℕ) → slice_get l 0 ≡ None → l ≡ []
none_first [] e = refl
none_first (x ∷ l) e = absurd (cc e)

filter_fewer : (p q : ℕ → Bool) (vs : List ℕ) → ((v : ℕ) → p v ≡ true → q v ≡ true) → filter q vs ≡ [] → filter p vs ≡ []
filter_fewer p q [] all none = refl
filter_fewer p q (v ∷ vs) all none = at (p v) (q v) (all v) none (λ n. filter_fewer p q vs all n)
  where
    at : (b d : Bool) → (b ≡ true → d ≡ true) → cond d (v ∷ filter q vs) (filter q vs) ≡ [] → (filter q vs ≡ [] → filter p vs ≡ []) → cond b (v ∷ filter p vs) (filter p vs) ≡ []
    at true true f n ih = absurd (cc n)
    at true false f n ih = absurd (cc (f refl))
    at false true f n ih = absurd (cc n)
    at false false f n ih = ih n

pub home_still : (h rest : List MemEvent) → filter is_client rest ≡ [] → first_held h ≡ None → first_held (h ++ rest) ≡ None
home_still h rest none home =
    let given : given_count (h ++ rest) ≡ given_count h = ap length (filter_rest is_attach_entry h rest (no_attach rest none)) in
    let before : filter (λ v. holds_pages v h) (range_with_len 1 (given_count h)) ≡ [] = none_first (filter (λ v. holds_pages v h) (range_with_len 1 (given_count h))) home in
    let after : filter (λ v. holds_pages v (h ++ rest)) (range_with_len 1 (given_count h)) ≡ [] = filter_fewer (λ v. holds_pages v (h ++ rest)) (λ v. holds_pages v h) (range_with_len 1 (given_count h)) (λ v e. holds_before v h rest none e) before in
    ap (λ n. slice_get (filter (λ v. holds_pages v (h ++ rest)) (range_with_len 1 n)) 0) given ∙ ap (λ l. slice_get l 0) after

-- ---- an entry of the client's stands where it had seen it

own_nowhere : (c n : ℕ) (rest : List MemEntry) (e : MemEntry) → entries_of (λ x. x.hand) c rest ≡ [] → slice_get rest n ≡ Some e → e.hand ≡ c → ⊥
own_nowhere c n [] e none at by = cc at
own_nowhere c zero (x ∷ rest) e none at by =
    let same : x ≡ e = cc at in
    let mine : (x.hand == c) ≡ true = ap (λ (y : MemEntry). y.hand == c) same ∙ eq-eqb e.hand c by in
    let some : x ∷ entries_of (λ y. y.hand) c rest ≡ [] = ap (λ b. cond b (x ∷ entries_of (λ y. y.hand) c rest) (entries_of (λ y. y.hand) c rest)) (sym mine) ∙ none in
    cc some
own_nowhere c (suc n) (x ∷ rest) e none at by = own_nowhere c n rest e (less (x.hand == c) none) at by
  where
    less : (b : Bool) → cond b (x ∷ entries_of (λ y. y.hand) c rest) (entries_of (λ y. y.hand) c rest) ≡ [] → entries_of (λ y. y.hand) c rest ≡ []
    less true f = absurd (cc f)
    less false f = f

pub own_seen : (c n : ℕ) (h rest : List MemEntry) (e : MemEntry) → entries_of (λ x. x.hand) c rest ≡ [] → slice_get (h ++ rest) n ≡ Some e → e.hand ≡ c → slice_get h n ≡ Some e
own_seen c n [] rest e none at by = absurd (own_nowhere c n rest e none at by)
own_seen c zero (x ∷ h) rest e none at by = at
own_seen c (suc n) (x ∷ h) rest e none at by = own_seen c n h rest e none at by
