-- The members among the records taken.
use Rattle.std.proofs.Common.{◌≡◌, ℕ, zero, suc, ◌+◌, ◌≤◌, ◌<◌, ◌==◌, Bool, true, false, ◌&&◌, cond, List, [], ◌∷◌, ◌++◌, length, get_or, filter, filter_map, take, Option, Some, None, refl, sym, ap, ◌∙◌, arith, length-append}
use Rattle.std.specs.Prelude.{unwrap_or}
use Rattle.std.specs.List.{cons_option, range_with_len}
use Rattle.std.proofs.Math.ListN.{get_or-append}
use Rattle.std.proofs.lemmas.List.{length-map, take-append-le}
use Rattle.std.proofs.lemmas.List.Elements.{filter-append, filter_map-append}
use Rattle.host_record.specs.declared.request.Request.{Request}
use Rattle.host_record.specs.{is_last, request_of}
use Rattle.host_model.specs.{closings, is_closing, is_member, below, count, request_at}
use Rattle.host_group.specs.{Member, member, bit}
use Rattle.host_log.specs.{total}
use Rattle.host_group.specs.Views as cell
use Rattle.host_intake.specs.{Taking, request_in, requests_of, is_member_at, member_at, members}
use Rattle.host_intake.proofs.Counting.{below_more}

-- ---- one record

option_eq_index : (b : Bool) (m w : Member) → cond b (Some m) None ≡ Some w → m ≡ w
option_eq_index true m w e = ap (λ (o : Option Member). unwrap_or o m) e
option_eq_index false m w e = absurd (cc)

pub member_index : (rs : List Request) (i : ℕ) (m : Member) → member_at rs i ≡ Some m → m.index ≡ i
member_index rs i m e = let r = request_at rs i in
    sym (ap (λ (w : Member). w.index) (option_eq_index (is_member r) (member r.group (closings r.group (take i rs)) i r.reqid (is_last r)) m e))

-- ---- how many there are

counted_step : (b : Bool) (x : Member) (n : ℕ) (l : List Member) (ns : List ℕ) → length l ≡ length ns → length (cons_option (cond b (Some x) None) l) ≡ length (cond b (n ∷ ns) ns)
counted_step true x n l ns e = ap suc e
counted_step false x n l ns e = e

counted : (rs : List Request) (ns : List ℕ) → length (filter_map (member_at rs) ns) ≡ count (is_member_at rs) ns
counted rs [] = refl
counted rs (n ∷ ns) = let r = request_at rs n in
    counted_step (is_member r) (member r.group (closings r.group (take n rs)) n r.reqid (is_last r)) n (filter_map (member_at rs) ns) (filter (is_member_at rs) ns) (counted rs ns)

pub length_members : (rs : List Request) → length (members rs) ≡ count (is_member_at rs) (below (length rs))
length_members rs = counted rs (below (length rs))

-- as many members as records that are members
pub count_members : (ts : List Taking) → length (members (requests_of ts)) ≡ count (is_member_at (requests_of ts)) (below (length ts))
count_members ts = length_members (requests_of ts) ∙ ap (λ n. count (is_member_at (requests_of ts)) (below n)) (length-map ts request_in)

-- ---- one request more

module _ {A : Type 0} where
  pub get_or_last : (xs : List A) (x d : A) → get_or (xs ++ x ∷ []) (length xs) d ≡ x
  get_or_last [] x d = refl
  get_or_last (y ∷ ys) x d = get_or_last ys x d

  pub take_next : (n : ℕ) (xs : List A) (d : A) → n < length xs → take (suc n) xs ≡ take n xs ++ get_or xs n d ∷ []
  take_next n [] d h = absurd (omega arith)
  take_next zero (x ∷ xs) d h = ap (λ l. x ∷ l) refl
  take_next (suc n) (x ∷ xs) d h = ap (λ l. x ∷ l) (take_next n xs d (omega arith))

  pub take_length : (xs ys : List A) → take (length xs) (xs ++ ys) ≡ xs
  take_length [] ys = refl
  take_length (x ∷ xs) ys = ap (λ l. x ∷ l) (take_length xs ys)

-- a request as a member after these
abbrev pub member_after : Request → List Request → ℕ → Option Member
member_after r before i = cond (is_member r) (Some (member r.group (closings r.group before) i r.reqid (is_last r))) None

pub request_more : (rs : List Request) (r : Request) (i : ℕ) → i < length rs → request_at (rs ++ r ∷ []) i ≡ request_at rs i
request_more rs r i h = get_or-append rs (r ∷ []) (request_of []) i h

pub member_more : (rs : List Request) (r : Request) (i : ℕ) → i < length rs → member_at (rs ++ r ∷ []) i ≡ member_at rs i
member_more rs r i h =
    ap (λ (q : Request). member_after q (take i (rs ++ r ∷ [])) i) (request_more rs r i h)
    ∙ ap (λ (l : List Request). member_after (request_at rs i) l i) (take-append-le i rs (r ∷ []) (omega arith))

pub member_last : (rs : List Request) (r : Request) → member_at (rs ++ r ∷ []) (length rs) ≡ member_after r rs (length rs)
member_last rs r =
    ap (λ (q : Request). member_after q (take (length rs) (rs ++ r ∷ [])) (length rs)) (get_or_last rs r (request_of []))
    ∙ ap (λ (l : List Request). member_after r l (length rs)) (take_length rs (r ∷ []))

filter_map_agree : (f g : ℕ → Option Member) (a n : ℕ) → ((j : ℕ) → a ≤ j → j < a + n → f j ≡ g j) → filter_map f (range_with_len a n) ≡ filter_map g (range_with_len a n)
filter_map_agree f g a zero h = refl
filter_map_agree f g a (suc n) h =
    ap (λ o. cons_option o (filter_map f (range_with_len (a + 1) n))) (h a (omega arith) (omega arith))
    ∙ ap (λ l. cons_option (g a) l) (filter_map_agree f g (a + 1) n (λ j lo hi. h j (omega arith) (omega arith)))

pub members_more : (rs : List Request) (r : Request) → members (rs ++ r ∷ []) ≡ members rs ++ cons_option (member_after r rs (length rs)) []
members_more rs r =
    ap (λ n. filter_map (member_at (rs ++ r ∷ [])) (below n)) (length-append rs (r ∷ []))
    ∙ (ap (λ l. filter_map (member_at (rs ++ r ∷ [])) l) (below_more (length rs))
    ∙ (filter_map-append (member_at (rs ++ r ∷ [])) (below (length rs)) (length rs ∷ [])
    ∙ (ap (λ l. l ++ cons_option (member_at (rs ++ r ∷ []) (length rs)) []) (filter_map_agree (member_at (rs ++ r ∷ [])) (member_at rs) 0 (length rs) (λ j lo hi. member_more rs r j (omega arith)))
    ∙ ap (λ o. members rs ++ cons_option o []) (member_last rs r))))

-- ---- how often a group was closed

total_append : (f : Member → ℕ) (xs ys : List Member) → total f (xs ++ ys) ≡ total f xs + total f ys
total_append f [] ys = omega arith
total_append f (x ∷ xs) ys = let h = total_append f xs ys in omega arith

closes_step : (g : ℕ) (r : Request) (m : Member) (mem same lst : Bool) → (m.number == g) ≡ same → m.last ≡ lst → total (cell.closes_of_group g) (cons_option (cond mem (Some m) None) []) ≡ length (cond ((mem && lst) && same) (r ∷ []) [])
closes_step g r m false same lst e f = refl
closes_step g r m true same lst e f = ap (λ b. cond b (bit m.last) 0 + 0) e ∙ (ap (λ b. cond same (bit b) 0 + 0) f ∙ last_step same lst)
  where
    last_step : (same lst : Bool) → cond same (bit lst) 0 + 0 ≡ length (cond (lst && same) (r ∷ []) [])
    last_step true true = omega arith
    last_step true false = omega arith
    last_step false true = omega arith
    last_step false false = omega arith

suc_is : (n : ℕ) → suc n ≡ n + 1
suc_is n = omega arith

closings_upto : (g : ℕ) (rs : List Request) (n : ℕ) → n ≤ length rs → cell.members_closing g (filter_map (member_at rs) (below n)) ≡ closings g (take n rs)
closings_upto g rs zero h = refl
closings_upto g rs (suc n) h =
    let r = request_at rs n in let m = member r.group (closings r.group (take n rs)) n r.reqid (is_last r) in
    let p : Request → Bool = λ (q : Request). is_closing q && q.group == g in
    let more : filter_map (member_at rs) (below (suc n)) ≡ filter_map (member_at rs) (below n) ++ cons_option (member_at rs n) [] =
    ap (λ k. filter_map (member_at rs) (below k)) (suc_is n) ∙ (ap (λ l. filter_map (member_at rs) l) (below_more n) ∙ filter_map-append (member_at rs) (below n) (n ∷ [])) in
    let a = ap (λ l. cell.members_closing g l) more ∙ total_append (cell.closes_of_group g) (filter_map (member_at rs) (below n)) (cons_option (member_at rs n) []) in
    let b = closings_upto g rs n (omega arith) in
    let c = closes_step g r m (is_member r) (r.group == g) (is_last r) refl refl in
    let d : closings g (take (suc n) rs) ≡ closings g (take n rs) + length (filter p (r ∷ [])) =
    ap (λ l. count p l) (take_next n rs (request_of []) (omega arith)) ∙ (ap length (filter-append p (take n rs) (r ∷ [])) ∙ length-append (filter p (take n rs)) (filter p (r ∷ []))) in
    omega arith

take_all : (rs : List Request) → take (length rs) rs ≡ rs
take_all [] = refl
take_all (r ∷ rs) = ap (λ l. r ∷ l) (take_all rs)

-- the cells count closing members as the records do
pub closings_same : (g : ℕ) (rs : List Request) → cell.members_closing g (members rs) ≡ closings g rs
closings_same g rs = closings_upto g rs (length rs) (omega arith) ∙ ap (λ l. closings g l) (take_all rs)
