-- Each move keeps the rule of the answer ring.
use Rattle.std.proofs.Common.{◌≡◌, ◌≢◌, ℕ, ◌+◌, ◌<◌, ◌≤◌, Bool, true, false, true≢false, cond, eqb, List, [], ◌∷◌, ◌++◌, length, set, sym, refl, ap, ◌∙◌, subst, ⊎_elim, append_assoc, length-append, le_refl, arith}
use Rattle.std.specs.List.{count_by}
use Rattle.std.proofs.lemmas.List.{append-nil, map-append}
use Rattle.std.proofs.lemmas.List.Sums.{sum_by-append}
use Rattle.std.proofs.lemmas.Bool.{eq-eqb, ne_eqb}
use mathlib.Core.Option.{some, some-injective, some-ne-none}
use lib.ListN.{get_elem?}
use Rattle.crossbeam_queue.specs.Fifo.{Pushes, Pops, Forks, Merges, Learns}
use Rattle.crossbeam_queue.proofs.Lists.{at_set}
use Rattle.host_block.specs.{IsPrefix}
use Rattle.host_rings.specs.{Slip, AnswerView, Marked, slips, slips_sent_by, AllBelow, ComeFrom, IsAmong, reader_view, hand_view, making_view, closing_view, spent_answer_view, FitsAnswers, InTurn, HoldsAfter, AllThere}
use Rattle.host_rings.proofs.Lists.{at_snoc_or_end, at_within, each_at, AllFit, all_set, all_one, all_snoc}

cond_append : (b : Bool) (x : Slip) (s t u : List Slip) → u ≡ s ++ t → cond b (x ∷ u) u ≡ cond b (x ∷ s) s ++ t
cond_append true x s t u e = ap (λ l. x ∷ l) e
cond_append false x s t u e = e

pub sent-append : (k : ℕ) (xs ys : List Marked) → slips_sent_by k (xs ++ ys) ≡ slips_sent_by k xs ++ slips_sent_by k ys
sent-append k [] ys = refl
sent-append k (m ∷ xs) ys = cond_append (eqb m.0 k) m.1 (slips_sent_by k xs) (slips_sent_by k ys) (slips_sent_by k (xs ++ ys)) (sent-append k xs ys)

sent_one : (k : ℕ) (m : Marked) → m.0 ≡ k → slips_sent_by k (m ∷ []) ≡ m.1 ∷ []
sent_one k m e = ap (λ b. cond b (m.1 ∷ []) []) (eq-eqb m.0 k e)

sent_else : (k : ℕ) (m : Marked) → m.0 ≢ k → slips_sent_by k (m ∷ []) ≡ []
sent_else k m e = ap (λ b. cond b (m.1 ∷ []) []) (ne_eqb m.0 k e)

-- a slip of another sender changes nothing
sent_still : (k : ℕ) (xs : List Marked) (m : Marked) → m.0 ≢ k → slips_sent_by k (xs ++ m ∷ []) ≡ slips_sent_by k xs
sent_still k xs m e = sent-append k xs (m ∷ []) ∙ ap (λ l. slips_sent_by k xs ++ l) (sent_else k m e) ∙ append-nil (slips_sent_by k xs)

sent_more : (k : ℕ) (xs : List Marked) (m : Marked) → m.0 ≡ k → slips_sent_by k (xs ++ m ∷ []) ≡ slips_sent_by k xs ++ m.1 ∷ []
sent_more k xs m e = sent-append k xs (m ∷ []) ∙ ap (λ l. slips_sent_by k xs ++ l) (sent_one k m e)

below_append : (n : ℕ) (xs ys : List Marked) → AllBelow n xs → AllBelow n ys → AllBelow n (xs ++ ys)
below_append n [] ys a b = b
below_append n (m ∷ xs) ys a b = (a.0, below_append n xs ys a.1 b)

below_left : (n : ℕ) (xs ys : List Marked) → AllBelow n (xs ++ ys) → AllBelow n xs
below_left n [] ys a = tt
below_left n (m ∷ xs) ys a = (a.0, below_left n xs ys a.1)

below_more : (n : ℕ) (xs : List Marked) → AllBelow n xs → AllBelow (n + 1) xs
below_more n [] a = tt
below_more n (m ∷ xs) a = let h : m.0 < n = a.0 in (omega arith, below_more n xs a.1)

sent_none : (n : ℕ) (xs : List Marked) → AllBelow n xs → slips_sent_by n xs ≡ []
sent_none n [] a = refl
sent_none n (m ∷ xs) a = let h : m.0 < n = a.0 in ap (λ b. cond b (m.1 ∷ slips_sent_by n xs) (slips_sent_by n xs)) (ne_eqb m.0 n (λ e. omega arith)) ∙ sent_none n xs a.1

tail : List Slip → List Slip
tail [] = []
tail (x ∷ xs) = xs

first_held : (held : List Marked) (x : Slip) (items : List Slip) → slips held ≡ x ∷ items → (m : Marked) × (rest : List Marked) × (held ≡ m ∷ rest) × (m.1 ≡ x) × (slips rest ≡ items)
unfolding tail
first_held [] x items e = absurd (some-ne-none x (sym (ap (λ l. get_elem? l 0) e)))
first_held (m ∷ rest) x items e = (m, rest, refl, some-injective m.1 x (ap (λ l. get_elem? l 0) e), ap tail e)

among_more : (few xs ys : List Slip) → IsAmong few xs → IsAmong few (xs ++ ys)
among_more few xs ys a test = let h : count_by test few ≤ count_by test xs = a test in omega (arith, sum_by-append (λ x. cond (test x) 1 0) xs ys)

pub begins : InTurn [] (reader_view 0 [] [] [] ∷ [])
begins = record {
  reader = 0;
  seat = λ _. 0;
  senders = 0;
  closed = [];
  left = [];
  held = [];
  held_is = refl;
  of_senders = tt;
  few_closed = omega arith;
  closed_pushed = λ k p at. absurd (some-ne-none p (sym at));
  fitting = all_one (FitsAnswers 0 (λ _. 0) 0 [] [] []) (reader_view 0 [] [] []) record {
    sends = λ p. absurd (true≢false (sym p));
    takes = λ _. record { is_reader = refl; has_senders = refl; has_closed = refl; has_taken = refl; heard_pushed = λ test. le_refl _ };
  };
}

pub makes : (port : ℕ) (v : AnswerView) → v.pops ≡ true → Forks InTurn port v (making_view v) (hand_view v.senders [])
makes port v may items views h at = let l : AnswerView = making_view v in let r : AnswerView = hand_view v.senders [] in
    let d = (h.fitting port v at).takes may in let vs : List AnswerView = set views port l in let n : ℕ = length vs in
    let marked : List Marked = h.left ++ h.held in let seat : ℕ → ℕ = λ k. cond (eqb k h.senders) n (h.seat k) in
    let same : v.senders ≡ h.senders = d.has_senders in let short : length h.closed ≤ h.senders = h.few_closed in
    let New : ℕ → AnswerView → Type 0 = FitsAnswers h.reader seat (h.senders + 1) h.closed h.left marked in
    let old : AllFit New vs = all_set New views port l
    record {
      sends = λ p. absurd (true≢false (sym p));
      takes = λ _. record { is_reader = d.is_reader; has_senders = ap (λ k. k + 1) d.has_senders; has_closed = d.has_closed; has_taken = d.has_taken; heard_pushed = d.heard_pushed };
    }
    (λ j u other e. record {
      sends = λ p. let s = (h.fitting j u e).sends p in let near : u.number < h.senders = s.was_made in
          record { has_seat = ap (λ b. cond b n (h.seat u.number)) (ne_eqb u.number h.senders (λ i. omega arith)) ∙ s.has_seat; was_made = omega arith; is_open = s.is_open; has_pushed = s.has_pushed };
      takes = λ p. absurd (other (((h.fitting j u e).takes p).is_reader ∙ sym d.is_reader));
    }) in record {
      reader = h.reader;
      seat = seat;
      senders = h.senders + 1;
      closed = h.closed;
      left = h.left;
      held = h.held;
      held_is = h.held_is;
      of_senders = below_more h.senders marked h.of_senders;
      few_closed = omega arith;
      closed_pushed = h.closed_pushed;
      fitting = all_snoc New vs r old record {
        sends = λ _. record {
          has_seat = ap (λ b. cond b n (h.seat v.senders)) (eq-eqb v.senders h.senders d.has_senders);
          was_made = omega arith;
          is_open = omega arith;
          has_pushed = sym (ap (λ k. slips_sent_by k marked) d.has_senders ∙ sent_none h.senders marked h.of_senders);
        };
        takes = λ p. absurd (true≢false (sym p));
      };
    }

pub pushes : (n port : ℕ) (v : AnswerView) (x : Slip) → v.pushes ≡ true → Pushes InTurn n port v x (λ w. w ≡ hand_view v.number (v.pushed ++ x ∷ []))
pushes n port v x may items views _ h at = let w : AnswerView = hand_view v.number (v.pushed ++ x ∷ []) in
    let s = (h.fitting port v at).sends may in let m : Marked = (v.number, x) in let held : List Marked = h.held ++ m ∷ [] in
    let was : List Marked = h.left ++ h.held in let now : List Marked = h.left ++ held in
    let grown : was ++ m ∷ [] ≡ now = append_assoc h.left h.held (m ∷ []) in
    let still : (k : ℕ) → v.number ≢ k → slips_sent_by k was ≡ slips_sent_by k now = λ k e. sym (sent_still k was m e) ∙ ap (slips_sent_by k) grown in
    let New : ℕ → AnswerView → Type 0 = FitsAnswers h.reader h.seat h.senders h.closed h.left now in
    let late : length h.closed ≤ v.number = s.is_open in (
      w,
      record {
        reader = h.reader;
        seat = h.seat;
        senders = h.senders;
        closed = h.closed;
        left = h.left;
        held = held;
        held_is = map-append (λ (y : Marked). y.1) h.held (m ∷ []) ∙ ap (λ l. l ++ x ∷ []) h.held_is;
        of_senders = subst (AllBelow h.senders) grown (below_append h.senders was (m ∷ []) h.of_senders (s.was_made, tt));
        few_closed = h.few_closed;
        closed_pushed = λ k p e. h.closed_pushed k p e ∙ (let near = at_within h.closed k p e in still k (λ i. omega arith));
        fitting = all_set New views port w
            record {
              sends = λ _. record {
                has_seat = s.has_seat;
                was_made = s.was_made;
                is_open = s.is_open;
                has_pushed = ap (λ l. l ++ x ∷ []) s.has_pushed ∙ sym (sent_more v.number was m refl) ∙ ap (slips_sent_by v.number) grown;
              };
              takes = λ p. absurd (true≢false (sym p));
            }
            (λ j u other e. record {
              sends = λ p. let t = (h.fitting j u e).sends p in
                  record { has_seat = t.has_seat; was_made = t.was_made; is_open = t.is_open; has_pushed = t.has_pushed ∙ still u.number (λ i. other (sym t.has_seat ∙ ap h.seat (sym i) ∙ s.has_seat)) };
              takes = λ p. let t = (h.fitting j u e).takes p in record {
                is_reader = t.is_reader;
                has_senders = t.has_senders;
                has_closed = t.has_closed;
                has_taken = t.has_taken;
                heard_pushed = subst (λ l. IsAmong u.heard (slips l)) grown (subst (IsAmong u.heard) (sym (map-append (λ (y : Marked). y.1) was (m ∷ []))) (among_more u.heard (slips was) (x ∷ []) t.heard_pushed));
              };
            });
      },
      refl,
    )

pub pops : (port : ℕ) (v : AnswerView) → v.pops ≡ true → Pops InTurn port v (λ x w. w ≡ reader_view v.senders v.closed (v.taken ++ x ∷ []) v.heard)
pops port v may x items views h at = let w : AnswerView = reader_view v.senders v.closed (v.taken ++ x ∷ []) v.heard in
    let d = (h.fitting port v at).takes may in let f = first_held h.held x items h.held_is in let m : Marked = f.0 in let rest : List Marked = f.1 in
    let left : List Marked = h.left ++ m ∷ [] in let was : List Marked = h.left ++ h.held in let now : List Marked = left ++ rest in
    let same : was ≡ now = ap (λ l. h.left ++ l) f.2 ∙ sym (append_assoc h.left (m ∷ []) rest) in
    let New : ℕ → AnswerView → Type 0 = FitsAnswers h.reader h.seat h.senders h.closed left now in (
      w,
      record {
        reader = h.reader;
        seat = h.seat;
        senders = h.senders;
        closed = h.closed;
        left = left;
        held = rest;
        held_is = f.4;
        of_senders = subst (AllBelow h.senders) same h.of_senders;
        few_closed = h.few_closed;
        closed_pushed = λ k p e. h.closed_pushed k p e ∙ ap (slips_sent_by k) same;
        fitting = all_set New views port w
            record {
              sends = λ p. absurd (true≢false (sym p));
              takes = λ _. record {
                is_reader = d.is_reader;
                has_senders = d.has_senders;
                has_closed = d.has_closed;
                has_taken = ap (λ l. l ++ x ∷ []) d.has_taken ∙ ap (λ y. slips h.left ++ y ∷ []) (sym f.3) ∙ sym (map-append (λ (y : Marked). y.1) h.left (m ∷ []));
                heard_pushed = subst (λ l. IsAmong v.heard (slips l)) same d.heard_pushed;
              };
            }
            (λ j u other e. record {
              sends = λ p. let t = (h.fitting j u e).sends p in
                  record { has_seat = t.has_seat; was_made = t.was_made; is_open = t.is_open; has_pushed = t.has_pushed ∙ ap (slips_sent_by u.number) same };
              takes = λ p. absurd (other (((h.fitting j u e).takes p).is_reader ∙ sym d.is_reader));
            });
      },
      refl,
    )

pub closes : (port : ℕ) (v : AnswerView) (other : ℕ) (u : AnswerView) → v.pops ≡ true → u.pushes ≡ true → u.number ≡ length v.closed
    → Merges InTurn port v other u (closing_view v u.pushed) spent_answer_view
closes port v other u a b next items views h at two at' = let both : AnswerView = closing_view v u.pushed in let vs : List AnswerView = set views port both in
    let d = (h.fitting port v at).takes a in
    let was : get_elem? views other ≡ some u = ⊎_elim (λ x. absurd (two x.0)) (λ x. x.1) (at_set views port other both u at') in
    let s = (h.fitting other u was).sends b in let marked : List Marked = h.left ++ h.held in let closed : List (List Slip) = h.closed ++ u.pushed ∷ [] in
    let place : u.number ≡ length h.closed = next ∙ ap length d.has_closed in let near : u.number < h.senders = s.was_made in
    let New : ℕ → AnswerView → Type 0 = FitsAnswers port h.seat h.senders closed h.left marked in
    let Now : ℕ → AnswerView → Type 0 = λ j y. j ≢ other → New j y in
    let now : AllFit Now vs = all_set Now views port both
    (λ _. record {
      sends = λ p. absurd (true≢false (sym p));
      takes = λ _. record { is_reader = refl; has_senders = d.has_senders; has_closed = ap (λ l. l ++ u.pushed ∷ []) d.has_closed; has_taken = d.has_taken; heard_pushed = d.heard_pushed };
    })
    (λ j y off e apart. record {
      sends = λ p. let t = (h.fitting j y e).sends p in let late : length h.closed ≤ y.number = t.is_open in
          let not_it : y.number ≢ u.number = λ i. apart (sym t.has_seat ∙ ap h.seat i ∙ s.has_seat) in
          record { has_seat = t.has_seat; was_made = t.was_made; is_open = omega (arith, length-append h.closed (u.pushed ∷ [])); has_pushed = t.has_pushed };
      takes = λ p. absurd (off (((h.fitting j y e).takes p).is_reader ∙ sym d.is_reader));
    }) in record {
      reader = port;
      seat = h.seat;
      senders = h.senders;
      closed = closed;
      left = h.left;
      held = h.held;
      held_is = h.held_is;
      of_senders = h.of_senders;
      few_closed = omega (arith, length-append h.closed (u.pushed ∷ []));
      closed_pushed = λ k p e. ⊎_elim (λ (x : get_elem? h.closed k ≡ some p). h.closed_pushed k p x)
          (λ (x : (k ≡ length h.closed) × (u.pushed ≡ p)). sym x.1 ∙ s.has_pushed ∙ ap (λ i. slips_sent_by i marked) (place ∙ sym x.0)) (at_snoc_or_end h.closed u.pushed p k e);
      fitting = all_set New vs other spent_answer_view record { sends = λ p. absurd (true≢false (sym p)); takes = λ p. absurd (true≢false (sym p)) } (λ j y apart e. now j y e apart);
    }

pub finds_full : (port : ℕ) (v : AnswerView) → v.pushes ≡ true → Learns InTurn port v (HoldsAfter v.number v.pushed)
finds_full port v may items views h at = (h.left, h.held, h.held_is, ((h.fitting port v at).sends may).has_pushed)

pub finds_none : (port : ℕ) (v : AnswerView) → v.pops ≡ true → Learns InTurn port v (AllThere v.taken v.heard)
finds_none port v may items views h at = let d = (h.fitting port v at).takes may in
    subst (IsAmong v.heard) (map-append (λ (y : Marked). y.1) h.left h.held ∙ ap (λ l. slips h.left ++ l) h.held_is ∙ ap (λ l. l ++ items) (sym d.has_taken)) d.heard_pushed

pub comes : (port : ℕ) (v : AnswerView) → v.pops ≡ true → length v.closed ≡ v.senders → Learns InTurn port v (λ items. ComeFrom v.closed v.taken)
comes port v may all items views h at = let d = (h.fitting port v at).takes may in (
  h.left,
  sym d.has_taken,
  subst (λ n. AllBelow n h.left) (sym (all ∙ d.has_senders)) (below_left h.senders h.left h.held h.of_senders),
  each_at (λ k p. IsPrefix (slips_sent_by k h.left) p) v.closed (λ k p e. (slips_sent_by k h.held, sym (h.closed_pushed k p (ap (λ l. get_elem? l k) (sym d.has_closed) ∙ e) ∙ sent-append k h.left h.held))),
)
