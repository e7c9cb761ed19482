-- What a buffer story tells of the buffers that were given before a record is what the log tells.
use Rattle.std.proofs.Common.{◌≡◌, ℕ, zero, suc, ◌+◌, ◌<◌, true, false, ◌==◌, ◌&&◌, nat_le, cond, List, [], ◌∷◌, ◌++◌, Some, None, length, filter_map, slice_get, refl, ap, ◌∙◌, arith, length-append}
use Rattle.std.proofs.Math.Bool.{and-true, and-false}
use Rattle.std.proofs.lemmas.Bool.{le-leb, lt-leb}
use Rattle.std.proofs.lemmas.List.Elements.{filter_map-append}
use Rattle.std.specs.List.{cons_option}
use Rattle.host_model.specs.{Event, Attached, NotAttached, Filled, Sent, Received, Shown, Drained, Aborted, entry_after, told, lent_by, lent_in, map_after, sent, sent_bytes, pages_of, before_sent, given_before}

-- how many records were sent after one more event
sent-push : (before : List Event) (e : Event) (n : ℕ) → length (sent before) ≡ n → length (sent (before ++ e ∷ [])) ≡ n + length (cons_option (sent_bytes e) [])
sent-push before e n h = ap length (filter_map-append sent_bytes before (e ∷ [])) ∙ length-append (sent before) (sent (e ∷ [])) ∙ ap (λ k. k + length (cons_option (sent_bytes e) [])) h

module _ (i v : ℕ) where
  -- what was given after record i was sent isn't lent for it
  late : (log before : List Event) (n : ℕ) → length (sent before) ≡ n → i < n → filter_map (lent_by i v) (map_after entry_after before log) ≡ []
  late [] before n h p = refl
  late (Attached pages id ∷ log) before n h p =
      let rest : List ℕ = filter_map (lent_by i v) (map_after entry_after (before ++ Attached pages id ∷ []) log) in
      let after : nat_le (length (sent before)) i ≡ false = lt-leb (length (sent before)) i (omega (arith, h, p)) in
      ap (λ b. cons_option (cond (id == v && b) (Some pages) None) rest) after
      ∙ ap (λ b. cons_option (cond b (Some pages) None) rest) (and-false (id == v))
      ∙ late log (before ++ Attached pages id ∷ []) n (sent-push before (Attached pages id) n h ∙ omega arith) p
  late (NotAttached pages cause ∷ log) before n h p = late log (before ++ NotAttached pages cause ∷ []) n (sent-push before (NotAttached pages cause) n h ∙ omega arith) p
  late (Filled id block count byte true ∷ log) before n h p = late log (before ++ Filled id block count byte true ∷ []) n (sent-push before (Filled id block count byte true) n h ∙ omega arith) p
  late (Filled id block count byte false ∷ log) before n h p = late log (before ++ Filled id block count byte false ∷ []) n (sent-push before (Filled id block count byte false) n h ∙ omega arith) p
  late (Sent index bytes ∷ log) before n h p = late log (before ++ Sent index bytes ∷ []) (n + 1) (sent-push before (Sent index bytes) n h ∙ omega arith) (omega (arith, p))
  late (Received bytes ∷ log) before n h p = late log (before ++ Received bytes ∷ []) n (sent-push before (Received bytes) n h ∙ omega arith) p
  late (Shown id block count true bytes ∷ log) before n h p = late log (before ++ Shown id block count true bytes ∷ []) n (sent-push before (Shown id block count true bytes) n h ∙ omega arith) p
  late (Shown id block count false bytes ∷ log) before n h p = late log (before ++ Shown id block count false bytes ∷ []) n (sent-push before (Shown id block count false bytes) n h ∙ omega arith) p
  late (Drained ∷ log) before n h p = late log (before ++ Drained ∷ []) n (sent-push before Drained n h ∙ omega arith) p
  late (Aborted ∷ log) before n h p = late log (before ++ Aborted ∷ []) n (sent-push before Aborted n h ∙ omega arith) p

  -- what was given before is
  early : (log before : List Event) (n k : ℕ) → length (sent before) ≡ n → i ≡ n + k → filter_map (lent_by i v) (map_after entry_after before log) ≡ filter_map (pages_of v) (before_sent log k)
  early [] before n k h p = refl
  early (Attached pages id ∷ log) before n k h p =
      let rest : List ℕ = filter_map (lent_by i v) (map_after entry_after (before ++ Attached pages id ∷ []) log) in
      let within : nat_le (length (sent before)) i ≡ true = le-leb (length (sent before)) i (omega (arith, h, p)) in
      ap (λ b. cons_option (cond (id == v && b) (Some pages) None) rest) within
      ∙ ap (λ b. cons_option (cond b (Some pages) None) rest) (and-true (id == v))
      ∙ ap (λ xs. cons_option (cond (id == v) (Some pages) None) xs) (early log (before ++ Attached pages id ∷ []) n k (sent-push before (Attached pages id) n h ∙ omega arith) p)
  early (NotAttached pages cause ∷ log) before n k h p = early log (before ++ NotAttached pages cause ∷ []) n k (sent-push before (NotAttached pages cause) n h ∙ omega arith) p
  early (Filled id block count byte true ∷ log) before n k h p = early log (before ++ Filled id block count byte true ∷ []) n k (sent-push before (Filled id block count byte true) n h ∙ omega arith) p
  early (Filled id block count byte false ∷ log) before n k h p = early log (before ++ Filled id block count byte false ∷ []) n k (sent-push before (Filled id block count byte false) n h ∙ omega arith) p
  early (Sent index bytes ∷ log) before n zero h p = late log (before ++ Sent index bytes ∷ []) (n + 1) (sent-push before (Sent index bytes) n h ∙ omega arith) (omega (arith, p))
  early (Sent index bytes ∷ log) before n (suc k) h p = early log (before ++ Sent index bytes ∷ []) (n + 1) k (sent-push before (Sent index bytes) n h ∙ omega arith) (omega (arith, p))
  early (Received bytes ∷ log) before n k h p = early log (before ++ Received bytes ∷ []) n k (sent-push before (Received bytes) n h ∙ omega arith) p
  early (Shown id block count true bytes ∷ log) before n k h p = early log (before ++ Shown id block count true bytes ∷ []) n k (sent-push before (Shown id block count true bytes) n h ∙ omega arith) p
  early (Shown id block count false bytes ∷ log) before n k h p = early log (before ++ Shown id block count false bytes ∷ []) n k (sent-push before (Shown id block count false bytes) n h ∙ omega arith) p
  early (Drained ∷ log) before n k h p = early log (before ++ Drained ∷ []) n k (sent-push before Drained n h ∙ omega arith) p
  early (Aborted ∷ log) before n k h p = early log (before ++ Aborted ∷ []) n k (sent-push before Aborted n h ∙ omega arith) p

pub lent_in-told : (log : List Event) (i v : ℕ) → lent_in (told log) i v ≡ given_before log i v
lent_in-told log i v = ap (λ xs. slice_get xs 0) (early i v log [] 0 i refl (omega arith))
