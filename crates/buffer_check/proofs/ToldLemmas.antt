-- What a log tells, event by event.
use Rattle.std.proofs.Common.{◌≡◌, ℕ, suc, ◌+◌, true, false, cond, List, [], ◌∷◌, ◌++◌, length, filter, Option, Some, None, is_some, refl, ap, ◌∙◌, length-append}
use Rattle.std.proofs.lemmas.List.Elements.{filter_map-append}
use Rattle.std.specs.List.{cons_option}
use Rattle.host_model.specs.{Event, Attached, NotAttached, Filled, Sent, Received, Shown, Drained, Aborted, MemEvent, entry_after, told, map_after, sent, sent_bytes}
use Rattle.buffer_check.specs.{entry_at, has_entry, sends_in, told_from}

one_sent : (e : Event) → length (sent (e ∷ [])) ≡ sends_in e
one_sent (Attached pages id) = refl
one_sent (NotAttached pages cause) = refl
one_sent (Filled id block count byte done) = refl
one_sent (Sent index bytes) = refl
one_sent (Received bytes) = refl
one_sent (Shown id block count done bytes) = refl
one_sent Drained = refl
one_sent Aborted = refl

sent-push : (before : List Event) (e : Event) → length (sent (before ++ e ∷ [])) ≡ length (sent before) + sends_in e
sent-push before e =
    ap length (filter_map-append sent_bytes before (e ∷ []))
    ∙ length-append (sent before) (sent (e ∷ []))
    ∙ ap (λ n. length (sent before) + n) (one_sent e)

entry_is : (before : List Event) (e : Event) → entry_after before e ≡ entry_at (length (sent before)) e
entry_is before (Attached pages id) = refl
entry_is before (NotAttached pages cause) = refl
entry_is before (Filled id block count byte true) = refl
entry_is before (Filled id block count byte false) = refl
entry_is before (Sent index bytes) = refl
entry_is before (Received bytes) = refl
entry_is before (Shown id block count true bytes) = refl
entry_is before (Shown id block count false bytes) = refl
entry_is before Drained = refl
entry_is before Aborted = refl

told_after : (before log : List Event) → map_after entry_after before log ≡ told_from (length (sent before)) log
told_after before [] = refl
told_after before (e ∷ log) =
    ap (λ o. cons_option o (map_after entry_after (before ++ e ∷ []) log)) (entry_is before e)
    ∙ ap (cons_option (entry_at (length (sent before)) e)) (told_after (before ++ e ∷ []) log ∙ ap (λ n. told_from n log) (sent-push before e))

pub told_is : (log : List Event) → told log ≡ told_from 0 log
told_is log = told_after [] log

-- ---- how many there are

has_is : (n : ℕ) (e : Event) → is_some (entry_at n e) ≡ has_entry e
has_is n (Attached pages id) = refl
has_is n (NotAttached pages cause) = refl
has_is n (Filled id block count byte true) = refl
has_is n (Filled id block count byte false) = refl
has_is n (Sent index bytes) = refl
has_is n (Received bytes) = refl
has_is n (Shown id block count true bytes) = refl
has_is n (Shown id block count false bytes) = refl
has_is n Drained = refl
has_is n Aborted = refl

length-cons : (o : Option MemEvent) (e : Event) (xs : List MemEvent) (es : List Event) → length xs ≡ length es → length (cons_option o xs) ≡ length (cond (is_some o) (e ∷ es) es)
length-cons None e xs es h = h
length-cons (Some x) e xs es h = ap suc h

length_from : (n : ℕ) (log : List Event) → length (told_from n log) ≡ length (filter has_entry log)
length_from n [] = refl
length_from n (e ∷ log) =
    length-cons (entry_at n e) e (told_from (n + sends_in e) log) (filter has_entry log) (length_from (n + sends_in e) log)
    ∙ ap (λ b. length (cond b (e ∷ filter has_entry log) (filter has_entry log))) (has_is n e)

pub length_told : (log : List Event) → length (told log) ≡ length (filter has_entry log)
length_told log = ap length (told_is log) ∙ length_from 0 log
