-- The answers that a log owes, where it tells of what a script asked for.
use Rattle.std.proofs.Common.{◌≡◌, ℕ, suc, ◌+◌, Bool, true, false, cond, not, List, [], ◌∷◌, ◌++◌, length, get_or, map, refl, sym, subst, ap, ◌∙◌, append_assoc, length-append, Option, Some, None}
use Rattle.std.specs.Prelude.{filter, filter_map}
use Rattle.std.specs.List.{cons_option, range_with_len}
use Rattle.std.proofs.Math.Seq.{get_or-append_seam}
use Rattle.std.proofs.lemmas.List.{map-append}
use Rattle.std.proofs.lemmas.List.Elements.{filter-append}
use Rattle.std.proofs.lemmas.Slice.Eq.{bytes_eq-Decides}
use Rattle.host_record.specs.declared.request.Request.{Request}
use Rattle.host_record.specs.{Finish, request_of}
use Rattle.host_model.specs.{Event, Attached, NotAttached, Filled, Sent, Received, Shown, is_owing, owed, requests, sent, sent_bytes}
use Rattle.host_report.specs.{LineAsk, are_calls_for, attach, before_call, calls_asked, calls_in, fill, is_call_for, is_wait, send, show}
use Rattle.script_model.specs.{ScriptLine, Attach, Fill, Show, Send, WaitAll, WaitFor, owes, owed as owed_by}
use Rattle.script_model.proofs.PrintedValues.{and_true}
use Rattle.script_played.specs.{OwedAsWritten, ask_of}

-- ---- the records that were asked for

abbrev pub asked_bytes : LineAsk → Option (List ℕ)
asked_bytes (send bytes) = Some bytes
asked_bytes _ = None

pub call_sends : (a : LineAsk) (e : Event) → is_call_for a e ≡ true → sent_bytes e ≡ asked_bytes a
call_sends (send bytes) (Sent index sent) h = ap Some (sym ((bytes_eq-Decides bytes sent).0 h))
call_sends (attach pages) (Attached given id) h = refl
call_sends (attach pages) (NotAttached given cause) h = refl
call_sends (fill id block count byte) (Filled i b c y done) h = refl
call_sends (show id block count) (Shown i b c done bytes) h = refl
call_sends _ _ h = cc

-- the records of a log before a call are those that were asked for before it
sent_before : (finish : Finish) (before rest : List LineAsk) (log : List Event) → are_calls_for finish (before ++ rest) (calls_in log) ≡ true
    → sent (before_call (length before) log) ≡ filter_map asked_bytes before
sent_before finish [] rest [] h = refl
sent_before finish (a ∷ before) rest [] h = cc
sent_before finish before rest (Received bytes ∷ log) h = sent_before finish before rest log h
sent_before finish [] rest (e ∷ log) h = refl
sent_before finish (a ∷ before) rest (e ∷ log) h =
    let both = and_true (is_call_for a e) (are_calls_for finish (before ++ rest) (calls_in log)) h in
    ap (λ o. cons_option o (sent (before_call (length before) log))) (call_sends a e both.0)
    ∙ ap (cons_option (asked_bytes a)) (sent_before finish before rest log both.1)

-- ---- how many of them owe

counted : {A B : Type 0} (b : Bool) (x : A) (y : B) (xs : List A) (ys : List B) → length xs ≡ length ys → length (cond b (x ∷ xs) xs) ≡ length (cond b (y ∷ ys) ys)
counted true x y xs ys h = ap suc h
counted false x y xs ys h = h

-- as many indices as elements pass
owing_from : (p : Request → Bool) (d : Request) (front rs : List Request)
    → length (filter (λ i. p (get_or (front ++ rs) i d)) (range_with_len (length front) (length rs))) ≡ length (filter p rs)
owing_from p d front [] = refl
owing_from p d front (r ∷ rs) =
    let next : length (front ++ r ∷ []) ≡ length front + 1 = length-append front (r ∷ []) in
    let more = owing_from p d (front ++ r ∷ []) rs in
    let regrouped : (front ++ r ∷ []) ++ rs ≡ front ++ r ∷ rs = append_assoc front (r ∷ []) rs in
    let tail : length (filter (λ i. p (get_or (front ++ r ∷ rs) i d)) (range_with_len (length front + 1) (length rs))) ≡ length (filter p rs) =
    subst (λ (n : ℕ). length (filter (λ i. p (get_or (front ++ r ∷ rs) i d)) (range_with_len n (length rs))) ≡ length (filter p rs)) next
    (subst (λ (xs : List Request). length (filter (λ i. p (get_or xs i d)) (range_with_len (length (front ++ r ∷ [])) (length rs))) ≡ length (filter p rs)) regrouped more) in
    ap (λ (x : Request). length (cond (p x) (length front ∷ filter (λ i. p (get_or (front ++ r ∷ rs) i d)) (range_with_len (length front + 1) (length rs))) (filter (λ i. p (get_or (front ++ r ∷ rs) i d)) (range_with_len (length front + 1) (length rs))))) (get_or-append_seam front r rs d)
    ∙ counted (p r) (length front) r (filter (λ i. p (get_or (front ++ r ∷ rs) i d)) (range_with_len (length front + 1) (length rs))) (filter p rs) tail

owing_records : (rs : List Request) → length (owed rs) ≡ length (filter is_owing rs)
owing_records rs = owing_from is_owing (request_of []) [] rs

owing_lines : (lines : List ScriptLine) → length (filter is_owing (map request_of (filter_map asked_bytes (calls_asked (map ask_of lines))))) ≡ owed_by lines
unfolding owed_by
owing_lines [] = refl
owing_lines (Attach pages ∷ lines) = owing_lines lines
owing_lines (Fill id block count byte ∷ lines) = owing_lines lines
owing_lines (Show id block count ∷ lines) = owing_lines lines
owing_lines (Send bytes ∷ lines) = counted (is_owing (request_of bytes)) (request_of bytes) (Send bytes) (filter is_owing (map request_of (filter_map asked_bytes (calls_asked (map ask_of lines))))) (filter owes lines) (owing_lines lines)
owing_lines (WaitAll ∷ lines) = owing_lines lines
owing_lines (WaitFor total ∷ lines) = owing_lines lines

calls-append : (before rest : List ScriptLine) → calls_asked (map ask_of (before ++ rest)) ≡ calls_asked (map ask_of before) ++ calls_asked (map ask_of rest)
calls-append before rest = ap calls_asked (map-append ask_of before rest) ∙ filter-append (λ a. not (is_wait a)) (map ask_of before) (map ask_of rest)

pub owed_as_written : OwedAsWritten
owed_as_written plan s before rest played whole =
    let calls : are_calls_for plan.finish (calls_asked (map ask_of before) ++ calls_asked (map ask_of rest)) (calls_in s.log.items) ≡ true =
    ap (λ asks. are_calls_for plan.finish asks (calls_in s.log.items)) (sym (ap (λ ls. calls_asked (map ask_of ls)) whole ∙ calls-append before rest)) ∙ played.calls in
    let records = sent_before plan.finish (calls_asked (map ask_of before)) (calls_asked (map ask_of rest)) s.log.items calls in
    owing_records (requests (before_call (length (calls_asked (map ask_of before))) s.log.items))
    ∙ ap (λ bs. length (filter is_owing (map request_of bs))) records
    ∙ owing_lines before
