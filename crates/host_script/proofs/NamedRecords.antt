-- Whether the named line of a record gives its bytes, by the request that it spells.
use Rattle.std.proofs.Common.{◌≡◌, ℕ, Bool, true, false, cond, ◌&&◌, List, Some, None, subst, sym, ap, ◌∙◌}
use Rattle.std.specs.Str.{bytes_eq}
use Rattle.host_record.specs.declared.request.Request.{Request}
use Rattle.host_record.specs.{Opcode, opcode, request_bytes, request_of}
use Rattle.script_model.specs.{has_named_group, named_request, is_named, named_or_raw, named_words, raw_words, send_words}
use Rattle.script_model.proofs.NamedLines.{IsSized, is_named-by}

by_request : (code : Opcode) (bytes : List ℕ) (r : Request) → r ≡ request_of bytes → IsSized r → is_named code bytes ≡ (has_named_group r && bytes_eq (request_bytes (named_request code r)) bytes)
by_request code bytes r e s =
    subst (λ (t : Request). is_named code bytes ≡ (has_named_group t && bytes_eq (request_bytes (named_request code t)) bytes)) (sym e) (is_named-by code bytes (subst IsSized e s))

pub named_where : (code : Opcode) (bytes : List ℕ) (r named : Request) (spelled : List ℕ) (same : Bool) → r ≡ request_of bytes → IsSized r → has_named_group r ≡ true → named ≡ named_request code r
    → spelled ≡ request_bytes named → same ≡ bytes_eq spelled bytes → same ≡ is_named code bytes
named_where code bytes r named spelled same e s grouped named-is spelled-is same-is =
    same-is ∙ ap (λ (bs : List ℕ). bytes_eq bs bytes) (spelled-is ∙ ap request_bytes named-is)
    ∙ sym (by_request code bytes r e s ∙ ap (λ b. b && bytes_eq (request_bytes (named_request code r)) bytes) grouped)

pub unnamed_where : (code : Opcode) (bytes : List ℕ) (r : Request) → r ≡ request_of bytes → IsSized r → has_named_group r ≡ false → false ≡ is_named code bytes
unnamed_where code bytes r e s grouped = sym (by_request code bytes r e s ∙ ap (λ b. b && bytes_eq (request_bytes (named_request code r)) bytes) grouped)

-- the words of a record, by its opcode
pub send_words-some : (bytes : List ℕ) (r : Request) (code : Opcode) → r ≡ request_of bytes → opcode r ≡ Some code → send_words bytes ≡ cond (is_named code bytes) (named_words code r) (raw_words bytes)
unfolding send_words
send_words-some bytes r code e o =
    ap (named_or_raw bytes) (ap opcode (sym e) ∙ o)
    ∙ ap (λ (t : Request). cond (is_named code bytes) (named_words code t) (raw_words bytes)) (sym e)

pub send_words-none : (bytes : List ℕ) (r : Request) → r ≡ request_of bytes → opcode r ≡ None → send_words bytes ≡ raw_words bytes
unfolding send_words
send_words-none bytes r e o = ap (named_or_raw bytes) (ap opcode (sym e) ∙ o)
