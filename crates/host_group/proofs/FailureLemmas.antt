-- What a failure's word tells.
use Rattle.std.proofs.Common.{◌≡◌, ℕ, ◌+◌, ◌*◌, ◌%◌, ◌<◌, refl, ap, ◌∙◌, arith, cond, ne_eqb}
use Rattle.host_record.specs.declared.status.Status.{Status}
use Rattle.host_record.specs.{Ok, NotSupported, NoMemory, InvalidArgs, OutOfRange, TooSmall, NotFound, Io}
use Rattle.host_group.specs.{no_failure, failure_word, status_of, status_of_bits}

-- the word of a failed status tells its index and its status
word_status : (i c : ℕ) → 0 < c → c < 8 → 8 * i + 7 < no_failure → status_of (8 * i + c) ≡ status_of_bits c
word_status i c pos lt small = let m : (8 * i + c) % 8 ≡ c = omega arith in ap (λ t. cond t Ok (status_of_bits ((8 * i + c) % 8))) (ne_eqb (8 * i + c) no_failure (λ e. omega arith)) ∙ ap status_of_bits m

pub status_of_word : (i : ℕ) (s : Status) → 8 * i + 7 < no_failure → status_of (failure_word i s) ≡ s
status_of_word i Ok small = refl
status_of_word i NotSupported small = word_status i 1 (omega arith) (omega arith) small
status_of_word i NoMemory small = word_status i 2 (omega arith) (omega arith) small
status_of_word i InvalidArgs small = word_status i 3 (omega arith) (omega arith) small
status_of_word i OutOfRange small = word_status i 4 (omega arith) (omega arith) small
status_of_word i TooSmall small = word_status i 5 (omega arith) (omega arith) small
status_of_word i NotFound small = word_status i 6 (omega arith) (omega arith) small
status_of_word i Io small = word_status i 7 (omega arith) (omega arith) small
