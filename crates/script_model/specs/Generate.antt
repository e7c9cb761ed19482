-- The scripts that are made from a seed.
use Rattle.std.specs.Prelude.{ℕ, zero, suc, ◌+◌, ◌*◌, ◌/◌, ◌%◌, ◌==◌, ◌||◌, nat_lt, if◌then◌else◌}
use Rattle.std.specs.Prelude.{List, [], ◌∷◌, ◌++◌}
use Rattle.host_record.specs.declared.request.Request.{Request}
use Rattle.host_record.specs.declared.finish.Finish.TheVariants.{Drain}
use Rattle.host_record.specs.Request.{request_bytes}
use Rattle.script_model.specs.declared.script.ScriptLine.{ScriptLine}
use Rattle.script_model.specs.declared.script.ScriptLine.TheVariants.{Attach, Fill, Show, Send}
use Rattle.script_model.specs.declared.script.ScriptLine.TheVariants.{WaitAll}
use Rattle.script_model.specs.Plans.{PlannedSession}

-- the state after a draw, and what the draw that led to a state gives
unfoldable pub next : ℕ → ℕ
next x = (1103515245 * x + 12345) % 2147483648

abbrev pub drawn : ℕ → ℕ
drawn x = x / 65536

-- a request that moves blocks between the device and buffer 1
abbrev pub transfer : ℕ → ℕ → ℕ → ℕ → ℕ → Request
transfer command n len buffer block =
    record {
      command = command;
      reqid = n;
      group = 0;
      vmoid = 1;
      length = len;
      vmo_offset = buffer;
      dev_offset = block;
    }

-- request n by its four draws
unfoldable pub request_from : ℕ → ℕ → ℕ → ℕ → ℕ → Request
request_from n a b c e =
    let kind = a % 8 in
    let len = 1 + b % 4 in
    let buffer = c % 5 in
    let block = e % 16 in
    if nat_lt kind 3 then transfer 2 n len buffer block else if nat_lt kind 6
    then transfer 1 n len buffer block else if kind == 6
    then record {
      command = 4;
      reqid = n;
      group = 0;
      vmoid = 0;
      length = len;
      vmo_offset = 0;
      dev_offset = block;
    }
    else record {
      command = 3;
      reqid = n;
      group = 0;
      vmoid = 0;
      length = 0;
      vmo_offset = 0;
      dev_offset = 0;
    }

-- the state after the four draws of a request
abbrev pub after_request : ℕ → ℕ
after_request x = next (next (next (next x)))

-- request n after state x
unfoldable pub request_line : ℕ → ℕ → ScriptLine
request_line x n =
    let a = next x in
    let b = next a in
    let c = next b in
    let e = next c in
    Send (request_bytes (request_from n (drawn a) (drawn b) (drawn c) (drawn e)))

-- a wait comes after every sixteenth request of a session, and after its last one
abbrev pub waits : ℕ → ℕ → List ScriptLine
waits n left = if (n + 1) % 16 == 0 || left == 0 then WaitAll ∷ [] else []

-- so many requests from n on, after state x
abbrev pub request_lines : ℕ → ℕ → ℕ → List ScriptLine
request_lines x n zero = []
request_lines x n (suc left) =
    request_line x n ∷ waits n left ++ request_lines (after_request x) (n + 1) left

-- the state after the draws of so many requests
abbrev pub after_requests : ℕ → ℕ → ℕ
after_requests x zero = x
after_requests x (suc left) = after_requests (after_request x) left

-- session s, from 1
unfoldable pub session_from : ℕ → ℕ → ℕ → PlannedSession
session_from x s requests = record {
  part = if s % 2 == 1 then 1 else 2;
  lines = Attach 8 ∷ Fill 1 0 8 s ∷ request_lines x 0 requests ++ Show 1 0 8 ∷ [];
  finish = Drain;
}

-- so many sessions from s on, after state x
abbrev pub sessions_from : ℕ → ℕ → ℕ → ℕ → List PlannedSession
sessions_from x s requests zero = []
sessions_from x s requests (suc left) =
    session_from x s requests ∷ sessions_from (after_requests x requests) (s + 1) requests left

abbrev pub generated : ℕ → ℕ → ℕ → List PlannedSession
generated seed sessions requests = sessions_from seed 1 requests sessions
