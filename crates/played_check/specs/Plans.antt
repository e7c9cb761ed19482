-- What a plan asks of a client, in the words of a played script.
use Rattle.std.specs.Prelude.{ℕ, ◌+◌, Bool, true, ◌==◌, ◌&&◌, nat_le, if◌then◌else◌, List, [], ◌∷◌}
use Rattle.std.specs.Prelude.{length, map}
use Rattle.host_model.specs.declared.event.Event.{Event}
use Rattle.host_model.specs.Groups.{owed}
use Rattle.host_model.specs.Log.{received, requests}
use Rattle.host_report.specs.Played as played
use Rattle.host_report.specs.Played.{before_call, is_wait, wait_all, wait_for}
use Rattle.played_check.specs.declared.plan.Ask.{Ask}
use Rattle.played_check.specs.declared.plan.Ask.TheVariants.{Attach, Fill, Show, Send, WaitAll}
use Rattle.played_check.specs.declared.plan.Ask.TheVariants.{WaitFor}
use Rattle.played_check.specs.declared.plan.Plan.{Plan}

abbrev pub played_ask : Ask → played.LineAsk
played_ask (Attach pages) = played.attach pages
played_ask (Fill id block count byte) = played.fill id block count byte
played_ask (Show id block count) = played.show id block count
played_ask (Send bytes) = played.send bytes
played_ask WaitAll = played.wait_all
played_ask (WaitFor total) = played.wait_for total

abbrev pub played_plan : Plan → played.Plan
played_plan p = record { part = p.part; asks = map played_ask p.asks.items; finish = p.finish }

-- ---- waits, by the number of calls before

abbrev pub calls_by : played.LineAsk → ℕ
calls_by a = if is_wait a then 0 else 1

-- whether as much was received before the client's call of this number as the wait asks for
abbrev pub is_waited_at : ℕ → List Event → played.LineAsk → Bool
is_waited_at n log wait_all =
    let past = before_call n log in length (received past) == length (owed (requests past))
is_waited_at n log (wait_for total) = nat_le total (length (received (before_call n log)))
is_waited_at n log _ = true

abbrev pub are_waited_from : ℕ → List Event → List played.LineAsk → Bool
are_waited_from n log [] = true
are_waited_from n log (a ∷ asks) = is_waited_at n log a && are_waited_from (n + calls_by a) log asks
