-- What a line of a script asks of its client, in the judge's words.
use Rattle.played_check.specs.declared.plan.Ask.{Ask}
use Rattle.played_check.specs.declared.plan.Ask.TheVariants as ask
use Rattle.script_model.specs.declared.script.ScriptLine.{ScriptLine}
use Rattle.script_model.specs.declared.script.ScriptLine.TheVariants as line

abbrev pub script_ask : ScriptLine → Ask
script_ask (line.Attach pages) = ask.Attach pages
script_ask (line.Fill id block count byte) = ask.Fill id block count byte
script_ask (line.Show id block count) = ask.Show id block count
script_ask (line.Send bytes) = ask.Send bytes
script_ask line.WaitAll = ask.WaitAll
script_ask (line.WaitFor total) = ask.WaitFor total
