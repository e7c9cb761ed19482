use Rattle.std.proofs.Common.{◌∷◌, [], ◌++◌, List, sym, ◌∙◌, ap}
use Rattle.std.proofs.lemmas.List.{append-nil}
use Rattle.host_gpt.proofs.EntryLemmas.{used_one, used_none}
use Rattle.host_block.specs.{WithRoom}
use Rattle.host_gpt.specs.{Entry}
use Rattle.host_gpt.proofs.array.push_used.Goals as goal

pub returns-then-is_used_entry-clause-added : goal.returns-then-is_used_entry-clause-added
returns-then-is_used_entry-clause-added c =
    ap (λ (l : WithRoom Entry). l.items) c.push.ensures
    ∙ ap (λ (e : Entry). c.args.entries.now.items ++ e ∷ []) c.parse.ensures
    ∙ ap (λ (l : List Entry). c.args.entries.now.items ++ l) (sym (used_one c.args.number c.args.bytes.now (sym c.if-is_used_entry.ensures)))

pub returns-else-is_used_entry-clause-added : goal.returns-else-is_used_entry-clause-added
returns-else-is_used_entry-clause-added c = sym (append-nil c.args.entries.now.items) ∙ ap (λ (l : List Entry). c.args.entries.now.items ++ l) (sym (used_none c.args.number c.args.bytes.now (sym c.is_used_entry.ensures ∙ c.if-is_used_entry.false)))
