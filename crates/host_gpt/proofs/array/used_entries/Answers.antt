use Rattle.std.proofs.Common.{◌≡◌, ℕ, ◌+◌, ◌-◌, ◌*◌, ◌++◌, List, length, take, drop, sym, ◌∙◌, ap, arith, length-append}
use Rattle.host_gpt.proofs.EntryLemmas.{entries_more, entries_none, used_few}
use Rattle.host_gpt.specs.{entries_from, used, Entry}
use Rattle.host_gpt.proofs.UsedLemmas.{are_used}
use Rattle.host_gpt.proofs.array.used_entries.Goals as goal

pub loop-i-preserved : goal.loop-i-preserved
loop-i-preserved c =
    let i = c.loop-i.i in
    let size = c.args.size in
    let array = c.args.array.now in
    let old = c.loop-i.entries.items in
    let one : i * size + size - i * size ≡ size = omega arith in
    let added : c.push_used.new.entries.items ≡ old ++ used (i + 1) (take size (drop (i * size) array)) =
    c.push_used.ensures.added ∙ ap (λ (n : ℕ). old ++ used (i + 1) (take n (drop (i * size) array))) one in
    record {
      room = c.push_used.ensures.room ∙ c.loop-i.invariant.room;
      few = omega (arith, ap length added, length-append old (used (i + 1) (take size (drop (i * size) array))), used_few (i + 1) (take size (drop (i * size) array)), c.loop-i.invariant.few);
      read = ap (λ (l : List Entry). l ++ entries_from (i + 1 + 1) size (c.args.count - (i + 1)) (drop ((i + 1) * size) array)) added
          ∙ sym (entries_more old i c.args.count size array (omega arith))
          ∙ c.loop-i.invariant.read;
    }

pub returns-clause-entries : goal.returns-clause-entries
returns-clause-entries c =
    sym (entries_none (c.loop-i.entries.items) (c.loop-i.i + 1) c.args.size (c.args.count - c.loop-i.i) (drop (c.loop-i.i * c.args.size) c.args.array.now) (omega arith))
    ∙ c.loop-i.invariant.read

pub returns-clause-used : goal.returns-clause-used
returns-clause-used c = are_used 1 c.args.size c.args.count c.args.array.now c.loop-i.entries.items (returns-clause-entries c)
