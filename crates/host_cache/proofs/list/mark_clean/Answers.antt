use Rattle.std.proofs.Common.{sym, ◌∙◌, ap}
use Rattle.std.specs.Option.{option_copied_mut}
use Rattle.lru.specs.LruCache.{lru_cache}
use Rattle.host_cache.proofs.EntryLemmas.{Entries}
use Rattle.host_cache.proofs.CleanLemmas.{set_cleaned, cleaned_absent}
use Rattle.host_cache.proofs.list.mark_clean.Goals as goal

pub returns-in-Some : goal.returns-in-Some
returns-in-Some c =
    ap (λ (l : Entries). lru_cache l c.args.lines.now.cap) (set_cleaned c.args.lines.now.entries c.args.b c.in-Some.line.now c.requires (sym c.in-Some.ensures.value))

pub returns-in_default : goal.returns-in_default
returns-in_default c =
    ap (λ (l : Entries). lru_cache l c.args.lines.now.cap) (sym (cleaned_absent c.args.lines.now.entries c.args.b (sym c.peek_mut.ensures.value ∙ ap (λ o. option_copied_mut o) c.in_default.is)))
