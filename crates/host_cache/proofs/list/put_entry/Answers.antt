use Rattle.std.proofs.Common.{◌∙◌, ap}
use Rattle.lru.specs.LruCache.{lru_cache}
use Rattle.host_cache.proofs.EntryLemmas.{Entries}
use Rattle.host_cache.proofs.LruLemmas.{put_in_front}
use Rattle.host_cache.proofs.list.put_entry.Goals as goal

pub returns-in-Ok-clause-lines : goal.returns-in-Ok-clause-lines
returns-in-Ok-clause-lines c =
    let l = c.args.lines.now in
    c.in-Ok.ensures.entries ∙ ap (λ (es : Entries). lru_cache es l.cap) (put_in_front l c.args.b c.args.line c.requires.cap c.requires.room)
