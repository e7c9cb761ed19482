-- What a look over the list finds.
use Rattle.std.specs.Prelude.{ℕ, Bool, ◌&&◌, Option, Some, None, List, fold, min, nat_le}
use Rattle.std.specs.Prelude.{if◌then◌else◌}
use Rattle.host_cache.specs.declared.line.Line.{Line}

abbrev pub lesser : Option ℕ → ℕ → ℕ
lesser None b = b
lesser (Some a) b = min a b

-- the lesser of the block found so far and this one, where it is dirty and not below `from`
abbrev pub nearer_of : ℕ → Option ℕ → ℕ → Bool → Option ℕ
nearer_of from least b dirty = if dirty && nat_le from b then Some (lesser least b) else least

-- the first dirty block that isn't below `from`
abbrev pub first_dirty : ℕ → List (ℕ × Line) → Option ℕ
first_dirty from lines = fold (λ least e. nearer_of from least e.0 e.1.dirty) None lines
