-- What the entry array says.
use Prim.Native.Nat.{zero, suc}
use Rattle.std.specs.Prelude.{ℕ, ◌+◌, ◌==◌, Bool, not, IsTrue, if◌then◌else◌, List, [], ◌∷◌, ◌++◌}
use Rattle.std.specs.Prelude.{take, drop, map, All}
use Rattle.std.specs.List.{list_all}
use Rattle.std.specs.List.Sorted.{IsStrictlyIncreasing}
use Rattle.host_gpt.specs.Header.{bytes_at, number_at}
use Rattle.host_gpt.specs.declared.entry.Entry.{Entry}

-- n units of two bytes
unfoldable pub units : ℕ → List ℕ → List ℕ
units zero bytes = []
units (suc n) bytes = number_at 0 2 bytes ∷ units n (drop 2 bytes)

-- whether all of these bytes are zero
abbrev pub is_zero : List ℕ → Bool
is_zero bytes = list_all (λ byte. byte == 0) bytes

-- whether the entry in these bytes is used: its type isn't all zero
abbrev pub is_used : List ℕ → Bool
is_used e = not (is_zero (take 16 e))

-- the entry of this number in these bytes
abbrev pub entry_in_bytes : ℕ → List ℕ → Entry
entry_in_bytes number e = record {
  number = number;
  type_id = bytes_at 0 16 e;
  id = bytes_at 16 16 e;
  first = number_at 32 8 e;
  last = number_at 40 8 e;
  attributes = number_at 48 8 e;
  name = units 36 (bytes_at 56 72 e);
}

-- the entry of this number as a list: none where it isn't used
unfoldable pub used : ℕ → List ℕ → List Entry
used number e = if is_used e then entry_in_bytes number e ∷ [] else []

-- the used ones of n entries of this size, numbered from here on
unfoldable pub entries_from : ℕ → ℕ → ℕ → List ℕ → List Entry
entries_from number size zero array = []
entries_from number size (suc n) array =
    used number (take size array) ++ entries_from (number + 1) size n (drop size array)

-- used entries, each number above the one before
pub record AreUsed (entries : List Entry) : Type 0 where
  pub used : All (λ e. IsTrue (not (is_zero e.type_id))) entries
  pub rising : IsStrictlyIncreasing (map (λ e. e.number) entries)
