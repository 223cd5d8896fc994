-- A number for a line's number: equal for equal ones. Assumes nothing: these are definitions.
use Rattle.std.specs.Prelude.{List, ℕ, ◌+◌, ◌*◌, ◌%◌}
use Rattle.laws.specs.Lists.{table}
use Rattle.fields.specs.declared.number.Number.{Number}
use Rattle.store.specs.numbers.Lines.{number_at}

-- the lower 38 bits of the first field, then the lower 26 of the last
unfoldable pub key_of : Number → ℕ
key_of n = n.first.0 % 274877906944 * 67108864 + n.last.0 % 67108864

-- those of the first n lines
unfoldable pub keys_of : ℕ → List ℕ → List ℕ
keys_of n lines = table n (λ (k : ℕ). key_of (number_at lines k))
