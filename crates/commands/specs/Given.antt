-- Files that are given to be read. Assumes nothing: these are definitions.
use Rattle.records.specs.declared.names.name.Name.{Name}
use Rattle.std.specs.Prelude.{Option}
use Rattle.std.specs.Prelude.{ℕ, zero, suc, cond, List, eqb, length, get_or, drop}
use Rattle.records.specs.names.Name.{name_of}

-- the place behind the last slash (47) among the first n bytes; 0 where there is none
unfoldable pub behind_slash : ℕ → List ℕ → ℕ
behind_slash zero path = zero
behind_slash (suc n) path = cond (eqb (get_or path n 0) 47) (suc n) (behind_slash n path)

-- where a path's last component begins
abbrev pub name_start : List ℕ → ℕ
name_start path = behind_slash (length path) path

-- what the last component tells
abbrev pub name_in : List ℕ → Option Name
name_in path = name_of (drop (name_start path) path)
