-- What a status field is read as, and how a kind is written. Assumes nothing: these are definitions.
use Rattle.std.specs.Prelude.{Option, Some, None}
use Rattle.std.specs.Prelude.{ℕ, Bool, true, cond, List, [], ◌∷◌, eqb, length, get_or}
use Rattle.fields.specs.Field.{maybe_of, maybe_of_word, maybe_text}
use Rattle.fields.specs.declared.kind.Kind.{Kind}
use Rattle.fields.specs.declared.kind.Kind.TheVariants.{P, L, Z}

-- P, L and Z by three marks
unfoldable pub kind_by : ℕ → ℕ → ℕ → ℕ → Option Kind
kind_by p l z b = cond (eqb b p) (Some P) (cond (eqb b l) (Some L) (cond (eqb b z) (Some Z) None))

-- one byte: 'P' (80), 'L' (76) or 'Z' (90)
unfoldable pub kind_of : List ℕ → Option Kind
kind_of f = cond (eqb (length f) 1) (kind_by 80 76 90 (get_or f 0 0)) None

abbrev pub kind_of_word : ℕ → Option Kind
kind_of_word w = kind_by 0 1 2 w

-- every kind can be written
abbrev pub kind_fits : Kind → Bool
kind_fits k = true

abbrev pub kind_text : Kind → List ℕ
kind_text P = 80 ∷ []
kind_text L = 76 ∷ []
kind_text Z = 90 ∷ []

-- ---- a field that may be empty
abbrev pub maybe_kind_of : List ℕ → Option (Option Kind)
maybe_kind_of = maybe_of kind_of

-- the word 3 stands for an empty field
abbrev pub maybe_kind_of_word : ℕ → Option (Option Kind)
maybe_kind_of_word = maybe_of_word 3 kind_of_word

abbrev pub maybe_kind_text : Option Kind → List ℕ
maybe_kind_text = maybe_text kind_text
