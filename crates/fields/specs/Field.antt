-- What stands in a field: what its bytes are read as (`of`), which values it can hold (`fits`) and how they are written (`text`). Assumes nothing: these are definitions.
use Rattle.std.specs.Prelude.{ℕ, ◌≡◌, ◌<◌, Bool, true, cond, Option, Some, None, List, [], eqb, length}
use Rattle.laws.specs.Lists.{all}
use Rattle.fields.specs.Bytes.{field_byte}

-- what was written is read back, what was read is written again
pub record Trips {A : Type 0} (of : List ℕ → Option A) (fits : A → Bool) (text : A → List ℕ) : Type 0 where
  pub trip : (x : A) → fits x ≡ true → of (text x) ≡ Some x
  pub back : (f : List ℕ) (x : A) → of f ≡ Some x → (text x ≡ f) × (fits x ≡ true)

-- each is spelt in `width` bytes of a field, and not in none
pub record IsFixed {A : Type 0} (width : ℕ) (text : A → List ℕ) : Type 0 where
  pub some : 0 < width
  pub size : (x : A) → length (text x) ≡ width
  pub bytes : (x : A) → all field_byte (text x) ≡ true

-- ---- a field that may be empty
module _ {A : Type 0} where
  unfoldable pub maybe_from : Option A → Option (Option A)
  maybe_from (Some x) = Some (Some x)
  maybe_from None = None

  unfoldable pub maybe_of : (List ℕ → Option A) → List ℕ → Option (Option A)
  maybe_of of f = cond (eqb (length f) 0) (Some None) (maybe_from (of f))

  abbrev pub maybe_fits : (A → Bool) → Option A → Bool
  maybe_fits fits (Some x) = fits x
  maybe_fits fits None = true

  -- the word `none` stands for an empty field
  unfoldable pub maybe_of_word : ℕ → (ℕ → Option A) → ℕ → Option (Option A)
  maybe_of_word none of w = cond (eqb w none) (Some None) (maybe_from (of w))

  abbrev pub maybe_text : (A → List ℕ) → Option A → List ℕ
  maybe_text text (Some x) = text x
  maybe_text text None = []
