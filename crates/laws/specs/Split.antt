-- A list cut into pieces at a separator, and pieces joined by one. Assumes nothing: these are definitions.
use Rattle.std.specs.Prelude.{ℕ, ◌+◌, ◌-◌, ◌≤◌, ◌≡◌, Bool, true, false, cond, not, List, [], ◌∷◌, ◌++◌, eqb, ltb, length, get_or, take, drop}
use Rattle.laws.specs.Lists.{all, first_at}

-- an element before a list whose pieces are known: a separator starts a new piece, anything else goes to the first
unfoldable pub before : Bool → ℕ → List (List ℕ) → List (List ℕ)
before true b fs = [] ∷ fs
before false b [] = (b ∷ []) ∷ []
before false b (f ∷ fs) = (b ∷ f) ∷ fs

-- the pieces between the separators: one more than there are separators
unfoldable pub split : ℕ → List ℕ → List (List ℕ)
split sep [] = [] ∷ []
split sep (b ∷ s) = before (eqb b sep) b (split sep s)

-- the piece k, counted from 0; nothing where there is none
abbrev pub piece_of : ℕ → List ℕ → ℕ → List ℕ
piece_of sep s k = get_or (split sep s) k []

-- pieces with a separator between each and the next
abbrev pub joined : ℕ → List (List ℕ) → List ℕ
joined sep [] = []
joined sep (f ∷ []) = f
joined sep (f ∷ g ∷ fs) = f ++ sep ∷ joined sep (g ∷ fs)

unfoldable pub is_not : ℕ → ℕ → Bool
is_not sep b = not (eqb b sep)

-- no element is the separator
abbrev pub lacks : ℕ → List ℕ → Bool
lacks sep f = all (is_not sep) f

-- the elements from the place a up to the place e, as `&s[a..e]` has them
abbrev pub between : List ℕ → ℕ → ℕ → List ℕ
between s a e = take (e - a) (drop a s)

unfoldable pub is_sep : ℕ → ℕ → Bool
is_sep sep b = eqb b sep

-- where the piece that starts at `at` ends: at the next separator, or with the list
unfoldable pub end_of : ℕ → List ℕ → ℕ → ℕ
end_of sep s at = at + first_at (is_sep sep) (drop at s)

-- the pieces behind one that ends at e
abbrev pub behind : ℕ → List ℕ → ℕ → List (List ℕ)
behind sep s e = cond (ltb e (length s)) (split sep (drop (e + 1) s)) []

-- the piece of s that starts at `at` ends at e
pub record EndsAt (sep : ℕ) (s : List ℕ) (at e : ℕ) : Type 0 where
  pub from : at ≤ e
  pub to : e ≤ length s
  pub splits : split sep (drop at s) ≡ between s at e ∷ behind sep s e
