-- The head of a store's file and the line of the holiday list in it, byte by byte. Assumes nothing: these are definitions.
use Rattle.std.specs.Prelude.{ℕ, Bool, cond, List, [], ◌∷◌, ◌++◌, length, take, ◌==◌, nat_eq}
use Rattle.io.specs.Digits.{last_digits}
use Rattle.laws.specs.Digits.{digits as decimals}
use Rattle.laws.specs.Lists.{same_lists}
use Rattle.disk.specs.declared.sum.Sum.{Sum}
use Rattle.disk.specs.Sums.{sum_over, no_sum}

-- sixteen hexadecimal digits
unfoldable pub hex : ℕ → List ℕ
hex n = last_digits 16 16 n

-- "dagskimra store "
abbrev pub title : List ℕ
title = 100 ∷ 97 ∷ 103 ∷ 115 ∷ 107 ∷ 105 ∷ 109 ∷ 114 ∷ 97 ∷ 32 ∷ 115 ∷ 116 ∷ 111 ∷ 114 ∷ 101 ∷ 32 ∷ []

-- '1' where there is no line of a list, else '2'
abbrev pub version_of : List ℕ → ℕ
version_of line = cond (length line == 0) 49 50

-- the title, the version and a line end, both sums, and a line end
unfoldable pub head_text : ℕ → Sum → List ℕ
head_text version s = title ++ (version ∷ 10 ∷ (hex s.a ++ (hex s.b ++ (10 ∷ []))))

-- the head over the line of a list and what follows it
abbrev pub head_over : List ℕ → List ℕ → List ℕ
head_over line rest = head_text (version_of line) (sum_over no_sum (line ++ rest))

-- whether a head is of version 1
abbrev pub is_first : List ℕ → Bool
is_first head = same_lists nat_eq (take 18 head) (title ++ (49 ∷ 10 ∷ []))

-- "holidays ", how many days there are, a blank, their second sum, and a line end
unfoldable pub list_line : List ℕ → List ℕ
list_line days =
    104 ∷ 111 ∷ 108 ∷ 105 ∷ 100 ∷ 97 ∷ 121 ∷ 115 ∷ 32 ∷ (decimals 4 (length days) ++ (32 ∷ (hex (sum_over no_sum days).b ++ (10 ∷ []))))
