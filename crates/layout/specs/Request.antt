-- What a request is read as, which requests it can hold, and how they are written. Assumes nothing: these are definitions.
use Rattle.std.specs.Prelude.{Option, Some, None}
use Rattle.std.specs.Prelude.{ℕ, Bool, cond, ◌&&◌, List, [], ◌∷◌, eqb, length, get_or}
use Rattle.laws.specs.Split.{split, piece_of, joined}
use Rattle.fields.specs.declared.code.Code.{Code}
use Rattle.fields.specs.Code.{code_of, code_of_word, code_fits, code_text}
use Rattle.fields.specs.Date.{maybe_date_of, maybe_date_of_word, maybe_date_fits, maybe_date_text}
use Rattle.layout.specs.declared.request.Request.{Request}
use Rattle.layout.specs.Part.{on, on_date}

abbrev pub on_sender : Option Code → (Code → Option Request) → Option Request
on_sender c k = on c None k

-- a code, a date or nothing, and nothing behind the last comma
unfoldable pub three_of : List ℕ → List ℕ → List ℕ → Option Request
three_of a b c =
    on_sender (code_of a)
    λ code. on_date (maybe_date_of b) None
    λ from. cond (eqb (length c) 0) (Some (record { code = code; from = from })) None

unfoldable pub request_of : List ℕ → Option Request
request_of s = cond (eqb (length (split 44 s)) 3) (three_of (piece_of 44 s 0) (piece_of 44 s 1) (piece_of 44 s 2)) None

unfoldable pub request_fits : Request → Bool
request_fits r = code_fits r.code && maybe_date_fits r.from

unfoldable pub request_text : Request → List ℕ
request_text r = joined 44 (code_text r.code ∷ maybe_date_text r.from ∷ [] ∷ [])

-- from two plain words
unfoldable pub request_of_words : List ℕ → Option Request
request_of_words w =
    cond (eqb (length w) 2)
    (on_sender (code_of_word (get_or w 0 0))
    λ code. on_date (maybe_date_of_word (get_or w 1 0)) None
    λ from. Some (record { code = code; from = from }))
    None
