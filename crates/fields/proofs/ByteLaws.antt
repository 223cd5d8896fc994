-- Fields are made of digits, D, P, L and Z: none has a separator in it. Assumes nothing.
use Rattle.fields.specs.declared.kind.Kind.{Kind}
use Rattle.calendar.specs.declared.dates.CalendarDays.{CalendarDays}
use Rattle.std.specs.Prelude.{Option, Some, None, List}
use Prim.Native.Nat.{ℕ}
use mathlib.Core.Path.{◌≡◌, refl}
use mathlib.Core.Bool.{true}
use Rattle.laws.specs.Lists.{all}
use Rattle.laws.specs.Digits.{is_digit, digits}
use Rattle.laws.proofs.Digits.{all_digits_lem}
use Rattle.laws.proofs.Tables.{all_weaker}
use Rattle.fields.specs.declared.code.Code.{Code}
use Rattle.fields.specs.declared.kind.Kind.TheVariants.{P, L, Z}
use Rattle.fields.specs.Bytes.{field_byte}
use Rattle.fields.specs.Field.{maybe_text}
use Rattle.fields.specs.Code.{code_text}
use Rattle.fields.specs.Date.{date_text, spelling}
use Rattle.fields.specs.Kind.{kind_text}
use Rattle.calendar.specs.Answers.{date_of}

digit-byte : (b : ℕ) → is_digit b ≡ true → field_byte b ≡ true
unfolding field_byte
digit-byte b e = rw e

pub bytes-digits : (k n : ℕ) → all field_byte (digits k n) ≡ true
bytes-digits k n = all_weaker is_digit field_byte digit-byte (digits k n) (all_digits_lem k n)

pub bytes-code : (c : Code) → all field_byte (code_text c) ≡ true
unfolding all field_byte is_digit
bytes-code c = bytes-digits 3 c.0

pub bytes-date : (d : CalendarDays) → all field_byte (date_text d) ≡ true
bytes-date d = bytes-digits 8 (spelling (date_of d.0))

pub bytes-kind : (k : Kind) → all field_byte (kind_text k) ≡ true
unfolding all field_byte is_digit
bytes-kind P = refl
bytes-kind L = refl
bytes-kind Z = refl

-- ---- a field that may be empty
pub bytes-maybe : {A : Type 0} (text : A → List ℕ) → ((x : A) → all field_byte (text x) ≡ true) → (x : Option A) → all field_byte (maybe_text text x) ≡ true
unfolding all
bytes-maybe text b (Some x) = b x
bytes-maybe text b None = refl

pub bytes-maybe-code : (c : Option Code) → all field_byte (maybe_text code_text c) ≡ true
bytes-maybe-code = bytes-maybe code_text bytes-code

pub bytes-maybe-date : (d : Option CalendarDays) → all field_byte (maybe_text date_text d) ≡ true
bytes-maybe-date = bytes-maybe date_text bytes-date

pub bytes-maybe-kind : (k : Option Kind) → all field_byte (maybe_text kind_text k) ≡ true
bytes-maybe-kind = bytes-maybe kind_text bytes-kind
