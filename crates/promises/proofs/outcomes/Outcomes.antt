-- Two outcomes that one public contract allows are equal: said once in general, with the forms that public contracts have as its cases. A contract
-- that is one equation between the answer, a part lent back or a lent buffer and a definition is settled by `equation-settles`, several of
-- them by `pair_settles` and so on; those that are a record of a crate's own stand below, each by name. tests/outcomes.sh goes through all public
-- functions and holds each to one of these. Assumes nothing.
use Rattle.std.specs.Prelude.{Result}
use Rattle.records.specs.declared.names.written.NotWritten.{NotWritten}
use mathlib.Core.Path.{◌≡◌, sym, ◌∙◌}
use mathlib.Core.Path.{◌≡◌, sym, ◌∙◌}
use mathlib.Core.List.{List}
use Prim.Native.Nat.{ℕ}
use native.Mathlib.Omega.{arith}
use Rattle.laws.specs.Overlay.{Laid}
use Rattle.laws.specs.Told.{Told}
use Rattle.laws.proofs.Slots.{same-slots}
use Rattle.fields.specs.declared.number.Number.{Number}
use Rattle.entries.specs.declared.entry.Line.{Line}
use Rattle.records.specs.names.Written.{Wrote}
use Rattle.store.specs.Reads.{Buffers}
use Rattle.starting.specs.declared.start.NotStarted.{NotStarted}
use Rattle.starting.specs.Start.{Starts}
use Rattle.filing.specs.declared.entering.kind.Filable.{Filable}
use Rattle.filing.specs.declared.checking.answer.NotFiled.{NotFiled}
use Rattle.filing.specs.Effect.{Files}
use Rattle.model.specs.Model.{Filed}
use Rattle.verdict.specs.declared.step.Standing.{Standing}
use Rattle.store.specs.numbers.Lines.{line_count}
use Rattle.working.specs.Working.{WorkedAfresh}
use Rattle.filing.specs.renewing.Turns.{RecordRenewed}
use Rattle.filing.specs.entering.Entering.{Joined}
use Rattle.filing.proofs.entering.Joining.{joined-one}
use Rattle.std.specs.Prelude.{Option, Result}
use Rattle.entries.specs.declared.entry.Entry.{Entry}
use Rattle.asking.specs.declared.answer.NotShown.{NotShown}
use Rattle.asking.specs.declared.answer.NoRecord.{NoRecord}
use Rattle.asking.specs.declared.answer.Unreadable.{Unreadable}
use Rattle.asking.specs.declared.pairs.Pair.{Pair}
use Rattle.asking.specs.declared.record.ShownRecord.{ShownRecord}
use Rattle.reworking.specs.Reworking.{Reworks}
use Rattle.capi.specs.Again.{ReworksAs}
use Rattle.capi.specs.Ask.{TellsWhy, TellsRecord, TellsFigure}
use Rattle.capi.specs.Offer.{FilesAs}
use Rattle.capi.specs.Show.{ShowsEntry}
use Rattle.capi.specs.Starting.{StartsAs}
use Rattle.capi.specs.Told.{Tells}
use Rattle.capi.specs.Writing.{Writes}

-- at most one outcome meets the contract
abbrev pub Settles : {A : Type 0} → (A → Type 0) → Type 0
Settles {A} contract = (x y : A) → contract x → contract y → x ≡ y

-- one equation
pub equation-settles : {A : Type 0} (d : A) → Settles (λ (x : A). x ≡ d)
equation-settles d x y p q = p ∙ sym q

-- two parts of an outcome, each settled
pub pair_settles : {A B : Type 0} (c : A) (d : B) → Settles (λ (o : A × B). (o.0 ≡ c) × (o.1 ≡ d))
pair_settles c d x y p q = λ i. (equation-settles c x.0 y.0 p.0 q.0 i, equation-settles d x.1 y.1 p.1 q.1 i)

-- three parts
pub three-settle : {A B C : Type 0} (c : A) (d : B) (e : C) → Settles (λ (o : A × B × C). (o.0 ≡ c) × (o.1 ≡ d) × (o.2 ≡ e))
three-settle c d e x y p q = λ i. (equation-settles c x.0 y.0 p.0 q.0 i, equation-settles d x.1 y.1 p.1 q.1 i, equation-settles e x.2 y.2 p.2 q.2 i)

-- ---- the contracts that speak of lent memory: the answer, and every byte afterwards
-- filing: the answer and the five buffers
pub filing-settles : (b : Buffers) (kind : Filable) (publisher : List ℕ) (day : ℕ) (text : List ℕ) → Settles (λ (o : Result ℕ NotFiled × Buffers). Files b kind publisher day text o.0 o.1)
filing-settles b kind publisher day text x y p q = pair_settles _ _ x y (p.answers, p.leaves) (q.answers, q.leaves)

-- starting: the answer and the five buffers
pub starting-settles : (text : List ℕ) (b : Buffers) → Settles (λ (o : Result ℕ NotStarted × Buffers). Starts text b o.0 o.1)
starting-settles text b x y p q = pair_settles _ _ x y (p.answers, p.leaves) (q.answers, q.leaves)

-- writing a file or its name: the answer and the buffer
pub writing-settles : (right : Result ℕ NotWritten) (text before : List ℕ) → Settles (λ (o : Result ℕ NotWritten × List ℕ). Wrote right text before o.1 o.0)
writing-settles right text before x y p q = pair_settles _ _ x y (p.answer, p.bytes) (q.answer, q.bytes)

-- laying a field or a record into a buffer: the place behind it and the buffer
pub laying-settles : (before : List ℕ) (at : ℕ) (ys : List ℕ) → Settles (λ (o : ℕ × List ℕ). Laid before at ys o.1 o.0)
laying-settles before at ys x y p q = pair_settles _ _ x y (p.ends, p.bytes) (q.ends, q.bytes)

-- entering a file: the list of files and both journals
pub entering-settles : (f : Filed) (files regular corrections : List ℕ) → Settles (λ (o : List ℕ × List ℕ × List ℕ). Joined f files regular corrections o.0 o.1 o.2)
entering-settles f files regular corrections x y p q = let e = joined-one p q in λ i. (e.0 i, e.1.0 i, e.1.1 i)

-- working out a number: where it stands, and how many records that took
pub working-settles : (n : ℕ) (files regular corrections : List ℕ) (number : Number) (line : Line) → Settles (λ (o : Standing × ℕ). WorkedAfresh n files regular corrections number line o.0 o.1)
working-settles n files regular corrections number line x y p q = pair_settles _ _ x y (p.stands, p.counted) (q.stands, q.counted)

-- renewing the number of one record of a file: the entries, and how many records more are counted
pub renewing-settles : (all : List Filed) (f : Filed) (j : ℕ) (lines before : List ℕ) → Settles (λ (o : List ℕ × ℕ). RecordRenewed all f j lines before o.0 o.1)
renewing-settles all f j lines before x y p q =
    let entries : x.0 ≡ y.0 = same-slots 100 x.0 y.0 (line_count lines) (λ k h. p.redone.slots k h ∙ sym (q.redone.slots k h)) (p.redone.rest ∙ sym q.redone.rest) in
    let count : x.1 ≡ y.1 = omega (arith, p.counted, q.counted) in
    λ i. (entries i, count i)

-- reworking: the answer, the entries and the list
pub reworking-settles : (b : Buffers) (n : ℕ) (list : List ℕ) → Settles (λ (o : Result ℕ Unreadable × List ℕ × List ℕ). Reworks b n list o.0 o.1 o.2)
reworking-settles b n list x y p q = three-settle _ _ _ x y (p.answers, p.leaves, p.lists) (q.answers, q.leaves, q.lists)

-- ---- what other languages call: the answer's number, and every number and byte that is lent
pub why-settles : (right : Result (Option Pair) NotShown) → Settles (λ (o : ℕ × ℕ × ℕ). TellsWhy right o.0 o.1 o.2)
why-settles right x y p q = three-settle _ _ _ x y (p.answers, p.first, p.second) (q.answers, q.first, q.second)

pub record-settles : (right : Result ShownRecord NoRecord) → Settles (λ (o : ℕ × ℕ × ℕ × ℕ × ℕ). TellsRecord right o.0 o.1 o.2 o.3 o.4)
record-settles right x y p q = λ i. ((p.answers ∙ sym q.answers) i, (p.by ∙ sym q.by) i, (p.on ∙ sym q.on) i, (p.at ∙ sym q.at) i, (p.gets ∙ sym q.gets) i)

pub figure-settles : (right : Result ℕ Unreadable) → Settles (λ (o : ℕ × ℕ). TellsFigure right o.0 o.1)
figure-settles right x y p q = pair_settles _ _ x y (p.answers, p.differ) (q.answers, q.differ)

pub rework-settles : (b : Buffers) (list : List ℕ) → Settles (λ (o : ℕ × ℕ × List ℕ × List ℕ). ReworksAs b list o.0 o.1 o.2 o.3)
rework-settles b list x y p q = λ i. ((p.answers ∙ sym q.answers) i, (p.tells ∙ sym q.tells) i, (p.leaves ∙ sym q.leaves) i, (p.lists ∙ sym q.lists) i)

pub reading-settles : (right : Told) → Settles (λ (o : ℕ × ℕ × ℕ × ℕ). Tells right o.0 o.1 o.2 o.3)
reading-settles right x y p q = λ i. ((p.answers ∙ sym q.answers) i, (p.tells ∙ sym q.tells) i, (p.names ∙ sym q.names) i, (p.blames ∙ sym q.blames) i)

pub showing-settles : (a : Result Entry NotShown) (before : List ℕ) → Settles (λ (o : ℕ × List ℕ). ShowsEntry a before o.0 o.1)
showing-settles a before x y p q = pair_settles _ _ x y (p.answers, p.leaves) (q.answers, q.leaves)

pub start-settles : (text : List ℕ) (before : Buffers) → Settles (λ (o : ℕ × ℕ × Buffers). StartsAs text before o.0 o.1 o.2)
start-settles text before x y p q = three-settle _ _ _ x y (p.answers, p.tells, p.leaves) (q.answers, q.tells, q.leaves)

pub file-settles : (b : Buffers) (kind : ℕ) (publisher : List ℕ) (day : ℕ) (text : List ℕ) → Settles (λ (o : ℕ × ℕ × ℕ × ℕ × Buffers). FilesAs b kind publisher day text o.0 o.1 o.2 o.3 o.4)
file-settles b kind publisher day text x y p q = λ i. ((p.answers ∙ sym q.answers) i, (p.tells ∙ sym q.tells) i, (p.names ∙ sym q.names) i, (p.blames ∙ sym q.blames) i, (p.leaves ∙ sym q.leaves) i)

pub write-settles : (right : Result ℕ NotWritten) (text before : List ℕ) → Settles (λ (o : List ℕ × ℕ × ℕ). Writes right text before o.0 o.1 o.2)
write-settles right text before x y p q = three-settle _ _ _ x y (p.bytes, p.answers, p.tells) (q.bytes, q.answers, q.tells)
