-- What the software promises. Each theorem is about the bytes that are lent and the contracts of the public functions, and each proof is a citation. Of a
-- store none asks anything but that public functions led to it: that it is in use (`InUse`). A theorem whose name ends in `-c` is about what other languages call.
--
-- The stores:
--     in-use-exactly                     a store in use came from starting and filing, or was worked out again and filed into, and each such store is in use
-- Demand 1:
--     refused-leaves-every-byte          whatever number other than 0 a call answers, every lent byte is as it was
--     filing-answers-by-the-table        filing answers by the paper's table: 44, 1, 2, 3, 4, 5 each only when stated, and else 0; starting likewise
--     started-as-given                   what answer 0 of starting leaves reads as the given table, no file, a first entry for each line
--     filed-joins-and-renews             what answer 0 of filing leaves: the records behind the stored ones, which keep their bytes; the count; the entries
-- Demand 2:
--     written-reads-back                 a file that was written reads as the records that were given; written-report-reads-back, written-correction-reads-back:
--                                        each with the values that were given
--     read-is-written-again              a file that reads is the one that is written from its records
--     worked-cases                       the paper's worked days and reports, those marked (p) among them
-- Demand 3:
--     entries-are-worked-afresh          every stored entry equals the one worked out afresh from the journals
--     other-entries-untouched            the bytes of the entry of a number that no record of the file names are as they were
--     why-is-the-last-confirmed-pair     why shows the last confirmed pair: two stored records, whose gaining network is the holder
--     none-exactly-if-none-confirmed     why says that there is none exactly if no record of the number was confirmed
--     unknown-exactly-without-a-line     why answers 12 exactly if the number has no line
--     record-has-its-verdict             a record that is asked for is shown with its bytes and its verdict at its own point of the history
--     beyond-exactly                     7 is answered exactly if the place is beyond the journal's records
-- What follows from them:
--     depends-on-line-and-records        a number's entry depends on its line and the records that name it
--     table-before-a-late-file           the table before a late file is the one that the store had
--     there-was-such-a-store             for each number of files there was a store in use that had the first so many
--     figure-is-0                        the figure of a store in use is 0
--     figure-counts-what-differs         with other entries it is the number of lines whose entry reads otherwise
--     reworked-as-worked-out             what answer 0 of reworking leaves: the same lines and files, and the entries that the first n files lead to
--     rework-lists-once                  reworking lists each line whose entry reads otherwise than before, once
-- Assumes nothing.
use Rattle.std.specs.Prelude.{None}
use Rattle.std.specs.Prelude.{Ok}
use Rattle.std.specs.Prelude.{Option, Some}
use Rattle.std.specs.Prelude.{Ok, Result, None, Option, Some}
use mathlib.Core.Path.{◌≡◌, ◌∙◌}
use mathlib.Core.Logic.{◌⊎◌, ⊎_elim}
use mathlib.Core.Bool.{true, false}
use mathlib.Core.List.{List, [], map, Perm}
use Prim.Native.Nat.{ℕ, ◌≤◌, ◌<◌}
use lib.ListN.{length, get_or, take}
use Rattle.laws.specs.Lists.{table, keep, first_line}
use Rattle.laws.specs.Slots.{slot_at}
use Rattle.fields.specs.declared.number.Number.{Number}
use Rattle.layout.specs.declared.report.Report.{Report}
use Rattle.layout.specs.declared.correction.Correction.{Correction}
use Rattle.layout.specs.Report.{report_of_words}
use Rattle.layout.specs.Correction.{correction_of_words}
use Rattle.records.specs.declared.names.kind.FileKind.{FileKind}
use Rattle.records.specs.names.Written.{Wrote}
use Rattle.records.specs.Record.{text_of}
use Rattle.files.specs.Judged.{judged_file, records_of}
use Rattle.files.specs.Writing.{values_in, file_text, file_of, file_answer}
use Rattle.files.specs.Values.{report_at, correction_at}
use Rattle.files.proofs.FileTrip.{file-written}
use Rattle.model.specs.Rules.{TableLine, Event}
use Rattle.model.specs.Model.{journal, journal_of, about, entry_over, line_of}
use Rattle.rules.specs.Rules.{rules}
use Rattle.rules.specs.Paper.{WorkedThrough}
use Rattle.rules.proofs.Paper.{worked_through}
use Rattle.store.specs.declared.journals.records.Journal.{Journal}
use Rattle.store.specs.numbers.Lines.{line_count, line_at}
use Rattle.store.specs.declared.numbers.lines.Line.{Line}
use Rattle.store.specs.entry_slots.Entries.{entry_at}
use Rattle.store.specs.Reads.{Buffers, table_line, held, is_readable, reads}
use Rattle.starting.specs.declared.start.NotStarted.{NotStarted}
use Rattle.starting.specs.tables.Given.{table_of}
use Rattle.starting.specs.Start.{Starts, started_with}
use Rattle.starting.proofs.Readable.{started-reads}
use Rattle.filing.specs.declared.entering.kind.Filable.{Filable}
use Rattle.filing.specs.declared.checking.answer.NotFiled.{NotFiled}
use Rattle.filing.specs.Effect.{Files, Came}
use Rattle.std.specs.Prelude.{Ok}
use Rattle.asking.specs.Items.{item_at}
use Rattle.asking.specs.Record.{kind_of}
use Rattle.asking.specs.answering.Figure.{how_many, figure_asked}
use Rattle.asking.specs.answering.Whole.{entry_asked, before_asked, record_asked}
use Rattle.reworking.specs.Reworking.{Reworks}
use Rattle.reworking.specs.Listed.{reads_otherwise, Listed}
use Rattle.reworking.specs.resuming.Resumed.{Resumed}
use Rattle.reworking.proofs.Listing.{listed-once}
use Rattle.capi.specs.Kinds.{kind_by}
use Rattle.capi.specs.Starting.{StartsAs}
use Rattle.capi.specs.Offer.{filable_by, day_for, FilesAs}
use Rattle.capi.specs.Again.{ReworksAs}
use Rattle.capi.specs.Writing.{Writes}
use Rattle.promises.specs.Numbers.{started_number, filed_number, why_said, record_number}
use Rattle.promises.specs.InUse.{with_entries, InUse}
use Rattle.promises.specs.Calls.{Call}
use Rattle.promises.specs.Filed.{filing_table, starting_table, named_in, JoinedAndRenewed}
use Rattle.promises.specs.Asked.{NoneConfirmed, why_of, SaysNone, ShowsPair, ShowsRecord}
use Rattle.promises.proofs.Refused.{files-c, refused, start-by-table}
use Rattle.promises.proofs.Stores.{came-or-resumed, came-in-use, resumed-in-use, done-c, changed-c}
use Rattle.promises.proofs.Filing.{answers-by-table, joined-and-renewed, joined-and-renewed-c}
use Rattle.promises.proofs.Writing.{reads-back, report-back, correction-back, wrote-c}
use Rattle.promises.proofs.Entries.{entries-afresh, entry-afresh, reworked-entries}
use Rattle.promises.proofs.Past.{had-first}
use Rattle.promises.proofs.Asking.{in-use-reads, why-says, none-said-exactly, unknown-said-exactly, record-said, beyond-said-exactly, before-said, figure-nought, figure-counts, depends}

-- ---- the stores
-- exactly the buffers that starting and filing lead to (`Came`), and those that reworking and filing lead to from any bytes that reworking accepts (`Resumed`)
pub in-use-exactly : {b : Buffers} → (InUse b → Came b ⊎ Resumed b) × (Came b ⊎ Resumed b → InUse b)
in-use-exactly = (λ u. came-or-resumed u, λ c. ⊎_elim (λ d. came-in-use d) (λ d. resumed-in-use d) c)

-- ---- demand 1
-- "nothing changed": whatever number other than 0 is answered by starting, filing, reworking, writing into a lent buffer or showing an entry
pub refused-leaves-every-byte : {number : ℕ} {before after : List (List ℕ)} → Call number before after → (number ≡ 0 → ⊥) → after ≡ before
refused-leaves-every-byte = refused

-- "checks in this order": the number that filing answers is that of the first line of the paper's table that applies, and 0 where none does
pub filing-answers-by-the-table : {b after : Buffers} {kind : Filable} {publisher : List ℕ} {day : ℕ} {text : List ℕ} {answer : Result ℕ NotFiled} → Files b kind publisher day text answer after
    → filed_number answer ≡ first_line (filing_table b kind publisher day text) 0
filing-answers-by-the-table s = answers-by-table s

pub filing-answers-by-the-table-c : {b after : Buffers} {kind : ℕ} {publisher : List ℕ} {day : ℕ} {text : List ℕ} {answer more field cause : ℕ} → FilesAs b kind publisher day text answer more field cause after
    → answer ≡ first_line (filing_table b (filable_by kind) publisher (day_for kind day) text) 0
filing-answers-by-the-table-c s = s.answers ∙ answers-by-table (files-c s)

-- starting likewise: "44 for a short buffer alone", then 6
pub starting-answers-by-the-table : {text : List ℕ} {before after : Buffers} {answer : Result ℕ NotStarted} → Starts text before answer after → started_number answer ≡ first_line (starting_table text before) 0
starting-answers-by-the-table s = start-by-table s

-- "the store then reads as exactly the given table, empty journals and one first entry per line"
pub started-as-given : {text : List ℕ} {before after : Buffers} {n : ℕ} → Starts text before (Ok n) after
    → (lines : List Line) × (table_of text ≡ Some lines) × (n ≡ length lines) × (reads after ≡ Some (started_with lines))
started-as-given {text} {before} {after} {n} s = started-reads text before after n s

pub started-as-given-c : {text : List ℕ} {before after : Buffers} {more : ℕ} → StartsAs text before 0 more after
    → (lines : List Line) × (table_of text ≡ Some lines) × (more ≡ length lines) × (reads after ≡ Some (started_with lines))
started-as-given-c s = started-as-given (done-c s)

-- "exactly this file's records join their journal behind the stored ones, which keep their bytes; the entries of the numbers named are worked out afresh,
-- the others keep theirs"; "answer 0 carries the count of journal records, in both journals and after filing, whose number is named by some record of this file"
pub filed-joins-and-renews : {b after : Buffers} {kind : Filable} {publisher : List ℕ} {day : ℕ} {text : List ℕ} {count : ℕ} → Files b kind publisher day text (Ok count) after
    → JoinedAndRenewed b kind publisher day text count after
filed-joins-and-renews s = joined-and-renewed s

pub filed-joins-and-renews-c : {b after : Buffers} {kind : ℕ} {publisher : List ℕ} {day : ℕ} {text : List ℕ} {more field cause : ℕ} → FilesAs b kind publisher day text 0 more field cause after
    → (kind ≤ 1) × JoinedAndRenewed b (filable_by kind) publisher day text more after
filed-joins-and-renews-c s = joined-and-renewed-c s

-- ---- demand 2
-- what is written reads back: a file of as many records, each with the bytes of the values that were given
pub written-reads-back : (kind : FileKind) (words : List ℕ) {before after : List ℕ} {n : ℕ} → Wrote (file_answer kind words (length before)) (file_of kind words) before after (Ok n)
    → (judged_file kind (take n after) ≡ Ok (length (values_in kind words))) × (records_of kind (take n after) ≡ map (text_of kind) (values_in kind words))
written-reads-back kind words s = reads-back kind words s

pub written-reads-back-c : (kind : ℕ) (words : List ℕ) {before after : List ℕ} {more : ℕ} → Writes (file_answer (kind_by kind) words (length before)) (file_of (kind_by kind) words) before after 0 more
    → (judged_file (kind_by kind) (take more after) ≡ Ok (length (values_in (kind_by kind) words))) × (records_of (kind_by kind) (take more after) ≡ map (text_of (kind_by kind)) (values_in (kind_by kind) words))
written-reads-back-c kind words s = reads-back (kind_by kind) words (wrote-c s)

-- record by record: the report that was given at a place is the one that is read there, and a correction likewise
pub written-report-reads-back : (words : List ℕ) {before after : List ℕ} {n : ℕ} (k : ℕ) → Wrote (file_answer FileKind.Default words (length before)) (file_of FileKind.Default words) before after (Ok n)
    → k < length (values_in FileKind.Default words) → (x : Report) → report_of_words (get_or (values_in FileKind.Default words) k []) ≡ Some x → report_at (take n after) k ≡ Ok x
written-report-reads-back words k s = report-back words k s

pub written-correction-reads-back : (words : List ℕ) {before after : List ℕ} {n : ℕ} (k : ℕ) → Wrote (file_answer FileKind.Correction words (length before)) (file_of FileKind.Correction words) before after (Ok n)
    → k < length (values_in FileKind.Correction words) → (x : Correction) → correction_of_words (get_or (values_in FileKind.Correction words) k []) ≡ Some x → correction_at (take n after) k ≡ Ok x
written-correction-reads-back words k s = correction-back words k s

-- and a file that reads is exactly its records, each with its CR, and the closing record where its kind has one
pub read-is-written-again : (kind : FileKind) (file : List ℕ) (n : ℕ) → judged_file kind file ≡ Ok n → (file ≡ file_text kind (records_of kind file)) × (length (records_of kind file) ≡ n)
read-is-written-again kind file n e = let w = file-written kind file n e in (w.0.whole, w.1)

-- "cases marked (p) are shown about the definitions as a single table under a single claim"
pub worked-cases : WorkedThrough
worked-cases = worked_through

-- ---- demand 3
-- every number's entry equals the one worked out afresh from the journals: all of them, and line by line over the bytes
pub entries-are-worked-afresh : {b : Buffers} → InUse b
    → (reads b ≡ Some (held b)) × ((held b).entries ≡ map (entry_over rules (held b).files) (held b).lines)
    × ((k : ℕ) → k < line_count b.table → entry_at b.entries k ≡ entry_over rules (held b).files (table_line (line_at b.table k)))
entries-are-worked-afresh u = (in-use-reads u, entries-afresh u, entry-afresh u)

-- filing leaves the bytes of the entry of each number that no record of the file names
pub other-entries-untouched : {b after : Buffers} {kind : Filable} {publisher : List ℕ} {day : ℕ} {text : List ℕ} {count : ℕ} → Files b kind publisher day text (Ok count) after
    → (k : ℕ) → k < line_count b.table → named_in kind text (line_at b.table k).number ≡ false → slot_at 0 100 after.entries k ≡ slot_at 0 100 b.entries k
other-entries-untouched s = (joined-and-renewed s).untouched

-- "asking why answers 0 and shows the pair, the report processed first coming first, or says there is none", for a number with a line
pub why-is-the-last-confirmed-pair : {b : Buffers} → InUse b → (x : Number) (line : TableLine Number) → line_of rules (held b).lines x ≡ Some line → SaysNone b x line ⊎ ShowsPair b x line
why-is-the-last-confirmed-pair u = why-says u

pub none-exactly-if-none-confirmed : {b : Buffers} → InUse b → (x : Number) (line : TableLine Number) → line_of rules (held b).lines x ≡ Some line
    → (why_of b x ≡ Ok None → NoneConfirmed b line) × (NoneConfirmed b line → why_of b x ≡ Ok None)
none-exactly-if-none-confirmed u = none-said-exactly u

-- "a number not in the table answers 12"
pub unknown-exactly-without-a-line : {b : Buffers} → InUse b → (x : Number)
    → (why_said (why_of b x) ≡ 12 → line_of rules (held b).lines x ≡ None) × (line_of rules (held b).lines x ≡ None → why_said (why_of b x) ≡ 12)
unknown-exactly-without-a-line u = unknown-said-exactly u

-- "any filed record can be asked for: its verdict, and its stored bytes, shown as a part of the regular or the correction journal"
pub record-has-its-verdict : {b : Buffers} → InUse b → (which : Journal) (place : ℕ) (e : Event) → item_at (journal_of (kind_of which) (held b).files) place ≡ Some e → ShowsRecord b which place e
record-has-its-verdict u = record-said u

-- "a place beyond answers 7"
pub beyond-exactly : {b : Buffers} → InUse b → (which : Journal) (place : ℕ)
    → (record_number (record_asked (reads b) which place) ≡ 7 → item_at (journal_of (kind_of which) (held b).files) place ≡ None)
    × (item_at (journal_of (kind_of which) (held b).files) place ≡ None → record_number (record_asked (reads b) which place) ≡ 7)
beyond-exactly u = beyond-said-exactly u

-- ---- what follows from them
-- "a number's entry depends on its own table line, the records that name it with publisher, publication day and place in file": two stores in use that
-- have the same line for a number, and in both journals together the same records that name it, in whatever order, show the same entry
pub depends-on-line-and-records : {b c : Buffers} → InUse b → InUse c → (x : Number) → line_of rules (held b).lines x ≡ line_of rules (held c).lines x
    → Perm (keep (about rules x) (journal (held b).files)) (keep (about rules x) (journal (held c).files))
    → entry_asked (reads b) (Some x) ≡ entry_asked (reads c) (Some x)
depends-on-line-and-records = depends

-- what a store shows as it stood before the file at n arrived is what a store in use with the same lines and the first n files shows
pub table-before-a-late-file : {b c : Buffers} → InUse b → InUse c → (n : ℕ) → (held c).lines ≡ (held b).lines → (held c).files ≡ take n (held b).files
    → (x : Option Number) → before_asked (reads b) n x ≡ entry_asked (reads c) x
table-before-a-late-file u v = before-said u v

-- and for each n there was such a store, where starting and filing led to this one
pub there-was-such-a-store : {b : Buffers} → Came b → (n : ℕ) → (c : Buffers) × InUse c × ((held c).lines ≡ (held b).lines) × ((held c).files ≡ take n (held b).files)
there-was-such-a-store c n = had-first c n

-- the figure: how many stored entries differ from those worked out from the journals
pub figure-is-0 : {b : Buffers} → InUse b → figure_asked (reads b) ≡ Ok 0
figure-is-0 = figure-nought

-- and if the entries were overwritten by any bytes that still read, how many lines have an entry that reads otherwise
pub figure-counts-what-differs : {b : Buffers} → InUse b → (entries : List ℕ) → is_readable (with_entries b entries) ≡ true
    → figure_asked (reads (with_entries b entries)) ≡ Ok (how_many (table (line_count b.table) (reads_otherwise entries b.entries)))
figure-counts-what-differs = figure-counts

-- what answer 0 of reworking leaves reads as the same lines and files, and every entry is the one that the first n files lead to
pub reworked-as-worked-out : {b : Buffers} {n count : ℕ} {list entries listed : List ℕ} → Reworks b n list (Ok count) entries listed
    → reads (with_entries b entries) ≡ Some (record { lines = (held b).lines; files = (held b).files; entries = map (entry_over rules (take n (held b).files)) (held b).lines })
reworked-as-worked-out s = reworked-entries s

-- "the numbers whose entry changes are listed once"
pub rework-lists-once : {b : Buffers} {n count : ℕ} {list entries listed : List ℕ} → Reworks b n list (Ok count) entries listed → Listed b count entries listed
rework-lists-once s = listed-once s

pub rework-lists-once-c : {b : Buffers} {more : ℕ} {list entries listed : List ℕ} → ReworksAs b list 0 more entries listed → Listed b more entries listed
rework-lists-once-c s = listed-once (changed-c s)
