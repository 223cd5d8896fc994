-- `store::readable::good_records` meets its contract. Assumes nothing.
use native.Mathlib.Omega.{arith}
use Rattle.store.proofs.Checks.{few-files, few-reports, few-corrections, counted}
use Rattle.store.proofs.readable.good_records.Goals as goal

pub records_of-requires : goal.records_of-requires
records_of-requires c = let f = c.args.files.now in
    (omega (arith, few-files f c.requires.3, c.file_count-n.ensures.0), omega (arith, few-files f c.requires.3, c.file_count-n.ensures.0))

pub good_reports-requires : goal.good_reports-requires
good_reports-requires c = let f = c.args.files.now in
    omega (arith, few-reports f c.requires.3, c.records_of.ensures, counted f c.file_count-n.result c.file_count-n.ensures.0 0)

pub records_of-requires-then-good_reports : goal.records_of-requires-then-good_reports
records_of-requires-then-good_reports c = let f = c.args.files.now in
    (omega (arith, few-files f c.requires.3, c.file_count-n.ensures.0), omega (arith, few-files f c.requires.3, c.file_count-n.ensures.0))

pub good_corrections-requires : goal.good_corrections-requires
good_corrections-requires c = let f = c.args.files.now in
    omega (arith, few-corrections f c.requires.3, c.records_of-then-good_reports.ensures, counted f c.file_count-n.result c.file_count-n.ensures.0 1)
