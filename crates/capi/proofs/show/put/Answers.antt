-- `capi::show::put` meets its contract: one law for each way out (`Showing`). Assumes nothing.
use Rattle.capi.proofs.Showing.{refused, short, written}
use Rattle.capi.proofs.show.put.Goals as goal

pub returns-in-Err : goal.returns-in-Err
returns-in-Err c = rw c.in-Err.is (refused c.in-Err.e c.args.out.now c.number.result c.number.ensures)

pub returns-then-out-lt-WIDTH : goal.returns-then-out-lt-WIDTH
returns-then-out-lt-WIDTH c = rw c.in-Ok.is (short c.in-Ok.e c.args.out.now c.if-out-lt-WIDTH.true)

pub returns : goal.returns
returns c = rw c.in-Ok.is (written c.in-Ok.e c.args.out.now _ c.if-out-lt-WIDTH.false c.put_entry.ensures)
