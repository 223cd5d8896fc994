-- `composing::write::put_records` meets its contract. What is left to lay, laid from here on, gives what is to be laid in all. Assumes nothing.
use Rattle.std.proofs.Common.{◌≡◌, length, ◌+◌, true}
use Rattle.std.specs.Slice.Iter.{chunks_rest, chunks_size}
use Rattle.laws.specs.Lists.{all}
use Rattle.laws.specs.Overlay.{overlay}
use Rattle.records.specs.Record.{width_of, fits}
use Rattle.files.specs.Writing.{values_in}
use Rattle.composing.specs.Measuring.{record_lines}
use Rattle.composing.proofs.write.put_records.Given as goal

abbrev pub invariant-loop-values : goal.invariant-loop-values
invariant-loop-values l = record {
  size : chunks_size l.values-iterator ≡ width_of l.kind;
  room : length l.out ≡ length l.initial.out;
  fit : all (fits l.kind) (values_in l.kind (chunks_rest l.values-iterator)) ≡ true;
  lengths : l.to + length (record_lines l.kind (values_in l.kind (chunks_rest l.values-iterator))) ≡ length (record_lines l.kind (values_in l.kind l.words));
  laid : overlay l.initial.out 0 (record_lines l.kind (values_in l.kind l.words)) ≡ overlay l.out l.to (record_lines l.kind (values_in l.kind (chunks_rest l.values-iterator)));
}
