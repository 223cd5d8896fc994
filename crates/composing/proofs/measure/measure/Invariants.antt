-- `composing::measure::measure` meets its contract. The records that are left, measured behind the first `count`, measure as all do. Assumes nothing.
use Rattle.std.proofs.Common.{◌≡◌, ◌≤◌, length, ◌+◌, ◌*◌}
use Rattle.std.specs.Slice.Iter.{chunks_rest, chunks_size}
use Rattle.records.specs.Record.{width_of}
use Rattle.files.specs.Writing.{values_in}
use Rattle.composing.specs.Measuring.{measured_from}
use Rattle.composing.proofs.measure.measure.Given as goal

abbrev pub invariant-loop-values : goal.invariant-loop-values
invariant-loop-values l = record {
  size : chunks_size l.values-iterator ≡ width_of l.kind;
  counted : l.count + length (chunks_rest l.values-iterator) ≤ length l.words;
  short : l.bytes + 8 * length (chunks_rest l.values-iterator) ≤ 8 * length l.words;
  left : measured_from l.kind l.count l.bytes (values_in l.kind (chunks_rest l.values-iterator)) ≡ measured_from l.kind 0 0 (values_in l.kind l.words);
}
