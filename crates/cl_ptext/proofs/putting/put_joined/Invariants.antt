use Rattle.std.proofs.Common.{◌≡◌, drop, true}
use Rattle.cl_value.specs.Value.{parts_of}
use Rattle.cl_ptext.specs.Texts.{each_joined, plain}
use Rattle.cl_ptext.proofs.putting.put_joined.Given as goal

abbrev pub invariant-loop-value : goal.invariant-loop-value
invariant-loop-value l = record {
  text : each_joined l.first l.separator plain (parts_of (drop l.value-index l.values)) l.writing.bytes.items l.writing.meter.cost l.writing.meter.deepest
      ≡ each_joined true l.separator plain (parts_of l.values) l.initial.writing.bytes.items l.initial.writing.meter.cost l.initial.writing.meter.deepest;
  meter : l.writing.meter ≡ l.initial.writing.meter;
}
