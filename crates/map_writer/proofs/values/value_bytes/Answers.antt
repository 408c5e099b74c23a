use Rattle.std.proofs.Common.{List, length, ap, arith}
use Rattle.std.specs.List.{concat}
use Rattle.map_file_model.specs.Maps.{Bytes}
use Rattle.map_writer.specs.Orders.{values_at}
use Rattle.map_writer.proofs.Growing.{bytes_on, no_value, value_short}
use Rattle.map_writer.proofs.values.value_bytes.Goals as goal

pub get-requires : goal.get-requires
get-requires c = c.requires.within c.loop-i.i 0 (omega arith)

pub overflow_add-bytes : goal.overflow_add-bytes
overflow_add-bytes c =
    omega (arith, value_short c.args.values.now c.args.order.now c.loop-i.i c.get.result.now c.requires (omega arith) c.get.ensures, c.requires.few, c.loop-i.invariant.1)

pub loop-i-preserved : goal.loop-i-preserved
loop-i-preserved c = (
  bytes_on c.args.values.now c.args.order.now c.loop-i.i c.loop-i.bytes (length (concat (values_at c.args.values.now c.args.order.now))) c.get.result.now (omega arith) c.get.ensures c.loop-i.invariant.0,
  omega (arith, value_short c.args.values.now c.args.order.now c.loop-i.i c.get.result.now c.requires (omega arith) c.get.ensures, c.loop-i.invariant.1),
)

pub returns : goal.returns
returns c = record {
  exact = omega (arith, ap (λ (vs : List Bytes). length (concat vs)) (no_value c.args.values.now c.args.order.now c.loop-i.i (omega arith)), c.loop-i.invariant.0);
  few = omega (arith, c.loop-i.invariant.1, c.requires.few);
}
