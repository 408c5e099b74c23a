use Rattle.std.proofs.Common.{◌++◌, ◌∙◌, List, ap, append-nil, arith, refl, sym}
use Rattle.std.specs.List.{concat}
use Rattle.map_file_model.specs.Maps.{Bytes}
use Rattle.map_writer.specs.Orders.{values_at}
use Rattle.map_writer.proofs.Growing.{kept, no_value, still_kept, value_on}
use Rattle.map_writer.proofs.values.push_values.Goals as goal

pub loop-i-init : goal.loop-i-init
loop-i-init c = (refl, kept c.args.out.now.items)

pub get-requires : goal.get-requires
get-requires c = c.requires.within c.loop-i.i 0 (omega arith)

pub loop-i-preserved : goal.loop-i-preserved
loop-i-preserved c =
    let values = c.args.values.now in
    let order = c.args.order.now in
    let added = c.in_ok-extend_from_slice.ensures.items in (
      value_on values order c.loop-i.i c.loop-i.out.items c.extend_from_slice.new.self.items c.get.result.now (c.args.out.now.items ++ concat (values_at values order)) (omega arith) c.get.ensures added c.loop-i.invariant.0,
      still_kept c.args.out.now.items c.loop-i.out.items c.get.result.now c.extend_from_slice.new.self.items added c.loop-i.invariant.1,
    )

pub returns-clause-added : goal.returns-clause-added
returns-clause-added c =
    sym (append-nil c.loop-i.out.items) ∙ ap (λ (vs : List Bytes). c.loop-i.out.items ++ concat vs) (sym (no_value c.args.values.now c.args.order.now c.loop-i.i (omega arith))) ∙ c.loop-i.invariant.0
