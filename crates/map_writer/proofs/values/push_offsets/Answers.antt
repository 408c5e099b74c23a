use Rattle.std.proofs.Common.{◌+◌, ◌++◌, ◌∙◌, List, length, ap, append-nil, append_assoc, arith, sym}
use Rattle.byteorder.specs.Endian.{little_bytes}
use Rattle.map_file_model.specs.Body.{ends_from, offsets_of, words}
use Rattle.map_file_model.specs.Maps.{Bytes}
use Rattle.map_writer.specs.Orders.{values_at}
use Rattle.map_writer.proofs.Growing.{end_on, kept, no_value, still_kept, value_short}
use Rattle.map_writer.proofs.values.push_offsets.Goals as goal

pub loop-i-init : goal.loop-i-init
loop-i-init c =
    let out = c.args.out.now.items in (
      ap (λ (l : Bytes). l ++ words (ends_from 0 (values_at c.args.values.now c.args.order.now))) c.in_ok-push_number.ensures.added
          ∙ append_assoc out (little_bytes 8 0) (words (ends_from 0 (values_at c.args.values.now c.args.order.now))),
      still_kept out out (little_bytes 8 0) c.push_number.new.out.items c.in_ok-push_number.ensures.added (kept out),
      omega arith,
    )

pub get-requires : goal.get-requires
get-requires c = c.requires.within c.loop-i.i 0 (omega arith)

pub overflow_add-end : goal.overflow_add-end
overflow_add-end c =
    omega (arith, value_short c.args.values.now c.args.order.now c.loop-i.i c.get.result.now c.requires (omega arith) c.get.ensures, c.requires.few, c.loop-i.invariant.2)

pub loop-i-preserved : goal.loop-i-preserved
loop-i-preserved c =
    let values = c.args.values.now in
    let order = c.args.order.now in
    let further = c.loop-i.end + length c.get.result.now in
    let added = c.in_ok-push_number-2.ensures.added in (
      end_on values order c.loop-i.i c.loop-i.end further c.loop-i.out.items c.push_number-in-loop-i.new.out.items (c.args.out.now.items ++ words (offsets_of (values_at values order))) (omega arith)
          (ap (λ (v : Bytes). c.loop-i.end + length v) c.get.ensures) added c.loop-i.invariant.0,
      still_kept c.args.out.now.items c.loop-i.out.items (little_bytes 8 further) c.push_number-in-loop-i.new.out.items added c.loop-i.invariant.1,
      omega (arith, value_short values order c.loop-i.i c.get.result.now c.requires (omega arith) c.get.ensures, c.loop-i.invariant.2),
    )

pub returns-clause-added : goal.returns-clause-added
returns-clause-added c =
    sym (append-nil c.loop-i.out.items) ∙ ap (λ (vs : List Bytes). c.loop-i.out.items ++ words (ends_from c.loop-i.end vs)) (sym (no_value c.args.values.now c.args.order.now c.loop-i.i (omega arith))) ∙ c.loop-i.invariant.0
