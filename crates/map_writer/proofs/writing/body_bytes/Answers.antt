use Rattle.std.proofs.Common.{◌∙◌, List, length, ap, arith, sym}
use Rattle.std.specs.Prelude.{zip}
use Rattle.std.specs.List.{concat}
use Rattle.filter_model.specs.Image.{image}
use Rattle.map_file_model.specs.Maps.{Bytes}
use Rattle.map_writer.proofs.Sizes.{body_long}
use Rattle.map_writer.proofs.Slots.{keys_are, slots_long}
use Rattle.whole_keys.specs.Whole.{whole_leaves}
use Rattle.map_writer.proofs.writing.body_bytes.Goals as goal

pub image_bytes-requires : goal.image_bytes-requires
image_bytes-requires c = (c.args.keys.now, c.requires.plan)

pub value_bytes-requires : goal.value_bytes-requires
value_bytes-requires c = c.requires.order.may

pub returns : goal.returns
returns c =
    let keys = c.args.keys.now in
    let values = c.args.values.now in
    let k = c.requires.plan.keys_are in
    let p = c.requires.pairs in
    let image_is = c.image_bytes.ensures.exact keys c.requires.plan ∙ ap (λ (ks : List Bytes). length (image 0 0 c.args.plan.now.cutoff (whole_leaves ks))) (sym (keys_are keys values k p)) in
    let values_are = c.value_bytes.ensures.exact ∙ ap (λ (vs : List Bytes). length (concat vs)) c.requires.order.are in
    omega (arith, body_long c.args.plan.now.cutoff (zip keys values), image_is, values_are, slots_long keys values k p, c.len.ensures)
