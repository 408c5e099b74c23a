use Rattle.std.proofs.Common.{◌++◌, ◌∙◌, take, sym, ap, arith, length-take-le}
use Rattle.key_base.specs.ByteOrder.{is_before}
use Rattle.map_model.specs.SortedMap.{Bytes}
use Rattle.block_format.proofs.Walked.{fits, head_fits, held_shared, key_parts}
use Rattle.block_format.proofs.walking.is_next_below.Goals as goal

pub head_of-head-requires : goal.head_of-head-requires
head_of-head-requires c = head_fits c.args.walk c.args.buffer.now c.args.bytes.now c.requires.some c.requires.stands

pub own_part-own-requires : goal.own_part-own-requires
own_part-own-requires c =
    let head = c.head_of-head.result in
    let e = c.head_of-head.ensures in
    omega (arith, fits c.args.walk c.args.buffer.now c.args.bytes.now c.requires.some c.requires.stands head.shared head.rest head.value head.bytes e.shared e.rest e.value e.bytes)

pub slice_bounds-front-end : goal.slice_bounds-front-end
slice_bounds-front-end c =
    let head = c.head_of-head.result in
    let e = c.head_of-head.ensures in
    sym
    (length-take-le head.shared c.args.buffer.now
    (held_shared c.args.walk c.args.buffer.now c.args.bytes.now c.requires.some c.requires.stands head.shared head.rest head.value head.bytes e.shared e.rest e.value e.bytes))

pub returns : goal.returns
returns c =
    let head = c.head_of-head.result in
    let e = c.head_of-head.ensures in
    c.is_joined_below.ensures
    ∙ ap (λ (l : Bytes). is_before (take head.shared c.args.buffer.now ++ l) c.args.low.now) c.own_part-own.ensures
    ∙ ap (λ (k : Bytes). is_before k c.args.low.now)
    (key_parts c.args.walk c.args.buffer.now c.args.bytes.now c.requires.some c.requires.stands head.shared head.rest head.value head.bytes e.shared e.rest e.value e.bytes)
