use Rattle.std.proofs.Common.{length, take, drop, ap, ◌∙◌, arith}
use Rattle.map_model.specs.SortedMap.{Bytes}
use Rattle.block_model.specs.Formats.{Prefixed, rest_length_in}
use Rattle.block_format.proofs.Close.{own_of}
use Rattle.block_format.proofs.Groups.{listed_rest, whole_entry}
use Rattle.block_format.proofs.finding.key_listed.Goals as goal

pub head_of-entry-requires : goal.head_of-entry-requires
head_of-entry-requires c =
    let all = whole_entry c.args.bytes.now c.requires.format c.requires.head.whole c.args.group c.requires.inside in
    omega (arith, all, ap length c.listed-rest.ensures)

pub own_part-requires : goal.own_part-requires
own_part-requires c =
    let all = whole_entry c.args.bytes.now c.requires.format c.requires.head.whole c.args.group c.requires.inside in
    let same = ap (rest_length_in Prefixed) c.listed-rest.ensures in
    omega (arith, all, same, ap length c.listed-rest.ensures, c.head_of-entry.ensures.rest, c.head_of-entry.ensures.bytes)

pub returns : goal.returns
returns c =
    let entry = c.head_of-entry.result in
    let e = c.head_of-entry.ensures in
    c.own_part.ensures
    ∙ own_of c.listed-rest.result.now entry.kind entry.rest entry.value entry.bytes e.kind e.rest e.value e.bytes
    ∙ ap (λ (l : Bytes). take (rest_length_in Prefixed l) (drop 9 l)) c.listed-rest.ensures
    ∙ listed_rest c.args.bytes.now c.requires.format c.requires.head.whole c.args.group c.requires.inside
