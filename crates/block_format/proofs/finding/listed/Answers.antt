use Rattle.std.proofs.Common.{arith, ◌∙◌}
use Rattle.block_format.proofs.Groups.{number_fits, group_part, place_fits}
use Rattle.block_format.proofs.finding.listed.Goals as goal

pub get_u16-requires : goal.get_u16-requires
get_u16-requires c = number_fits c.args.head c.args.bytes.now c.requires.head c.requires.format c.args.group c.requires.inside

pub between-requires : goal.between-requires
between-requires c =
    let le = place_fits c.args.head c.args.bytes.now c.requires.head c.requires.format c.args.group c.requires.inside in
    (omega (arith, le, c.from-at.ensures, c.get_u16.ensures), c.requires.head.inside)

pub returns : goal.returns
returns c = c.between.ensures ∙ group_part c.args.head c.args.bytes.now c.requires.head c.requires.format c.args.group c.from-at.result (c.from-at.ensures ∙ c.get_u16.ensures) c.requires.inside
