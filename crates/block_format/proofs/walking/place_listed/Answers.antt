use Rattle.block_format.proofs.Groups.{number_fits}
use Rattle.block_format.proofs.walking.place_listed.Goals as goal

pub get_u16-requires : goal.get_u16-requires
get_u16-requires c = number_fits c.args.head c.args.bytes.now c.requires.head c.requires.format c.args.group c.requires.inside
