use Rattle.store_search.proofs.Lookeds.{read_sound}
use Rattle.store_search.proofs.searching.read_in.Goals as goal

pub returns-clause-undamaged : goal.returns-clause-undamaged
returns-clause-undamaged g c blocks tells stands = c.read_and_find.ensures.undamaged blocks tells c.requires.named stands

pub returns-clause-sound : goal.returns-clause-sound
returns-clause-sound g c tells =
    read_sound c.read_and_find.result c.args.table.now c.args.block (g.D.Disk.world c.args.disk.now).seen.held c.read_and_find.new.buf
    (c.read_and_find.ensures.bytes tells) c.read_and_find.ensures.whole (c.read_and_find.ensures.sum tells)
