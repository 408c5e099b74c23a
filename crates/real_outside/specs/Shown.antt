-- What a file with the process's streams shows: its counts of faults.
use Rattle.disk_trait.specs.World.{World}
use Rattle.real_outside.specs.declared.process.FileOutside.{FileOutside}
use Rattle.real_outside.specs.Untold.{untold_world}

abbrev pub shown : FileOutside → World
shown o = untold_world o.read_faults o.write_faults o.take_faults o.say_faults
