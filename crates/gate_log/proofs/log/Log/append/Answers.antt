use Rattle.std.proofs.Common.{ap, arith}
use Rattle.log_model.specs.Area.{Position}
use Rattle.entry_model.specs.Entries.{entry_of}
use Rattle.range_model.specs.Sources.{Sets}
use Rattle.gate_log.specs.Values.{value_of}
use Rattle.gate_log.proofs.log.Log.append.Goals as goal

pub returns-clause-crash : goal.returns-clause-crash
returns-clause-crash g c changes tells is =
    c.in_ok-write_record.ensures.crash c.args.self.now.area changes (Sets (entry_of c.args.key.now (value_of c.args.value))) tells (record {
      here = omega (arith, c.area_start.ensures, ap (λ (p : Position). p.area) c.self.view_is, ap (λ (p : Position). p.filled) c.self.view_is, is);
      bytes_are = c.put_record-length.ensures.bytes;
      sound = c.requires.sound;
      room = omega (arith, c.requires.fits, is);
    })
