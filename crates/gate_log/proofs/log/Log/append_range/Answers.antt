use Rattle.std.proofs.Common.{ap, arith}
use Rattle.log_model.specs.Area.{Position}
use Rattle.range_model.specs.Ranges.{range_of}
use Rattle.range_model.specs.Sources.{Clears}
use Rattle.gate_log.proofs.log.Log.append_range.Goals as goal

pub returns-clause-crash : goal.returns-clause-crash
returns-clause-crash g c changes tells is =
    c.in_ok-write_record.ensures.crash c.args.self.now.area changes (Clears (range_of c.args.lo.now c.args.hi.now)) tells (record {
      here = omega (arith, c.area_start.ensures, ap (λ (p : Position). p.area) c.self.view_is, ap (λ (p : Position). p.filled) c.self.view_is, is);
      bytes_are = c.put_range-length.ensures.bytes;
      sound = (c.requires.range, (c.requires.lo, c.requires.hi));
      room = omega (arith, c.requires.fits, is);
    })
