use Rattle.std.proofs.Common.{inl, inr, refl, sym, ap}
use Rattle.std.specs.Prelude.{Ok}
use Rattle.fst_run.specs.Refusing.{HasPairs}
use Rattle.fst_run.proofs.Building.{built_of, unbuilt_of}
use Rattle.fst_run.proofs.Ends.{building_end}
use Rattle.fst_run.proofs.Reading.{read_all, read_some}
use Rattle.fst_run.proofs.Still.{untouched_none}
use Rattle.lines_in.proofs.EndCauses.{causes_on, no_fall_on}
use Rattle.lines_in.proofs.Readings.{read_none}
use Rattle.fst_run.proofs.build.build_of_lines.Goals as goal

pub returns-then-status : goal.returns-then-status
returns-then-status g c =
    let a = g.W.Disk.world c.args.out.now in
    let b = g.W.Disk.world c.read_lines-status.new.out in
    let status = c.read_lines-status.result in
    let pairs = c.read_lines-status.new.reader.builder in
    let how = building_end status a b c.read_lines-status.ensures.cause in
    record {
      ends = λ tells input output closed durable. inl (
          read_some pairs status a b
          (c.read_lines-status.ensures.read tt c.args.out.now tells input output refl
          (read_none 2100000 (λ lines. HasPairs lines c.args.buffers.lines.builder a a) c.args.buffers.pending c.requires.pending
          (record { pairs_are = ap Ok (sym c.requires.pairs); held = refl; said = refl; crash = untouched_none a (g.met.W.Outside.said_now c.args.out.now) })))
          closed c.if-status.true
          );
      causes = how.0;
      counts = c.read_lines-status.ensures.counts;
      statuses = how.1;
    }

pub returns : goal.returns
returns g c =
    let a = g.W.Disk.world c.args.out.now in
    let m = g.W.Disk.world c.read_lines-status.new.out in
    let b = g.W.Disk.world c.write_pairs.new.out in
    let status = c.read_lines-status.result in
    let pairs = c.read_lines-status.new.reader.builder in
    let end = c.write_pairs.ensures in
    record {
      ends = λ tells input output closed durable.
          let read = c.read_lines-status.ensures.read tt c.args.out.now tells input output refl
          (read_none 2100000 (λ lines. HasPairs lines c.args.buffers.lines.builder a a) c.args.buffers.pending c.requires.pending
          (record { pairs_are = ap Ok (sym c.requires.pairs); held = refl; said = refl; crash = untouched_none a (g.met.W.Outside.said_now c.args.out.now) })) in
          let all = read_all pairs status a m read c.if-status.false in
          elim (end.ends tells output) [
            | inl none ↦ inl (unbuilt_of a m b read.taken pairs c.write_pairs.result read.input all.0 all.1 closed end.input none.0 none.1)
            | inr written ↦ inr (built_of a m b read.taken pairs c.write_pairs.result read.input all.0 all.1 closed end.input durable written)
          ];
      causes = causes_on c.write_pairs.result a m b c.read_lines-status.ensures.counts end.causes;
      counts = no_fall_on a m b c.read_lines-status.ensures.counts end.counts;
      statuses = inl end.statuses;
    }
