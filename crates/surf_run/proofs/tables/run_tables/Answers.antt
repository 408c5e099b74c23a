use Rattle.std.proofs.Common.{◌+◌, ◌*◌, inl, inr}
use Rattle.key_base.specs.Limits.{max_tables}
use Rattle.surf_run.specs.Readings.{IsTablesText}
use Rattle.surf_run.proofs.Checked.{changes_on, changes_read, changes_say}
use Rattle.lines_in.proofs.EndCauses.{causes_on}
use Rattle.surf_run.proofs.Openings.{opened_ends}
use Rattle.surf_run.proofs.Readings.{failed_whole, free_of_tables, line_since, reading_ends, saying_causes, saying_never, saying_reads, saying_whole}
use Rattle.surf_run.proofs.tables.run_tables.Goals as goal

pub returns-in-Ok : goal.returns-in-Ok
returns-in-Ok g c =
    let old = g.W.Disk.world c.args.out.now in
    let mid = g.W.Disk.world c.read_or_say.new.out in
    let new = g.W.Disk.world c.say_tables.new.out in
    let spelling = g.F.RangeFilter.spelling in
    let first = g.F.RangeFilter.first_fault in
    let read = c.in-Ok.ensures in
    let status = c.say_tables.result in
    let ends = c.say_tables.ensures.ends in
    let changes = changes_read (7 + 2 * max_tables) old mid read.still in
    let causes = causes_on status old mid new changes.counts (saying_causes status mid new ends) in
    record {
      lines = λ s tells output is. line_since (IsTablesText s) status old mid new read.still.beside (c.say_tables.ensures.lines s old.seen.held output (read.opens s tells is) is.1.named.none_kept (read.log s tells is));
      complete = λ s tells is none. saying_whole status old mid new ends causes none;
      only_at_damage = λ tells output five. absurd (saying_never 5 status mid new (λ e. cc) (λ e. cc) (λ e. cc) ends five);
      reading = reading_ends spelling first g.W.Disk.tells g.W.Outside.tells_output status old new (opened_ends spelling first g.W.Disk.tells g.W.Outside.tells_output status old new read.opens_something)
          (λ tells eight. absurd (saying_never 8 status mid new (λ e. cc) (λ e. cc) (λ e. cc) ends eight)) causes (saying_reads status mid new ends) (changes_on old mid new changes (changes_say mid new c.say_tables.ensures.moves));
    }

pub returns-in-Err : goal.returns-in-Err
returns-in-Err g c =
    let old = g.W.Disk.world c.args.out.now in
    let new = g.W.Disk.world c.read_or_say.new.out in
    let read = c.in-Err.ensures in
    record {
      lines = λ s tells output is. free_of_tables s c.in-Err.status old new (read.free s tells output is);
      complete = λ s tells is none. failed_whole c.in-Err.status old new (read.failed s tells is) read.ends.causes none;
      only_at_damage = read.only_at_damage;
      reading = read.ends;
    }
