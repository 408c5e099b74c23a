use Rattle.std.proofs.Common.{◌≡◌, ◌+◌, ◌*◌, inl, inr, ap, arith, length, subst, sym}
use Rattle.std.specs.Prelude.{IsTrue}
use Rattle.disk_trait.specs.Image.{Image}
use Rattle.disk_trait.specs.World.{Streams}
use Rattle.image_model.specs.Stands.{IsStateOf}
use Rattle.key_base.specs.Limits.{max_tables}
use Rattle.lines_in.proofs.EndCauses.{causes_on}
use Rattle.state_model.specs.State.{State}
use Rattle.store_core.specs.Represents.{ReadsAs}
use Rattle.store_core.specs.Scans.{AreAllSound}
use Rattle.surf_run.proofs.Checked.{changes_on, changes_read}
use Rattle.surf_run.proofs.Dumped.{dump_causes, dump_never_eight, dump_reads, dump_whole, free_of_pairs}
use Rattle.surf_run.proofs.Openings.{opened_ends}
use Rattle.surf_run.proofs.Readings.{failed_whole, line_since, reading_ends}
use Rattle.surf_run.specs.Readings.{IsDumpText}
use Rattle.table_model.specs.Tables.{filter_bytes_of}
use Rattle.surf_run.proofs.dumping.run_dump.Goals as goal

pub dump_store-requires : goal.dump_store-requires
dump_store-requires g c = record { running = c.in-Ok.ensures.running }

pub returns-in-Ok : goal.returns-in-Ok
returns-in-Ok g c =
    let old = g.W.Disk.world c.args.out.now in
    let mid = g.W.Disk.world c.read_or_say.new.out in
    let new = g.W.Disk.world c.dump_store.new.out in
    let spelling = g.F.RangeFilter.spelling in
    let first = g.F.RangeFilter.first_fault in
    let bytes = filter_bytes_of spelling g.F.RangeFilter.built_cutoff in
    let read = c.in-Ok.ensures in
    let status = c.dump_store.result in
    let ends = c.dump_store.ensures.ends in
    let changes = changes_read (7 + 2 * max_tables) old mid read.still in
    let causes = causes_on status old mid new changes.counts (dump_causes status mid new ends) in
    let reads : (s : State) → IsTrue g.W.Disk.tells → IsStateOf spelling s old.seen.held → ReadsAs spelling bytes c.in-Ok.store s mid.seen.held =
    λ s tells is. subst (λ (f : Image). ReadsAs spelling bytes c.in-Ok.store s f) (sym read.still.held) (read.opens s tells is) in
    record {
      lines = λ s tells output is. line_since (IsDumpText s) status old mid new read.still.beside (c.dump_store.ensures.lines s tells output (reads s tells is));
      complete = λ s tells is none. dump_whole status old mid new ends (c.dump_store.ensures.sound s tells (reads s tells is)) causes none;
      only_at_damage = λ tells output five. inr (λ s is. c.dump_store.ensures.sound s tells (reads s tells is) five, c.dump_store.ensures.shown tells output five);
      whole = λ tells output done. elim (c.dump_store.ensures.whole tells output done) [
        | inl sound ↦ inl record { store = c.in-Ok.store; opens = read.opened tells; sound = subst (λ (f : Image). AreAllSound c.in-Ok.store.tables f) read.still.held sound }
        | inr many ↦ inr (omega (arith, many, ap (λ (s : Streams). length s.said) read.still.beside))
      ];
      reading = reading_ends spelling first g.W.Disk.tells g.W.Outside.tells_output status old new (opened_ends spelling first g.W.Disk.tells g.W.Outside.tells_output status old new read.opens_something)
          (λ tells eight. absurd (dump_never_eight status mid new ends eight)) causes (dump_reads status mid new ends) (changes_on old mid new changes c.dump_store.ensures.changes);
    }

pub returns-in-Err : goal.returns-in-Err
returns-in-Err g c =
    let old = g.W.Disk.world c.args.out.now in
    let new = g.W.Disk.world c.read_or_say.new.out in
    let read = c.in-Err.ensures in
    record {
      lines = λ s tells output is. free_of_pairs s c.in-Err.status old new (read.free s tells output is);
      complete = λ s tells is none. failed_whole c.in-Err.status old new (read.failed s tells is) read.ends.causes none;
      only_at_damage = λ tells output five. inl (read.only_at_damage tells output five);
      whole = λ tells output done. absurd (read.not_done done);
      reading = read.ends;
    }
