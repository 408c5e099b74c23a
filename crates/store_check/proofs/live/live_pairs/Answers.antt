use Rattle.std.proofs.Common.{◌≡◌, [], rules, sym, subst, arith}
use Rattle.disk_trait.specs.Image.{Image}
use Rattle.merge_rows.proofs.Begins.{walks_known}
use Rattle.merge_rows.specs.Merges.{Merge}
use Rattle.merge_rows.specs.Reads.{SomeBlock}
use Rattle.merge_rows.specs.Steps.{AreNumbersIn, AreWalksIn, numbers, stands}
use Rattle.store_check.proofs.Causes.{no_reads, only_then}
use Rattle.store_check.proofs.Lived.{block_undamaged, rows_on, sound_on}
use Rattle.store_check.proofs.Lives.{numbers_there}
use Rattle.store_check.proofs.live.live_pairs.Goals as goal
use Rattle.table_file.specs.Faults.{IsNoDamage}
use Rattle.table_file.specs.Search.{IsGetFault}

pub new-requires-clause-there : goal.new-requires-clause-there
new-requires-clause-there g c = subst (AreNumbersIn c.args.tables.now.tables) (sym c.in_ok-which.ensures) (numbers_there c.args.tables.now.tables _ c.len.ensures)

pub loop-live-init : goal.loop-live-init
loop-live-init g c = record {
  walks = subst (λ (m : Merge). AreWalksIn c.args.tables.now.tables (stands m.walks)) (sym c.in_ok-rows.ensures)
      (walks_known c.in_ok-which.which.items c.args.tables.now.tables [] (subst (AreNumbersIn c.args.tables.now.tables) (sym c.in_ok-which.ensures) (numbers_there c.args.tables.now.tables _ c.len.ensures)));
  sound = λ tells is. is;
  rows = λ tells is. omega arith;
  moves = no_reads (g.D.Disk.world c.args.disk.now);
}

pub returns-in_err-advance-clause-undamaged : goal.returns-in_err-advance-clause-undamaged
returns-in_err-advance-clause-undamaged g c tables tells there =
    let image = (g.D.Disk.world c.args.disk.now).seen.held in
    let why = c.in_err-advance.field-0.0 in
    let opened = c.args.tables.now.tables in
    let fault = subst (λ (f : Image). SomeBlock opened (numbers c.loop-live.rows.walks) (λ t n. IsGetFault t n f why)) c.loop-live.invariant.moves.1.held (c.in_err-advance.ensures.fault tells) in
    let here : IsNoDamage why = block_undamaged c.standing_tables_are_read.ensures.blocks g.F.RangeFilter.spelling image opened tables there (numbers c.loop-live.rows.walks) why fault in
    search rules

pub returns-in_err-advance-clause-moves : goal.returns-in_err-advance-clause-moves
returns-in_err-advance-clause-moves g c = only_then (g.D.Disk.world c.args.disk.now) (g.D.Disk.world c.loop-live.disk) (g.D.Disk.world c.advance.new.disk) c.loop-live.invariant.moves c.advance.ensures.moves

pub returns-then-not-branch-clause-moves : goal.returns-then-not-branch-clause-moves
returns-then-not-branch-clause-moves g c = only_then (g.D.Disk.world c.args.disk.now) (g.D.Disk.world c.loop-live.disk) (g.D.Disk.world c.advance.new.disk) c.loop-live.invariant.moves c.advance.ensures.moves

pub loop-live-preserved : goal.loop-live-preserved
loop-live-preserved g c =
    let image = (g.D.Disk.world c.args.disk.now).seen.held in
    let there = (g.D.Disk.world c.loop-live.disk).seen.held in
    let tables = c.args.tables.now.tables in
    let l = c.loop-live in
    let held : there ≡ image = l.invariant.moves.1.held in
    record {
      walks = subst (AreWalksIn tables) (sym c.in_ok-advance.ensures.kept.stands_are) l.invariant.walks;
      sound = λ tells is. sound_on g.D.Disk.tells tables image there held l.rows c.advance.new.self c.in_ok-advance.ensures.kept tells (l.invariant.sound tells is);
      rows = λ tells is. omega (
        arith,
        l.invariant.rows tells is,
        rows_on g.D.Disk.tells tables image there held l.rows c.advance.new.self c.in_ok-advance.ensures.row c.in_ok-advance.field-0 c.in_ok-advance.ensures.said c.if-not-branch.false tells (l.invariant.sound tells is),
      );
      moves = only_then (g.D.Disk.world c.args.disk.now) (g.D.Disk.world l.disk) (g.D.Disk.world c.advance.new.disk) l.invariant.moves c.advance.ensures.moves;
    }
