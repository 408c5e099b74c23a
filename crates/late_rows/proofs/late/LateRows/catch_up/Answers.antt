use Rattle.std.proofs.Common.{◌≡◌, ◌∙◌, refl, sym, subst, arith}
use Rattle.std.specs.Prelude.{Err, None}
use Rattle.merge_rows.specs.Steps.{AreWalksIn}
use Rattle.merge_rows.proofs.Stays.{lengths_are}
use Rattle.late_rows.proofs.Going.{fails_caught, goes_caught, goes_same, reads_same}
use Rattle.late_rows.proofs.Turns.{all_clear, awake_of_err, turn}
use Rattle.late_rows.specs.Late.{waking_at}
use Rattle.late_rows.proofs.late.LateRows.catch_up.Goals as goal

pub loop-at-init : goal.loop-at-init
loop-at-init g c =
    let tables = c.args.tables.now.tables in
    let w = g.D.Disk.world c.args.disk.now in
    record {
      asleep = refl;
      goes = goes_same g.D.Disk.tells tables c.args.self.now w;
      reads = reads_same g.D.Disk.tells tables c.args.self.now w;
      caught_up = λ t at lt. absurd (omega (arith, lt));
      heads_pass = λ at lt. absurd (omega (arith, lt));
    }

pub catch_up_at-requires-clause-known : goal.catch_up_at-requires-clause-known
catch_up_at-requires-clause-known g c = subst (AreWalksIn c.args.tables.now.tables) (sym c.loop-at.invariant.goes.stands_are) c.requires

pub catch_up_at-requires-clause-there : goal.catch_up_at-requires-clause-there
catch_up_at-requires-clause-there g c =
    let many = lengths_are c.loop-at.self.merge.walks c.args.self.now.merge.walks c.loop-at.invariant.goes.numbers_are in
    omega (arith, many, c.loop-at-test.true, c.count-at-end.ensures.count)

pub loop-at-preserved : goal.loop-at-preserved
loop-at-preserved g c =
    turn g.D.Disk.tells c.args.tables.now.tables c.loop-at.at c.args.self.now c.loop-at.self c.catch_up_at.new.self (g.D.Disk.world c.args.disk.now) (g.D.Disk.world c.loop-at.disk)
    (g.D.Disk.world c.catch_up_at.new.disk) c.loop-at.invariant c.catch_up_at.ensures.asleep c.in-Ok.ensures.awake
    (λ some. let is = c.in-Ok.ensures.sleeps some in (is.1, is.2))

pub returns : goal.returns
returns g c =
    let tables = c.args.tables.now.tables in
    let before = g.D.Disk.world c.args.disk.now in
    let after = g.D.Disk.world c.loop-at.disk in
    let sofar = c.loop-at.invariant in
    let many = lengths_are c.loop-at.self.merge.walks c.args.self.now.merge.walks sofar.goes.numbers_are in
    record {
      asleep = sofar.asleep;
      goes = sofar.goes;
      reads = sofar.reads;
      caught_up = λ t at lt none. sofar.caught_up t at (omega (arith, lt, many, c.loop-at-test.false, c.count-at-end.ensures.count)) lt none;
      heads_pass = all_clear g.D.Disk.tells tables c.loop-at.at c.args.self.now c.loop-at.self before after sofar c.count-at-end.ensures.still (omega (arith, many, c.loop-at-test.false, c.count-at-end.ensures.count));
      fails = tt;
    }

pub returns-in-Err : goal.returns-in-Err
returns-in-Err g c =
    let tells = g.D.Disk.tells in
    let tables = c.args.tables.now.tables in
    let before = g.D.Disk.world c.args.disk.now in
    let mid = g.D.Disk.world c.loop-at.disk in
    let after = g.D.Disk.world c.catch_up_at.new.disk in
    let first = c.args.self.now in
    let old = c.loop-at.self in
    let new = c.catch_up_at.new.self in
    let sofar = c.loop-at.invariant in
    let asleep = c.catch_up_at.ensures.asleep in
    let awake : waking_at old.asleep c.loop-at.at ≡ None =
    awake_of_err c.catch_up_at.result c.in-Err.why (waking_at old.asleep c.loop-at.at) c.in-Err.is (λ some. (c.catch_up_at.ensures.sleeps some).0) in
    let catches = c.in-Err.ensures.awake awake in
    record {
      asleep = asleep ∙ sofar.asleep;
      goes = goes_caught tells tables first old new c.loop-at.at (Err c.in-Err.why) before mid after sofar.goes asleep awake catches;
      reads = tt;
      caught_up = λ t. tt;
      heads_pass = tt;
      fails = fails_caught tells tables first old new c.loop-at.at c.in-Err.why before mid after sofar.goes sofar.reads asleep awake catches;
    }
