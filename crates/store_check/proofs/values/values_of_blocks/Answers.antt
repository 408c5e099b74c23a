use Rattle.std.proofs.Common.{rules, ◌≡◌, ◌∙◌, ◌<◌, length, sym, ap, arith}
use Rattle.disk_trait.specs.Image.{Image}
use Rattle.block_model.specs.BlockReading.{block_in}
use Rattle.map_model.specs.SortedMap.{Bytes}
use Rattle.store_check.proofs.Causes.{later_cause, no_reads, one_more}
use Rattle.store_check.proofs.Valued.{all_counted, cause_given_by, counted_next, damage_has_cause, given_by, next_sound, none_counted, same_cause_given, same_given}
use Rattle.store_check.specs.Places.{part_of}
use Rattle.store_check.specs.Values.{values_in}
use Rattle.store_check.proofs.values.values_of_blocks.Goals as goal

pub loop-n-init : goal.loop-n-init
loop-n-init g c = record {
  counted = λ tells sound. none_counted c.args.index.now (g.D.Disk.world c.args.disk.now).seen.held sound;
  most = omega arith;
  moves = no_reads (g.D.Disk.world c.args.disk.now);
}

pub loop-n-preserved : goal.loop-n-preserved
loop-n-preserved g c =
    let l = c.loop-n in
    let x = c.args.index.now in
    let a = g.D.Disk.world c.args.disk.now in
    let lt : l.n < length x.index.rows = omega (arith, c.loop-n-test.true, c.blocks-n-end.ensures) in
    record {
      counted = λ tells sound.
          let part = c.deref.ensures.value ∙ c.in_ok-bytes.ensures.read tells ∙ ap (λ (h : Image). part_of x l.n h) l.invariant.moves.1.held in
          counted_next x a.seen.held l.n l.values (l.invariant.counted tells sound) lt c.from-values.result
          (c.from-values.ensures ∙ c.in_ok-more.ensures.values ∙ ap (λ (bytes : Bytes). values_in (block_in bytes)) part);
      most = omega (arith, l.invariant.most, c.from-values.ensures, c.in_ok-more.ensures.most);
      moves = one_more 1 a (g.D.Disk.world l.disk) (g.D.Disk.world c.read_bytes.new.disk) l.invariant.moves c.read_bytes.ensures.moves;
    }

pub returns-clause-values : goal.returns-clause-values
returns-clause-values g c tells sound =
    let l = c.loop-n in
    all_counted c.args.index.now (g.D.Disk.world c.args.disk.now).seen.held l.n l.values (l.invariant.counted tells sound) (omega (arith, c.loop-n-test.false, c.blocks-n-end.ensures))

pub returns-in_err-bytes-clause-values : goal.returns-in_err-bytes-clause-values
returns-in_err-bytes-clause-values g c tells sound = given_by _ c.from_residual.result c.in_err-bytes.field-0.0 c.from_residual.ensures.1 c.in_err-bytes.ensures.free

pub returns-in_err-bytes-clause-cause : goal.returns-in_err-bytes-clause-cause
returns-in_err-bytes-clause-cause g c =
    let l = c.loop-n in
    let a = g.D.Disk.world c.args.disk.now in
    let d = g.D.Disk.world c.read_bytes.new.disk in
    let why = c.in_err-bytes.field-0.0 in
    cause_given_by c.from_residual.result a d why c.from_residual.ensures.1 (later_cause a (g.D.Disk.world l.disk) d why l.invariant.moves.1.read_faults c.in_err-bytes.ensures.cause)

pub returns-in_err-bytes-clause-moves : goal.returns-in_err-bytes-clause-moves
returns-in_err-bytes-clause-moves g c =
    one_more 1 (g.D.Disk.world c.args.disk.now) (g.D.Disk.world c.loop-n.disk) (g.D.Disk.world c.read_bytes.new.disk) c.loop-n.invariant.moves c.read_bytes.ensures.moves

pub returns-in_err-more-clause-values : goal.returns-in_err-more-clause-values
returns-in_err-more-clause-values g c tells sound =
    let l = c.loop-n in
    let x = c.args.index.now in
    let image = (g.D.Disk.world c.args.disk.now).seen.held in
    let lt : l.n < length x.index.rows = omega (arith, c.loop-n-test.true, c.blocks-n-end.ensures) in
    let part = c.deref.ensures.value ∙ c.in_ok-bytes.ensures.read tells ∙ ap (λ (h : Image). part_of x l.n h) l.invariant.moves.1.held in
    same_given _ c.from_residual-in_err-more.result c.in_err-more.field-0.0 c.from_residual-in_err-more.ensures.1
    (c.in_err-more.ensures.undamaged image (sym part) (next_sound x image l.n l.values (l.invariant.counted tells sound) lt))

pub returns-in_err-more-clause-cause : goal.returns-in_err-more-clause-cause
returns-in_err-more-clause-cause g c =
    let a = g.D.Disk.world c.args.disk.now in
    let d = g.D.Disk.world c.read_bytes.new.disk in
    same_cause_given c.from_residual-in_err-more.result a d c.in_err-more.field-0.0 c.from_residual-in_err-more.ensures.1 (damage_has_cause a d c.in_err-more.field-0.0 c.in_err-more.ensures.damaged)

pub returns-in_err-more-clause-moves : goal.returns-in_err-more-clause-moves
returns-in_err-more-clause-moves g c =
    one_more 1 (g.D.Disk.world c.args.disk.now) (g.D.Disk.world c.loop-n.disk) (g.D.Disk.world c.read_bytes.new.disk) c.loop-n.invariant.moves c.read_bytes.ensures.moves
