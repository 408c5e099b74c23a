use Rattle.std.proofs.Common.{◌≡◌, length, sym, subst}
use Rattle.disk_trait.specs.Image.{Image}
use Rattle.store_check.specs.Checks.{AreLeft, IsCheckOf, parts_left, waiting}
use Rattle.store_check.proofs.Causes.{only_then}
use Rattle.store_check.proofs.Parts.{steps_lower}
use Rattle.store_check.proofs.check.Check.next.Goals as goal

pub parts-preserved : goal.parts-preserved
parts-preserved g c =
    let f = g.F.RangeFilter in
    let l = c.parts in
    let new = c.look.new.self in
    let looked = c.in_ok-look.ensures in
    let first = (g.D.Disk.world c.args.disk.now).seen.held in
    let there = (g.D.Disk.world l.disk).seen.held in
    let held : there ≡ first = l.invariant.moves.1.held in
    record {
      of = λ tells is. subst (λ (h : Image). IsCheckOf h new) held (looked.of tells (subst (λ (h : Image). IsCheckOf h l.self) (sym held) (l.invariant.of tells is)));
      same = λ later tells is left.
          l.invariant.same later tells is
          (subst (λ (h : Image). AreLeft f.spelling f.first_fault h l.self later) held
          (looked.same later tells (subst (λ (h : Image). IsCheckOf h l.self) (sym held) (l.invariant.of tells is)) (subst (λ (h : Image). AreLeft f.spelling f.first_fault h new later) (sym held) left)));
      steps = steps_lower (parts_left l.self) (parts_left new) (length (waiting l.self)) (length (waiting new)) _ looked.parts looked.few l.invariant.steps;
      moves = only_then (g.D.Disk.world c.args.disk.now) (g.D.Disk.world l.disk) (g.D.Disk.world c.look.new.disk) l.invariant.moves c.look.ensures.moves;
    }

pub returns-in_err-look-clause-moves : goal.returns-in_err-look-clause-moves
returns-in_err-look-clause-moves g c =
    let l = c.parts in
    only_then (g.D.Disk.world c.args.disk.now) (g.D.Disk.world l.disk) (g.D.Disk.world c.look.new.disk) l.invariant.moves c.look.ensures.moves
