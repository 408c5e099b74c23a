use Rattle.std.proofs.Common.{◌+◌, ℕ, List, [], ◌∷◌, ◌++◌, take, ap, sym, subst, ◌∙◌, arith}
use Rattle.key_base.specs.Limits.{log_bytes}
use Rattle.std.specs.Prelude.{Ok}
use Rattle.disk_trait.specs.World.{Now, Leads}
use Rattle.disk_trait.specs.declared.fault.DiskFault.{DiskFault}
use Rattle.disk_trait.proofs.Calls.{moves_then, moves_wider}
use Rattle.range_model.specs.Sources.{Change}
use Rattle.log_model.specs.Changes.{need_of}
use Rattle.log_model.specs.Area.{Position, LogIs, WithOrWithout, start_of}
use Rattle.log_model.proofs.Logs.{none_filled, take_next, filled_next_take, next_fits}
use Rattle.gate_log.proofs.log.Log.rewrite.Goals as goal

pub loop-change-init : goal.loop-change-init
loop-change-init g c = record {
  area = ap (λ (p : Position). p.area) c.in_ok-log.ensures.log;
  place = ap (λ (p : Position). p.filled) c.in_ok-log.ensures.log ∙ sym none_filled;
  stands = c.in_ok-log.ensures.stands;
  moves = moves_wider (start_of c.args.area) 1 (start_of c.args.area) log_bytes _ _ (omega arith) (omega arith) c.in_ok-log.ensures.moves;
}

pub add-requires-clause-fits : goal.add-requires-clause-fits
add-requires-clause-fits g c =
    let next = next_fits c.args.changes.now c.loop-change.change-index c.change-item.result c.loop-change-test.true c.change-item.is c.requires.fits in
    omega (arith, next, c.loop-change.invariant.place)

pub returns-in_err-add-clause-moves : goal.returns-in_err-add-clause-moves
returns-in_err-add-clause-moves g c =
    let fits = next_fits c.args.changes.now c.loop-change.change-index c.change-item.result c.loop-change-test.true c.change-item.is c.requires.fits in
    let place = c.loop-change.invariant.place in
    let area = c.loop-change.invariant.area in
    moves_then (start_of c.args.area) log_bytes _ _ _ c.loop-change.invariant.moves
    (moves_wider (start_of c.loop-change.log.area + c.loop-change.log.filled) (need_of c.change-item.result) (start_of c.args.area) log_bytes _ _ (omega arith) (omega arith) c.in_err-add.ensures.moves)

pub loop-change-preserved : goal.loop-change-preserved
loop-change-preserved g c =
    let changes = c.args.changes.now in
    let i = c.loop-change.change-index in
    let change = c.change-item.result in
    let here = c.loop-change.invariant in
    let fits = next_fits changes i change c.loop-change-test.true c.change-item.is c.requires.fits in
    let place = here.place in
    let area = here.area in
    record {
      area = c.in_ok-add.ensures.area ∙ area;
      place = omega (arith, c.in_ok-add.ensures.filled, place, filled_next_take changes i change c.loop-change-test.true c.change-item.is);
      stands = λ tells.
          let before = here.stands tells in
          let leads = subst
          (λ (a : ℕ). Leads {T = Unit {0}} {E = DiskFault} (LogIs a (take i changes)) (WithOrWithout a (take i changes) change) (LogIs a (take i changes ++ change ∷ [])) (Ok c.in_ok-add.field-0) (g.D.Disk.world c.loop-change.disk) (g.D.Disk.world c.add.new.disk))
          area (c.in_ok-add.ensures.crash (take i changes) tells place) in
          subst (λ (es : List Change). Now (LogIs c.args.area es) (g.D.Disk.world c.add.new.disk)) (sym (take_next changes i change c.loop-change-test.true c.change-item.is)) (leads.after before);
      moves = moves_then (start_of c.args.area) log_bytes _ _ _ here.moves
          (moves_wider (start_of c.loop-change.log.area + c.loop-change.log.filled) (need_of change) (start_of c.args.area) log_bytes _ _ (omega arith) (omega arith) c.in_ok-add.ensures.moves);
    }
