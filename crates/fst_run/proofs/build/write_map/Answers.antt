use Rattle.std.proofs.Common.{◌≡◌, ◌∷◌, [], ◌∙◌, subst}
use Rattle.std.specs.Prelude.{Err, IsErr, Ok, OnOk, Result}
use Rattle.disk_trait.specs.Image.{Image, overwritten}
use Rattle.fst_run.proofs.Crash.{body_meanwhile, gate_meanwhile}
use Rattle.lines_in.proofs.EndCauses.{line_write, no_fall_on}
use Rattle.fst_run.proofs.build.write_map.Goals as goal

never_ok : {T E : Type 0} (P : Type 0) (r : Result T E) → IsErr r → OnOk r P
never_ok P (Ok v) failed = absurd cc
never_ok P (Err e) failed = tt

pub returns-in_err-write_through-clause-written : goal.returns-in_err-write_through-clause-written
returns-in_err-write_through-clause-written g c = record {
  written = λ tells. never_ok _ c.from_residual.result c.from_residual.ensures.0;
  durable = never_ok _ c.from_residual.result c.from_residual.ensures.0;
  meanwhile = λ tells pairs is closed. body_meanwhile pairs c.args.body.now is (g.D.Disk.world c.args.disk.now) (g.D.Disk.world c.write_through.new.disk) c.in_err-write_through.ensures.moves closed;
  beside = c.in_err-write_through.ensures.moves.beside;
}

pub returns-clause-written : goal.returns-clause-written
returns-clause-written g c =
    let a = g.D.Disk.world c.args.disk.now in
    let b = g.D.Disk.world c.write_through.new.disk in
    let e = g.D.Disk.world c.write_through-2.new.disk in
    record {
      written = λ tells. subst (λ (f : Image). OnOk c.write_through-2.result (e.seen.held ≡ overwritten f 0 (1 ∷ []))) (c.in_ok-write_through.ensures.written tells) (c.write_through-2.ensures.written tells);
      durable = c.write_through-2.ensures.durable;
      meanwhile = λ tells pairs is closed. gate_meanwhile pairs c.args.body.now is a b c.in_ok-write_through.ensures.moves closed e c.in_ok-write_through.ensures.durable (c.in_ok-write_through.ensures.written tells) c.write_through-2.ensures.moves;
      beside = c.write_through-2.ensures.moves.beside ∙ c.in_ok-write_through.ensures.moves.beside;
    }

pub returns-clause-counts : goal.returns-clause-counts
returns-clause-counts g c =
    no_fall_on (g.D.Disk.world c.args.disk.now) (g.D.Disk.world c.write_through.new.disk) (g.D.Disk.world c.write_through-2.new.disk)
    (line_write 8 _ _ _ c.in_ok-write_through.ensures.moves).counts (line_write 0 1 _ _ c.write_through-2.ensures.moves).counts
