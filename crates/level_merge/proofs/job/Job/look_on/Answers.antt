use Rattle.std.proofs.Common.{◌≡◌, ◌∙◌, ◌<◌, inl, inr, false, length, refl, sym, subst}
use Rattle.std.specs.Prelude.{Result, IfOk}
use Rattle.level_merge.specs.JobValue.{JobValue}
use Rattle.level_merge.specs.SliceSteps.{IsStop, LooksOn, ReadyAtEnd, StopsAtEnd}
use Rattle.level_merge.specs.declared.fault.JobFault.{JobFault}
use Rattle.level_merge.specs.declared.fault.Sliced.{Sliced}
use Rattle.level_merge.specs.declared.taking.Stop.{Stop}
use Rattle.level_merge.proofs.OutputLists.{full_has}
use Rattle.level_merge.proofs.SliceSteps.{no_length, none_of_length, some_length}
use Rattle.level_merge.proofs.job.Job.look_on.Goals as goal
use Rattle.level_merge.proofs.job.Job.look_on.Goals.{in-Ok-Blocks, in-Ok-Full, in-Ok-End+else-not-is_empty, in-Err}

-- the next row needs a block, the next output is full already, or no row is left
pub returns-clause-said : goal.returns-clause-said
returns-clause-said g c =
    let tells = g.D.Disk.tells in
    let tables = c.args.tables.now.tables in
    let image = (g.D.Disk.world c.args.disk.now).seen.held in
    let old = c.args.self.now in
    let new = c.take_rows.new.self in
    let stops = λ (s : Stop). IsStop tells 0 tables image old.beside old.merge new.merge new.built s in
    let says = λ (r : Result Sliced JobFault). IfOk r (LooksOn tells tables image old new) in
    elim c.match-take_rows.branch [
      | in-Ok-Blocks w ↦ subst says (sym w.result-is) (inl (subst stops w.in-Ok-Blocks.field-0-is w.in-Ok-Blocks.ensures.stop).1)
      | in-Ok-Full w ↦ subst says (sym w.result-is) (inr (full_has old.beside new.built (subst stops w.in-Ok-Full.field-0-is w.in-Ok-Full.ensures.stop)))
      | in-Ok-End+else-not-is_empty w ↦ subst says (sym w.result-is) (
        none_of_length new.built (subst (λ (m : JobValue). length m.built ≡ 0) c.self.view_is (no_length c.self.inside.built.entries (sym w.is_empty.ensures ∙ w.if-not-is_empty.false))),
        subst stops w.in-Ok-End.field-0-is w.in-Ok-End.ensures.stop,
      )
      | in-Err w ↦ subst says (sym w.result-is) tt
    ]

pub returns-then-not-is_empty-clause-said : goal.returns-then-not-is_empty-clause-said
returns-then-not-is_empty-clause-said g c =
    inr (subst (λ (m : JobValue). 0 < length m.built) c.self.view_is (some_length c.self.inside.built.entries (sym c.is_empty.ensures ∙ c.if-not-is_empty.true)))

-- each walk is at its end then
pub returns-clause-ended : goal.returns-clause-ended
returns-clause-ended g c =
    let tables = c.args.tables.now.tables in
    let new = c.take_rows.new.self in
    let ready = λ (r : Result Sliced JobFault). IfOk r (ReadyAtEnd tables new) in
    elim c.match-take_rows.branch [
      | in-Ok-Blocks w ↦ subst ready (sym w.result-is) tt
      | in-Ok-Full w ↦ subst ready (sym w.result-is) tt
      | in-Ok-End+else-not-is_empty w ↦ subst ready (sym w.result-is) (subst (StopsAtEnd tables new.merge) w.in-Ok-End.field-0-is w.in-Ok-End.ensures.ended)
      | in-Err w ↦ subst ready (sym w.result-is) tt
    ]

pub returns-clause-still : goal.returns-clause-still
returns-clause-still g c t = c.take_rows.ensures.passes.none refl t

pub returns-then-not-is_empty-clause-still : goal.returns-then-not-is_empty-clause-still
returns-then-not-is_empty-clause-still g c t = c.take_rows.ensures.passes.none refl t
