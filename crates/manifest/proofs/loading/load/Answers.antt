use Rattle.std.proofs.Common.{subst}
use Rattle.disk_trait.specs.Image.{Image}
use Rattle.manifest_model.specs.Slots.{slot_damage}
use Rattle.manifest_model.specs.Version.{slot_b}
use Rattle.manifest.specs.Loading.{IsSlotAnswer}
use Rattle.manifest.specs.Reading.{IsDamage}
use Rattle.manifest.proofs.Loads.{a_answer, b_answer, damaged_of, err_answer, exact_of, none_of}
use Rattle.manifest.proofs.loading.load.Goals as goal

pub returns-in_err-a-clause-exact : goal.returns-in_err-a-clause-exact
returns-in_err-a-clause-exact g c v tells =
    let held = (g.D.Disk.world c.args.disk.now).seen.held in
    let found = c.in_err-a.field-0.0 in
    exact_of held v c.from_residual.result (err_answer held c.from_residual.result found c.from_residual.ensures.1 (a_answer held found (c.in_err-a.ensures.answer tells)))

pub returns-in_err-b-clause-exact : goal.returns-in_err-b-clause-exact
returns-in_err-b-clause-exact g c v tells =
    let held = (g.D.Disk.world c.args.disk.now).seen.held in
    let found = c.in_err-b.field-0.0 in
    let b = subst (λ (f : Image). IsDamage (slot_damage slot_b f) found) c.in_ok-a.ensures.moves.held (c.in_err-b.ensures.answer tells) in
    exact_of held v c.from_residual-in_err-b.result
    (err_answer held c.from_residual-in_err-b.result found c.from_residual-in_err-b.ensures.1 (b_answer held c.in_ok-a.a found (c.in_ok-a.ensures.answer tells) b))

pub returns-clause-answer : goal.returns-clause-answer
returns-clause-answer g c tells =
    let held = (g.D.Disk.world c.args.disk.now).seen.held in
    c.current.ensures.answer held (c.in_ok-a.ensures.answer tells) (subst (λ (f : Image). IsSlotAnswer slot_b f c.in_ok-b.b) c.in_ok-a.ensures.moves.held (c.in_ok-b.ensures.answer tells))

pub returns-clause-exact : goal.returns-clause-exact
returns-clause-exact g c v tells = exact_of (g.D.Disk.world c.args.disk.now).seen.held v c.current.result (returns-clause-answer g c tells)

pub returns-clause-none : goal.returns-clause-none
returns-clause-none g c tells = none_of (g.D.Disk.world c.args.disk.now).seen.held c.current.result (returns-clause-answer g c tells)

pub returns-clause-damaged : goal.returns-clause-damaged
returns-clause-damaged g c found tells = damaged_of (g.D.Disk.world c.args.disk.now).seen.held found c.current.result (returns-clause-answer g c tells)
