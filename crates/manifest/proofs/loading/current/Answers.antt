use Rattle.std.proofs.Common.{subst}
use Rattle.std.specs.Prelude.{Option, IfSome}
use Rattle.manifest_model.specs.Version.{slot_a, slot_b}
use Rattle.manifest.specs.Loading.{IsOfSlot, IsSlotAnswer}
use Rattle.manifest.specs.Manifest.{Manifest}
use Rattle.manifest.proofs.Loads.{both_answer}
use Rattle.manifest.proofs.loading.current.Goals as goal

pub returns-in-Some-Some-clause-answer : goal.returns-in-Some-Some-clause-answer
returns-in-Some-Some-clause-answer c image in_a in_b =
    let a = c.in-Some-Some.is-0 in
    let b = c.in-Some-Some.is-1 in
    let at_a : IsOfSlot 0 c.in-Some-Some.a = subst (λ (o : Option Manifest). IfSome o (IsOfSlot 0)) a c.requires.at_a in
    let at_b : IsOfSlot 1 c.in-Some-Some.b = subst (λ (o : Option Manifest). IfSome o (IsOfSlot 1)) b c.requires.at_b in
    both_answer image c.in-Some-Some.a c.in-Some-Some.b c.newer.result at_a.0 at_b.0 (subst (IsSlotAnswer slot_a image) a in_a) (subst (IsSlotAnswer slot_b image) b in_b)
    c.newer.ensures.version c.newer.ensures.one_epoch c.newer.ensures.damage
