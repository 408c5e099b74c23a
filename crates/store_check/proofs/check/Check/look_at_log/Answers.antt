use Rattle.std.proofs.Common.{◌≡◌, ◌≤◌, ◌*◌, ◌+◌, ◌++◌, ◌∷◌, [], List, sym, ap, ◌∙◌, subst, arith}
use Rattle.byte_fields.specs.declared.parts.Part.TheVariants as part
use Rattle.image_model.specs.Findings.{BrokenRule, Finding, LogFindings, broken, finding, spelled}
use Rattle.gate_log.specs.Faults.{IsShapeIn}
use Rattle.log_model.specs.Area.{LogBreaks}
use Rattle.manifest.specs.Manifest.{Manifest}
use Rattle.manifest_model.specs.Version.{log_page_of}
use Rattle.store_check.specs.Checks.{waiting}
use Rattle.store_check.specs.declared.check.Check.{Check}
use Rattle.store_check.proofs.Causes.{at_ok, none_at_err}
use Rattle.store_check.proofs.Looked.{log_was_left}
use Rattle.store_check.proofs.check.Check.look_at_log.Goals as goal
use Rattle.store_check.proofs.check.Check.look_at_log.Goals.{in-Ok, in-Err-Memory, in-Err-Device, in-Err-Shape+in_ok-add-in-Err-Shape}

pub replay-requires : goal.replay-requires
replay-requires g c =
    let page : 64 * (c.version.inside.log_area + 1) ≡ c.in-Some.version.version.log_page = ap (λ (m : Manifest). m.version.log_page) c.version.view_is in
    let most : c.in-Some.version.version.log_page ≤ 128 = (c.args.self.now.sound c.in-Some.version c.in-Some.is).log_page in
    omega (arith, page, most)

pub returns-clause-same : goal.returns-clause-same
returns-clause-same g c spelling first later tells =
    let held = (g.D.Disk.world c.args.disk.now).seen.held in
    let old = c.args.self.now in
    let new = c.match-replay.self in
    let m = c.in-Some.version in
    let area = c.version.inside.log_area in
    let page : m.version.log_page ≡ log_page_of area = sym (ap (λ (m : Manifest). m.version.log_page) c.version.view_is) in
    elim c.match-replay.branch [
      | in-Ok w ↦
          let none : waiting new ≡ [] = ap (λ (c : Check). waiting c) w.self-is ∙ c.clear.ensures.items in
          let found = subst (LogFindings m.version held) (sym none) (spelled area _ page (w.in-Ok.ensures.changes tells)) in
          at_ok c.match-replay.result _
          (log_was_left old new (ap (λ (c : Check). c.version) w.self-is) (ap (λ (c : Check). c.order) w.self-is) c.requires.stage (ap (λ (c : Check). c.stage) w.self-is) spelling first held m later c.in-Some.is c.requires.none found)
      | in-Err-Memory w ↦ none_at_err c.match-replay.result _ _ w.result-is
      | in-Err-Device w ↦ none_at_err c.match-replay.result _ _ w.result-is
      | in-Err-Shape+in_ok-add-in-Err-Shape w ↦
          let said : waiting new ≡ finding part.Log w.in-Err-Shape.at (BrokenRule w.in-Err-Shape.rule) ∷ [] =
          ap (λ (c : Check). waiting c) w.self-is ∙ w.in_ok-add-in-Err-Shape.ensures.added
          ∙ ap (λ (fs : List Finding). fs ++ w.broken_log.result ∷ []) c.clear.ensures.items
          ∙ ap (λ (f : Finding). f ∷ []) w.broken_log.ensures in
          let breaks : LogBreaks area w.in-Err-Shape.at w.in-Err-Shape.rule held = subst (IsShapeIn area held) w.in-Err-Shape.field-0-is (w.in-Err-Shape.ensures.shape tells) in
          let found = subst (LogFindings m.version held) (sym said) (broken area w.in-Err-Shape.at w.in-Err-Shape.rule page breaks) in
          at_ok c.match-replay.result _
          (log_was_left old new (ap (λ (c : Check). c.version) w.self-is) (ap (λ (c : Check). c.order) w.self-is) c.requires.stage (ap (λ (c : Check). c.stage) w.self-is) spelling first held m later c.in-Some.is c.requires.none found)
    ]
