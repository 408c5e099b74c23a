use Rattle.std.proofs.Common.{inl, inr, arith, ◌++◌, List, length, sym, ap, ap₂, ◌∙◌, subst}
use Rattle.std.proofs.lemmas.Bool.{cases_Bool, eqb-true, eqb-false}
use Rattle.std.proofs.lemmas.List.{nil_from_length}
use Rattle.byte_fields.specs.declared.parts.Row.{Row}
use Rattle.image_model.specs.Findings.{Finding, count_findings, findings_of_blocks}
use Rattle.store_check.specs.Lists.{IsBegun}
use Rattle.store_check.specs.Tables.{counted_findings}
use Rattle.store_check.proofs.Causes.{at_err}
use Rattle.store_check.proofs.Counted.{begun_more, begun_whole, blocks_are, count_is, keys_known, keys_unknown, some_blocks}
use Rattle.store_check.proofs.table.known_findings.Goals as goal

pub known-requires : goal.known-requires
known-requires g c right =
    let found = c.block_findings.new.found in
    (c.in_ok-seen.ensures.risen (nil_from_length found.items (omega (arith, found.ok.0, eqb-true found.len 0 (sym c.is_empty-right.ensures ∙ right))))).0

pub returns-clause-found : goal.returns-clause-found
returns-clause-found g c tells is =
    let x = c.args.index.now in
    let held = (g.D.Disk.world c.args.disk.now).seen.held in
    let seen = c.in_ok-seen.seen in
    let blocks = c.in_ok-seen.ensures.found tells ∙ blocks_are x held is in
    let count = c.wrong_count-counted.ensures ∙ ap (λ (r : Row). counted_findings r seen.sound (length seen.keys)) c.row.ensures ∙ count_is x held is seen.sound seen.keys (c.in_ok-seen.ensures.sound tells) (c.in_ok-seen.ensures.keys tells) in
    c.in_ok-add.ensures.added ∙ ap₂ (λ (fs gs : List Finding). fs ++ gs) blocks count

pub returns-in_err-seen-clause-begun : goal.returns-in_err-seen-clause-begun
returns-in_err-seen-clause-begun g c tells is =
    let x = c.args.index.now in
    let held = (g.D.Disk.world c.args.disk.now).seen.held in
    let found = c.block_findings.new.found.items in
    at_err c.from_residual.result _ (begun_more found (findings_of_blocks x.row held) (count_findings x.row held) (subst (λ (fs : List Finding). IsBegun found fs) (blocks_are x held is) (c.in_err-seen.ensures.begun tells)))

pub returns-in_err-keys-clause-begun : goal.returns-in_err-keys-clause-begun
returns-in_err-keys-clause-begun g c tells is =
    let x = c.args.index.now in
    let held = (g.D.Disk.world c.args.disk.now).seen.held in
    let found = c.block_findings.new.found.items in
    at_err c.from_residual-in_err-keys.result _ (begun_more found (findings_of_blocks x.row held) (count_findings x.row held) (begun_whole found (findings_of_blocks x.row held) (c.in_ok-seen.ensures.found tells ∙ blocks_are x held is)))

pub returns-in_err-add-clause-begun : goal.returns-in_err-add-clause-begun
returns-in_err-add-clause-begun g c tells is =
    let x = c.args.index.now in
    let held = (g.D.Disk.world c.args.disk.now).seen.held in
    let found = c.add.new.found.items in
    at_err c.from_residual-in_err-add.result _ (begun_more found (findings_of_blocks x.row held) (count_findings x.row held) (begun_whole found (findings_of_blocks x.row held) (c.in_err-add.ensures.same ∙ c.in_ok-seen.ensures.found tells ∙ blocks_are x held is)))

pub returns-clause-known : goal.returns-clause-known
returns-clause-known g c tells is =
    let x = c.args.index.now in
    let held = (g.D.Disk.world c.args.disk.now).seen.held in
    let seen = c.in_ok-seen.seen in
    let found = c.block_findings.new.found in
    elim (cases_Bool c.is_empty-right.result) [
      | inl empty ↦
          let none = nil_from_length found.items (omega (arith, found.ok.0, eqb-true found.len 0 (sym c.is_empty-right.ensures ∙ empty))) in
          c.in_ok-keys.ensures.known empty ((c.in_ok-seen.ensures.risen none).1 (some_blocks x held is))
          ∙ keys_known x held is found.items seen.sound seen.keys (c.in_ok-seen.ensures.found tells) (c.in_ok-seen.ensures.sound tells) (c.in_ok-seen.ensures.keys tells) none
      | inr filled ↦
          c.in_ok-keys.ensures.unknown filled
          ∙ keys_unknown x held is found.items (c.in_ok-seen.ensures.found tells) (λ none. eqb-false found.len 0 (sym c.is_empty-right.ensures ∙ filled) (omega (arith, found.ok.0, ap length none)))
    ]
