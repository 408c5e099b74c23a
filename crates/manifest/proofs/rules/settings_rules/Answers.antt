use Rattle.std.proofs.Common.{◌≡◌, ◌≤◌, ◌+◌, ℕ, suc, sym, ◌∙◌, subst, arith}
use Rattle.manifest.proofs.Settings.{ArePassed, all_passed, begun, broken_there, passed_too}
use Rattle.manifest.proofs.rules.settings_rules.Goals as goal

pub loop-row-init : goal.loop-row-init
loop-row-init c = begun c.args.rows.now

pub settings_rule-broken-requires : goal.settings_rule-broken-requires
settings_rule-broken-requires c = omega (arith, c.loop-row.invariant.place_is, c.loop-row.auto.row-index-end, c.requires)

pub returns-then-is_some : goal.returns-then-is_some
returns-then-is_some c =
    broken_there c.args.rows.now c.loop-row.row-index c.loop-row.place c.loop-row.invariant _ c.loop-row-test.true c.settings_rule-broken.result c.settings_rule-broken.ensures
    (sym c.is_some.ensures ∙ c.if-is_some.true)

pub overflow_add-place : goal.overflow_add-place
overflow_add-place c = omega (arith, c.loop-row.invariant.place_is, c.loop-row.auto.row-index-end, c.requires)

pub loop-row-preserved : goal.loop-row-preserved
loop-row-preserved c =
    let next : suc c.loop-row.row-index ≡ c.loop-row.row-index + 1 = omega arith in
    subst (λ (i : ℕ). ArePassed c.args.rows.now i (c.loop-row.place + 64)) next
    (passed_too c.args.rows.now c.loop-row.row-index c.loop-row.place c.loop-row.invariant _ c.loop-row-test.true c.settings_rule-broken.result c.settings_rule-broken.ensures
    (sym c.is_some.ensures ∙ c.if-is_some.false))

pub returns : goal.returns
returns c =
    sym (all_passed c.args.rows.now c.loop-row.row-index c.loop-row.place c.loop-row.invariant (omega (arith, c.loop-row-test.false)))
