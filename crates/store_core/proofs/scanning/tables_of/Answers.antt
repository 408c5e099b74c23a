use Rattle.std.proofs.Common.{◌∙◌, ap}
use Rattle.std.specs.Option.{option_map}
use Rattle.store_core.proofs.ScanTables.{none_found, one_found}
use Rattle.store_core.proofs.scanning.tables_of.Goals.{in-Some+in_ok-push+in_ok-push-2, in_default}
use Rattle.store_core.proofs.scanning.tables_of.Goals as goal

pub loop-place-preserved : goal.loop-place-preserved
loop-place-preserved g c =
    let here = c.loop-place in
    let after = c.match-branch-2 in
    elim c.match-branch-2.branch [
      | in-Some+in_ok-push+in_ok-push-2 w ↦
          let both = one_found c.args.low.now (option_map (λ h. h.now) c.args.high) c.args.tables.now here.place c.index-tables-place.result c.loop-place-test.true c.index-tables-place.is (λ key. key.items)
          c.in_ok-key.field-0 w.in-Some.key here.which.items after.which.items here.waking.items after.waking.items c.in_ok-key.ensures w.in-Some.is
          (ap (λ v. v.items) w.which-is ∙ w.in_ok-push.ensures.items) (ap (λ v. v.items) w.waking-is ∙ w.in_ok-push-2.ensures.items) (here.invariant.which, here.invariant.waking) in
          record { which = both.0; waking = both.1 }
      | in_default w ↦
          let both = none_found c.args.low.now (option_map (λ h. h.now) c.args.high) c.args.tables.now here.place c.index-tables-place.result c.loop-place-test.true c.index-tables-place.is (λ key. key.items)
          c.in_ok-key.field-0 here.which.items after.which.items here.waking.items after.waking.items c.in_ok-key.ensures w.in_default.not-Some
          (ap (λ v. v.items) w.which-is) (ap (λ v. v.items) w.waking-is) (here.invariant.which, here.invariant.waking) in
          record { which = both.0; waking = both.1 }
    ]
