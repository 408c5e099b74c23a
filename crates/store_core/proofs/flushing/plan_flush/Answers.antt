use Rattle.std.proofs.Common.{rules, ◌∙◌, ◌<◌, length, sym, ap, arith}
use Rattle.key_base.specs.Limits.{last_epoch}
use Rattle.manifest.specs.Manifest.{Manifest}
use Rattle.store_core.specs.Flushing.{entries_with, over_of}
use Rattle.store_core.proofs.Flushed.{last_is}
use Rattle.table_model.specs.Tables.{filter_bytes_of}
use Rattle.store_core.proofs.Needs.{known_refused}
use Rattle.store_core.proofs.Plans.{plan_fits, plan_is_version}
use Rattle.store_core.proofs.PlansMade.{no_epoch, page_fits, parts_of, plan_is}
use Rattle.store_core.proofs.flushing.plan_flush.Goals as goal

pub returns-in_err-check_room-clause-refused : goal.returns-in_err-check_room-clause-refused
returns-in_err-check_room-clause-refused g c =
    let m = c.args.version.now in
    let few : length m.version.rows < 1024 = omega (arith, ap (λ (x : Manifest). length x.version.rows) c.version.view_is) in
    let here = known_refused (filter_bytes_of g.F.RangeFilter.spelling g.F.RangeFilter.built_cutoff) m.version c.args.outputs.now (entries_with c.args.memory.now.entries (over_of c.args.over)) few c.args.need c.in_err-check_room.field-0.0
    c.requires.need c.in_err-check_room.ensures.refused in
    search rules

pub returns-then-version-clause-refused : goal.returns-then-version-clause-refused
returns-then-version-clause-refused g c =
    let m = c.args.version.now in
    let few : length m.version.rows < 1024 = omega (arith, ap (λ (x : Manifest). length x.version.rows) c.version.view_is) in
    let parts_are = parts_of _ m c.version.view_is (entries_with c.args.memory.now.entries (over_of c.args.over)) c.in_ok-parts.parts c.in_ok-parts.ensures in
    let last = sym (ap (λ (x : Manifest). x.version.epoch) c.version.view_is) ∙ c.if-version.true ∙ sym last_is in
    no_epoch g.F.RangeFilter.spelling g.F.RangeFilter.built_cutoff m c.args.outputs.now (entries_with c.args.memory.now.entries (over_of c.args.over)) c.in_ok-parts.parts c.in_ok-page.page c.pages_of.result c.requires.sound
    c.requires.laid few parts_are c.pages_of.ensures c.in_ok-page.ensures.gap last

pub row-row-requires : goal.row-row-requires
row-row-requires g c =
    let m = c.args.version.now in
    let few : length m.version.rows < 1024 = omega (arith, ap (λ (x : Manifest). length x.version.rows) c.version.view_is) in
    let parts_are = parts_of _ m c.version.view_is (entries_with c.args.memory.now.entries (over_of c.args.over)) c.in_ok-parts.parts c.in_ok-parts.ensures in
    page_fits g.F.RangeFilter.spelling g.F.RangeFilter.built_cutoff m c.args.outputs.now (entries_with c.args.memory.now.entries (over_of c.args.over)) c.in_ok-parts.parts c.in_ok-page.page c.pages_of.result c.requires.sound
    c.requires.laid few parts_are c.pages_of.ensures c.in_ok-page.ensures.gap

pub returns-clause-plan : goal.returns-clause-plan
returns-clause-plan g c =
    let m = c.args.version.now in
    let few : length m.version.rows < 1024 = omega (arith, ap (λ (x : Manifest). length x.version.rows) c.version.view_is) in
    let parts_are = parts_of _ m c.version.view_is (entries_with c.args.memory.now.entries (over_of c.args.over)) c.in_ok-parts.parts c.in_ok-parts.ensures in
    let not_last = c.if-version.false in
    let epoch : m.version.epoch < last_epoch = omega (arith, not_last, ap (λ (x : Manifest). x.version.epoch) c.version.view_is, c.requires.sound.epoch, last_is) in
    plan_is g.F.RangeFilter.spelling g.F.RangeFilter.built_cutoff m c.args.outputs.now (entries_with c.args.memory.now.entries (over_of c.args.over)) c.in_ok-parts.parts c.in_ok-page.page c.pages_of.result c.requires.sound
    c.requires.laid few parts_are c.pages_of.ensures c.in_ok-page.ensures.gap c.row-row.result c.in_ok-next.next c.row-row.ensures c.in_ok-next.ensures.next epoch

pub returns-clause-fits : goal.returns-clause-fits
returns-clause-fits g c =
    plan_fits g.F.RangeFilter.spelling g.F.RangeFilter.built_cutoff c.args.version.now c.args.outputs.now (entries_with c.args.memory.now.entries (over_of c.args.over)) c.in_ok-parts.parts c.row-row.result c.in_ok-next.next
    c.requires.sound c.requires.laid (returns-clause-plan g c)

pub returns-clause-next : goal.returns-clause-next
returns-clause-next g c =
    plan_is_version g.F.RangeFilter.spelling g.F.RangeFilter.built_cutoff c.args.version.now c.args.outputs.now (entries_with c.args.memory.now.entries (over_of c.args.over)) c.in_ok-parts.parts c.row-row.result c.in_ok-next.next
    c.requires.sound c.requires.laid (returns-clause-plan g c) c.requires.table c.in_ok-next.ensures.row
