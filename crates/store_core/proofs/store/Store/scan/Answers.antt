use Rattle.std.proofs.Common.{◌∙◌, length, map, sym, ap, subst, arith}
use Rattle.std.specs.Option.{option_map}
use Rattle.std.specs.Prelude.{Option, Some}
use Rattle.std.proofs.lemmas.List.{length-map}
use Rattle.map_model.specs.SortedMap.{Bytes}
use Rattle.store_core.proofs.Countings.{tables_few}
use Rattle.store_core.proofs.ScanBlocks.{made_blocks, made_walks}
use Rattle.store_core.proofs.ScanMade.{made_bounded, made_met, made_numbers, made_scan, made_shows, memory_sound, scan_is, there}
use Rattle.store_core.proofs.ScanStates.{as_many_keys}
use Rattle.store_core.specs.Scans.{AreUpTo, keys_admitting, numbers_admitting}
use Rattle.store_core.specs.Telling.{IsHighOfBytes}
use Rattle.table_model.specs.Tables.{filter_bytes_of}
use Rattle.store_core.proofs.store.Store.scan.Goals as goal

pub tables_of-requires : goal.tables_of-requires
tables_of-requires g c = record { few = omega (arith, ap length c.as_slice.ensures, tables_few _ c.self.invariant.0) }

pub new-requires-clause-there : goal.new-requires-clause-there
new-requires-clause-there g c =
    let high = option_map (λ h. h.now) c.args.high in
    there c.args.low.now high c.self.inside.tables.tables c.in_ok-which.which.items (c.in_ok-which.ensures.which ∙ ap (numbers_admitting c.args.low.now high) c.as_slice.ensures)

pub new-requires-clause-sound : goal.new-requires-clause-sound
new-requires-clause-sound g c = memory_sound _ _ c.self.invariant.0.changes

pub new-requires-clause-each : goal.new-requires-clause-each
new-requires-clause-each g c =
    let high = option_map (λ h. h.now) c.args.high in
    let waking = c.in_ok-which.waking.items in
    sym (length-map waking (λ o. option_map (λ key. key.items) o))
    ∙ ap length c.in_ok-which.ensures.waking ∙ as_many_keys c.args.low.now high c.as_slice.result.now ∙ ap length (sym c.in_ok-which.ensures.which)

pub invariant_of-result : goal.invariant_of-result
invariant_of-result g c =
    let high = option_map (λ h. h.now) c.args.high in
    let made = made_numbers c.args.low.now high c.self.inside.tables.tables c.in_ok-which.which.items (map (λ o. option_map (λ key. key.items) o) c.in_ok-which.waking.items) (Some c.self.inside.memory.entries) c.in_ok-rows.rows c.in_ok-rows.ensures
    (there c.args.low.now high c.self.inside.tables.tables c.in_ok-which.which.items (c.in_ok-which.ensures.which ∙ ap (numbers_admitting c.args.low.now high) c.as_slice.ensures))
    (c.in_ok-which.ensures.waking ∙ ap (keys_admitting c.args.low.now high) c.as_slice.ensures) in
    (made.0, made.1, subst (λ (h : Option Bytes). AreUpTo h c.in_ok-rows.rows.asleep) (sym c.in_ok-copy.ensures) made.2)

pub returns-clause-shows : goal.returns-clause-shows
returns-clause-shows g c s image seen =
    let low = c.args.low.now in
    let high = option_map (λ h. h.now) c.args.high in
    let is = scan_is low high c.args.self.now _ c.in_ok-which.which.items (map (λ o. option_map (λ key. key.items) o) c.in_ok-which.waking.items) c.in_ok-rows.rows (option_map (λ v. v.items) c.in_ok-copy.copy) c.args.most c.self.view_is
    (c.in_ok-which.ensures.which ∙ ap (numbers_admitting low high) c.as_slice.ensures) (c.in_ok-which.ensures.waking ∙ ap (keys_admitting low high) c.as_slice.ensures) c.in_ok-rows.ensures c.in_ok-copy.ensures in
    made_shows c.merged_laws.ensures c.standing_tables_sleep.ensures c.standing_tables_are_read.ensures.blocks c.standing_tables_are_read.ensures.keys c.standing_tables_are_read.ensures.walks g.F.RangeFilter.spelling
    (filter_bytes_of g.F.RangeFilter.spelling g.F.RangeFilter.built_cutoff) c.args.self.now s image seen low c.in_ok-check_bounds.ensures.bytes.0 high c.in_ok-check_bounds.ensures.bytes.1 _ c.args.most is

pub returns-clause-bounded : goal.returns-clause-bounded
returns-clause-bounded g c s image hi seen closed =
    let low = c.args.low.now in
    let high = option_map (λ h. h.now) c.args.high in
    let is = scan_is low high c.args.self.now _ c.in_ok-which.which.items (map (λ o. option_map (λ key. key.items) o) c.in_ok-which.waking.items) c.in_ok-rows.rows (option_map (λ v. v.items) c.in_ok-copy.copy) c.args.most c.self.view_is
    (c.in_ok-which.ensures.which ∙ ap (numbers_admitting low high) c.as_slice.ensures) (c.in_ok-which.ensures.waking ∙ ap (keys_admitting low high) c.as_slice.ensures) c.in_ok-rows.ensures c.in_ok-copy.ensures
    ∙ ap (λ (h : Option Bytes). made_scan low h c.args.self.now.tables c.args.self.now.memory.entries c.args.most) closed in
    made_bounded c.merged_laws.ensures c.standing_tables_sleep.ensures c.standing_tables_are_read.ensures.blocks c.standing_tables_are_read.ensures.keys c.standing_tables_are_read.ensures.walks g.F.RangeFilter.spelling
    (filter_bytes_of g.F.RangeFilter.spelling g.F.RangeFilter.built_cutoff) c.args.self.now s image seen low c.in_ok-check_bounds.ensures.bytes.0 hi (subst IsHighOfBytes closed c.in_ok-check_bounds.ensures.bytes.1) _ c.args.most is

pub returns-clause-only_if_read : goal.returns-clause-only_if_read
returns-clause-only_if_read g c s image seen some =
    let low = c.args.low.now in
    let high = option_map (λ h. h.now) c.args.high in
    let is = scan_is low high c.args.self.now _ c.in_ok-which.which.items (map (λ o. option_map (λ key. key.items) o) c.in_ok-which.waking.items) c.in_ok-rows.rows (option_map (λ v. v.items) c.in_ok-copy.copy) c.args.most c.self.view_is
    (c.in_ok-which.ensures.which ∙ ap (numbers_admitting low high) c.as_slice.ensures) (c.in_ok-which.ensures.waking ∙ ap (keys_admitting low high) c.as_slice.ensures) c.in_ok-rows.ensures c.in_ok-copy.ensures in
    made_met c.merged_laws.ensures c.standing_tables_sleep.ensures c.standing_tables_are_read.ensures.blocks c.standing_tables_are_read.ensures.keys c.standing_tables_are_read.ensures.walks g.F.RangeFilter.spelling
    (filter_bytes_of g.F.RangeFilter.spelling g.F.RangeFilter.built_cutoff) c.args.self.now s image seen low c.in_ok-check_bounds.ensures.bytes.0 high c.in_ok-check_bounds.ensures.bytes.1 _ c.args.most is some

pub returns-clause-blocks : goal.returns-clause-blocks
returns-clause-blocks g c =
    let low = c.args.low.now in
    let high = option_map (λ h. h.now) c.args.high in
    let is = scan_is low high c.args.self.now _ c.in_ok-which.which.items (map (λ o. option_map (λ key. key.items) o) c.in_ok-which.waking.items) c.in_ok-rows.rows (option_map (λ v. v.items) c.in_ok-copy.copy) c.args.most c.self.view_is
    (c.in_ok-which.ensures.which ∙ ap (numbers_admitting low high) c.as_slice.ensures) (c.in_ok-which.ensures.waking ∙ ap (keys_admitting low high) c.as_slice.ensures) c.in_ok-rows.ensures c.in_ok-copy.ensures in
    made_blocks low high c.args.self.now.tables c.args.self.now.memory.entries _ c.args.most is

-- as it is made
pub returns-clause-begins : goal.returns-clause-begins
returns-clause-begins g c =
    let low = c.args.low.now in
    let high = option_map (λ h. h.now) c.args.high in
    let is = scan_is low high c.args.self.now _ c.in_ok-which.which.items (map (λ o. option_map (λ key. key.items) o) c.in_ok-which.waking.items) c.in_ok-rows.rows (option_map (λ v. v.items) c.in_ok-copy.copy) c.args.most c.self.view_is
    (c.in_ok-which.ensures.which ∙ ap (numbers_admitting low high) c.as_slice.ensures) (c.in_ok-which.ensures.waking ∙ ap (keys_admitting low high) c.as_slice.ensures) c.in_ok-rows.ensures c.in_ok-copy.ensures in
    made_walks low high c.args.self.now.tables c.args.self.now.memory.entries _ c.args.most is
