use Rattle.std.proofs.Common.{◌≡◌, ◌∙◌, length, refl, sym, ap, subst, arith}
use Rattle.std.specs.List.{sum_by}
use Rattle.mem_table.specs.Table.{source_in}
use Rattle.range_model.specs.Sources.{Source, source_of}
use Rattle.state_model.specs.View.{memory}
use Rattle.store_check.proofs.Causes.{then_more}
use Rattle.store_check.proofs.Reopened.{entries_many}
use Rattle.store_check.proofs.Summarized.{few_again, many_again, memory_sound, merge_again, tables_again, undamaged_given}
use Rattle.store_check.specs.Summaries.{AreTablesThere, entries_in}
use Rattle.store_check.proofs.summary.merge_pairs.Goals as goal

pub live_pairs-requires-clause-sound : goal.live_pairs-requires-clause-sound
live_pairs-requires-clause-sound g c = memory_sound c.args.records.items (source_in c.in_ok-memory.memory) c.requires.sound c.in_ok-memory.ensures

-- ---- a table that is not opened

pub returns-in_err-tables-clause-pairs : goal.returns-in_err-tables-clause-pairs
returns-in_err-tables-clause-pairs g c s tells of =
    let f = g.F.RangeFilter in
    let image = (g.D.Disk.world c.args.disk.now).seen.held in
    let are = tables_again f.spelling s image image refl of.is c.args.rows.now of.rows_are in
    undamaged_given c.from_residual.result _ c.in_err-tables.field-0.0 c.from_residual.ensures.1 (c.in_err-tables.ensures.there s.tables tells are)

-- ---- pairs that are not counted

pub returns-in_err-pairs-clause-pairs : goal.returns-in_err-pairs-clause-pairs
returns-in_err-pairs-clause-pairs g c s tells of =
    let f = g.F.RangeFilter in
    let image = (g.D.Disk.world c.args.disk.now).seen.held in
    let opened = c.in_ok-tables.tables.tables in
    let are = tables_again f.spelling s image image refl of.is c.args.rows.now of.rows_are in
    let found = subst (AreTablesThere f.spelling opened s.tables) (sym c.open_tables.ensures.moves.held) (c.in_ok-tables.ensures.there s.tables tells are) in
    undamaged_given c.from_residual-in_err-pairs.result _ c.in_err-pairs.field-0.0 c.from_residual-in_err-pairs.ensures.1 (c.in_err-pairs.ensures.undamaged s.tables tells found)

pub returns-in_err-pairs-clause-moves : goal.returns-in_err-pairs-clause-moves
returns-in_err-pairs-clause-moves g c =
    then_more _ (g.D.Disk.world c.args.disk.now) (g.D.Disk.world c.open_tables.new.disk) (g.D.Disk.world c.live_pairs.new.disk) c.open_tables.ensures.moves c.live_pairs.ensures.moves

-- ---- the number

pub returns-clause-pairs : goal.returns-clause-pairs
returns-clause-pairs g c s tells of =
    let f = g.F.RangeFilter in
    let image = (g.D.Disk.world c.args.disk.now).seen.held in
    let there = (g.D.Disk.world c.open_tables.new.disk).seen.held in
    let opened = c.in_ok-tables.tables.tables in
    let records = c.args.records.items in
    let are = tables_again f.spelling s image image refl of.is c.args.rows.now of.rows_are in
    let held : there ≡ image = c.open_tables.ensures.moves.held in
    let found = c.in_ok-tables.ensures.there s.tables tells are in
    let entries = c.in_ok-memory.memory.entries in
    let memory_is : entries ≡ memory s = ap (λ (source : Source). source.entries) (c.in_ok-memory.ensures ∙ ap source_of of.records_are) in
    let merges = c.standing_tables_are_merged.ensures in
    let sum : c.entries_of.result ≡ sum_by entries_in s.tables = c.entries_of.ensures.sum ∙ entries_many f.spelling image c.args.rows.now s.tables are in
    let count : length records ≡ length s.log = ap length of.records_are in
    let few = few_again f.spelling s image there held of.is merges opened found entries memory_is in
    c.in_ok-pairs.ensures.live tells (merge_again f.spelling s image there held of.is merges opened found entries memory_is) (omega (arith, few, sum, count, c.len.ensures))
    ∙ many_again f.spelling s image there held of.is merges opened found entries memory_is

pub returns-clause-moves : goal.returns-clause-moves
returns-clause-moves g c =
    then_more _ (g.D.Disk.world c.args.disk.now) (g.D.Disk.world c.open_tables.new.disk) (g.D.Disk.world c.live_pairs.new.disk) c.open_tables.ensures.moves c.live_pairs.ensures.moves
