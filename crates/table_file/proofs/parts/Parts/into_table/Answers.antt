use Rattle.std.proofs.Common.{rules, ◌≡◌, ◌≤◌, ◌∙◌, sym, ap, subst}
use Rattle.entry_model.specs.Entries.{keys_of}
use Rattle.block_model.specs.Index.{index_with}
use Rattle.table_model.specs.Images.{IsTableAt}
use Rattle.table_model.specs.Tables.{filter_bytes_of}
use Rattle.table_model.specs.Written.{ArePartsShown, row_from}
use Rattle.table_file.specs.Building.{Built, source_in}
use Rattle.table_file.specs.Opened.{IsOpen, Opened}
use Rattle.table_file.specs.Parts.{filter_of}
use Rattle.table_file.proofs.IntoTable.{of_row, shown_table, table_open}
use Rattle.table_file.proofs.Stands.{opened_stands}
use Rattle.table_file.proofs.parts.Parts.into_table.Goals as goal

pub new-requires : goal.new-requires
new-requires g c =
    let spelling = g.F.RangeFilter.spelling in
    let cutoff = g.F.RangeFilter.built_cutoff in
    let row = c.args.row in
    let is = c.requires.row ∙ sym (ap (λ (b : Built). row_from row.level row.first_page b.settings (source_in b) (filter_bytes_of spelling cutoff b.settings (keys_of b.entries))) c.self.view_is) in
    let ratio : row.ratio ≤ 65535 = search rules in
    of_row spelling cutoff _ _ _ _ _ _ _ _ c.self.invariant row.level row.first_page row is c.requires.within ratio

pub returns-clause-table : goal.returns-clause-table
returns-clause-table g c =
    let cutoff = g.F.RangeFilter.built_cutoff in
    let parts = c.self.invariant in
    let made : ◌≡◌ {A = Opened} _ (record { row = c.args.row; index = index_with c.args.self.entries c.args.self.ranges; filter = filter_of cutoff c.args.self.settings (keys_of c.args.self.entries) }) =
    (λ i. record { row = c.args.row; index = parts.index_is i; filter = parts.filter_is i })
    ∙ ap (λ (b : Built). record { row = c.args.row; index = index_with b.entries b.ranges; filter = filter_of cutoff b.settings (keys_of b.entries) }) c.self.view_is in
    c.new.ensures ∙ made

pub returns-clause-opened : goal.returns-clause-opened
returns-clause-opened g c image shown =
    let spelling = g.F.RangeFilter.spelling in
    let cutoff = g.F.RangeFilter.built_cutoff in
    let row = c.args.row in
    let is = c.requires.row ∙ sym (ap (λ (b : Built). row_from row.level row.first_page b.settings (source_in b) (filter_bytes_of spelling cutoff b.settings (keys_of b.entries))) c.self.view_is) in
    subst (λ (t : Opened). IsOpen spelling t image) (sym (returns-clause-table g c))
    (subst (λ (b : Built). IsOpen spelling (record { row = row; index = index_with b.entries b.ranges; filter = filter_of cutoff b.settings (keys_of b.entries) }) image) c.self.view_is
    (table_open spelling cutoff _ _ _ _ _ _ _ _ c.self.invariant row.level row.first_page row is image
    (subst (λ (b : Built). ArePartsShown row (source_in b) (filter_bytes_of spelling cutoff b.settings (keys_of b.entries)) image) (sym c.self.view_is) shown)))

pub returns-clause-stands : goal.returns-clause-stands
returns-clause-stands g c image shown =
    let spelling = g.F.RangeFilter.spelling in
    let cutoff = g.F.RangeFilter.built_cutoff in
    let row = c.args.row in
    let parts = c.self.invariant in
    let is = c.requires.row ∙ sym (ap (λ (b : Built). row_from row.level row.first_page b.settings (source_in b) (filter_bytes_of spelling cutoff b.settings (keys_of b.entries))) c.self.view_is) in
    let seen = subst (λ (b : Built). ArePartsShown row (source_in b) (filter_bytes_of spelling cutoff b.settings (keys_of b.entries)) image) (sym c.self.view_is) shown in
    let there = shown_table spelling cutoff _ _ _ _ _ _ _ _ parts row.level row.first_page row is image seen in
    let here = subst (λ (t : Opened). IsTableAt spelling t.row there.0 image) (sym (returns-clause-table g c)) there.1 in (
      there.0,
      opened_stands spelling c.new.result there.0 image g.met.F.RangeFilter.spells_one (returns-clause-opened g c image shown) here,
      there.2 ∙ ap (λ (b : Built). b.entries) c.self.view_is,
    )
