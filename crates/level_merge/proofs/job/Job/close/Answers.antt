use Rattle.std.proofs.Common.{◌≡◌, ◌∙◌, [], sym, ap, ap₂, subst}
use Rattle.std.specs.List.{AllByRecursion}
use Rattle.std.specs.Prelude.{IfErr, OnOk}
use Rattle.disk_trait.specs.World.{Now}
use Rattle.store_search.specs.TablesAgree.{TableAgrees}
use Rattle.level_merge.specs.JobValue.{JobValue}
use Rattle.level_merge.specs.Outputs.{IsCloseFault, built_table, last_row}
use Rattle.level_merge.specs.SliceSteps.{built_of}
use Rattle.range_model.specs.Sources.{BeginsAtOne}
use Rattle.table_file.specs.Building.{Built, source_in}
use Rattle.table_file.specs.Writing.{opened_of}
use Rattle.table_model.specs.Tables.{filter_bytes_of, source_pages}
use Rattle.level_merge.proofs.job.Job.close.Goals as goal

-- no range is to begin at a key
pub write_output-requires-clause-begin : goal.write_output-requires-clause-begin
write_output-requires-clause-begin g c =
    let built = c.replace-built.result in
    let none : built.ranges ≡ [] = ap (λ (b : Built). b.ranges) c.replace-built.ensures.value ∙ c.self.invariant.no_range in
    subst (AllByRecursion (BeginsAtOne built.entries)) (sym none) tt

-- what is built has the settings of the merge, and no range
pub returns-clause-stands : goal.returns-clause-stands
returns-clause-stands g c t =
    let spelling = g.F.RangeFilter.spelling in
    let cutoff = g.F.RangeFilter.built_cutoff in
    let after = g.D.Disk.world c.write_output.new.disk in
    let last = last_row c.write_output.new.outputs.items in
    let inside = c.self.inside in
    let own : c.replace-built.result ≡ record { settings = inside.settings; entries = inside.built.entries; ranges = [] } =
    c.replace-built.ensures.value ∙ ap₂ (λ set ranges. record { settings = set; entries = inside.built.entries; ranges = ranges }) c.self.invariant.same c.self.invariant.no_range in
    let whole : c.replace-built.result ≡ built_of c.args.self.now = own ∙ ap built_of c.self.view_is in
    let level : inside.output ≡ c.args.self.now.output = ap (λ (m : JobValue). m.output) c.self.view_is in
    subst (λ n. OnOk c.write_output.result (Now (TableAgrees spelling (opened_of cutoff (built_of c.args.self.now) last) (built_table spelling cutoff (built_of c.args.self.now) n last.first_page)) after)) level
    (subst (λ (b : Built). OnOk c.write_output.result (Now (TableAgrees spelling (opened_of cutoff b last) (built_table spelling cutoff b inside.output last.first_page)) after)) whole (c.write_output.ensures.stands t))

pub returns-clause-fault : goal.returns-clause-fault
returns-clause-fault g c =
    let inside = c.self.inside in
    let own : c.replace-built.result ≡ record { settings = inside.settings; entries = inside.built.entries; ranges = [] } =
    c.replace-built.ensures.value ∙ ap₂ (λ set ranges. record { settings = set; entries = inside.built.entries; ranges = ranges }) c.self.invariant.same c.self.invariant.no_range in
    let whole : c.replace-built.result ≡ built_of c.args.self.now = own ∙ ap built_of c.self.view_is in
    subst (λ (b : Built). IfErr c.write_output.result (IsCloseFault (source_pages (filter_bytes_of g.F.RangeFilter.spelling g.F.RangeFilter.built_cutoff) b.settings (source_in b))
    c.args.extents.now (g.D.Disk.world c.args.disk.now) (g.D.Disk.world c.write_output.new.disk))) whole c.write_output.ensures.fault
