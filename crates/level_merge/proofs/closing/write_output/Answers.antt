use Rattle.std.proofs.Common.{◌≡◌, ◌∙◌, ◌+◌, ◌*◌, ◌<◌, ◌≤◌, ◌++◌, ℕ, List, [], ◌∷◌, sym, ap, subst, arith}
use Rattle.std.specs.Prelude.{Some}
use Rattle.std.specs.List.{AllByRecursion}
use Rattle.std.specs.List.Sorted.{IsPermutation}
use Rattle.block_model.specs.Block.{IsTable}
use Rattle.block_model.specs.Pages.{page_bytes}
use Rattle.block_model.specs.Places.{byte_of_page}
use Rattle.byte_fields.specs.declared.parts.Row.{Row}
use Rattle.disk_trait.specs.World.{Now, WriteMoves}
use Rattle.extent_model.specs.Extents.{AreApart, IsOnDevice}
use Rattle.extent_model.specs.Gaps.{first_gap}
use Rattle.key_base.specs.Limits.{max_device_pages}
use Rattle.level_merge.specs.Outputs.{last_row}
use Rattle.level_merge.proofs.Placed.{last_is, now_held, page_is, pages_are, places_last, row_own, some_pages, write_op, writes}
use Rattle.table_file.specs.Building.{Built, source_in}
use Rattle.table_file.specs.Writing.{StandsWith, made_row, opened_of}
use Rattle.table_model.specs.Images.{IsTableOf}
use Rattle.table_model.specs.Tables.{filter_bytes_of, source_pages, table_from}
use Rattle.level_merge.proofs.closing.write_output.Goals as goal

-- ---- what is called

pub row-row-requires : goal.row-row-requires
row-row-requires g c =
    let spelling = g.F.RangeFilter.spelling in
    let cutoff = g.F.RangeFilter.built_cutoff in
    let built = c.args.built in
    let free = c.args.extents.now in
    let page = c.in-Ok-gap.first in
    let pages = source_pages (filter_bytes_of spelling cutoff) built.settings (source_in built) in
    let need_is : c.pages_of-need.result ≡ pages = c.pages_of-need.ensures ∙ ap (λ (b : Built). source_pages (filter_bytes_of spelling cutoff) b.settings (source_in b)) c.in-Ok.ensures in
    let some : 0 < c.pages_of-need.result = subst (λ (n : ℕ). 0 < n) (sym need_is) (some_pages (filter_bytes_of spelling cutoff) built.settings (source_in built)) in
    subst (λ (n : ℕ). page + n ≤ max_device_pages) c.pages_of-need.ensures (c.in-Ok-gap.ensures.within some)

pub add-requires-clause-on_device : goal.add-requires-clause-on_device
add-requires-clause-on_device g c =
    let spelling = g.F.RangeFilter.spelling in
    let cutoff = g.F.RangeFilter.built_cutoff in
    let built = c.args.built in
    let free = c.args.extents.now in
    let page = c.in-Ok-gap.first in
    let pages = source_pages (filter_bytes_of spelling cutoff) built.settings (source_in built) in
    let need_is : c.pages_of-need.result ≡ pages = c.pages_of-need.ensures ∙ ap (λ (b : Built). source_pages (filter_bytes_of spelling cutoff) b.settings (source_in b)) c.in-Ok.ensures in
    let some : 0 < c.pages_of-need.result = subst (λ (n : ℕ). 0 < n) (sym need_is) (some_pages (filter_bytes_of spelling cutoff) built.settings (source_in built)) in
    (c.in-Ok-gap.ensures.free some).0

pub add-requires-clause-free : goal.add-requires-clause-free
add-requires-clause-free g c =
    let spelling = g.F.RangeFilter.spelling in
    let cutoff = g.F.RangeFilter.built_cutoff in
    let built = c.args.built in
    let free = c.args.extents.now in
    let page = c.in-Ok-gap.first in
    let pages = source_pages (filter_bytes_of spelling cutoff) built.settings (source_in built) in
    let need_is : c.pages_of-need.result ≡ pages = c.pages_of-need.ensures ∙ ap (λ (b : Built). source_pages (filter_bytes_of spelling cutoff) b.settings (source_in b)) c.in-Ok.ensures in
    let some : 0 < c.pages_of-need.result = subst (λ (n : ℕ). 0 < n) (sym need_is) (some_pages (filter_bytes_of spelling cutoff) built.settings (source_in built)) in
    (c.in-Ok-gap.ensures.free some).1

pub write_parts-requires : goal.write_parts-requires
write_parts-requires g c =
    let spelling = g.F.RangeFilter.spelling in
    let cutoff = g.F.RangeFilter.built_cutoff in
    let built = c.args.built in
    let free = c.args.extents.now in
    let page = c.in-Ok-gap.first in
    let pages = source_pages (filter_bytes_of spelling cutoff) built.settings (source_in built) in
    let need_is : c.pages_of-need.result ≡ pages = c.pages_of-need.ensures ∙ ap (λ (b : Built). source_pages (filter_bytes_of spelling cutoff) b.settings (source_in b)) c.in-Ok.ensures in
    let some : 0 < c.pages_of-need.result = subst (λ (n : ℕ). 0 < n) (sym need_is) (some_pages (filter_bytes_of spelling cutoff) built.settings (source_in built)) in
    subst (λ (n : ℕ). page + n ≤ max_device_pages) c.pages_of-need.ensures (c.in-Ok-gap.ensures.within some)

pub into_table-requires-clause-row : goal.into_table-requires-clause-row
into_table-requires-clause-row g c = row_own g.F.RangeFilter.spelling g.F.RangeFilter.built_cutoff c.in-Ok.parts c.args.level c.in-Ok-gap.first c.row-row.result c.row-row.ensures

pub into_table-requires-clause-within : goal.into_table-requires-clause-within
into_table-requires-clause-within g c =
    let spelling = g.F.RangeFilter.spelling in
    let cutoff = g.F.RangeFilter.built_cutoff in
    let built = c.args.built in
    let free = c.args.extents.now in
    let page = c.in-Ok-gap.first in
    let pages = source_pages (filter_bytes_of spelling cutoff) built.settings (source_in built) in
    let need_is : c.pages_of-need.result ≡ pages = c.pages_of-need.ensures ∙ ap (λ (b : Built). source_pages (filter_bytes_of spelling cutoff) b.settings (source_in b)) c.in-Ok.ensures in
    let some : 0 < c.pages_of-need.result = subst (λ (n : ℕ). 0 < n) (sym need_is) (some_pages (filter_bytes_of spelling cutoff) built.settings (source_in built)) in
    let row = c.row-row.result in
    let row_is : row ≡ made_row spelling cutoff built c.args.level page = c.row-row.ensures ∙ ap (λ (b : Built). made_row spelling cutoff b c.args.level page) c.in-Ok.ensures in
    let within = subst (λ (n : ℕ). page + n ≤ max_device_pages) need_is (c.in-Ok-gap.ensures.within some) in
    let first = page_is spelling cutoff built c.args.level page row row_is in
    let long = pages_are spelling cutoff built c.args.level page row row_is in
    omega (arith, within, first, long)

-- ---- the write failed

pub returns-in-Err-write_parts-clause-fault : goal.returns-in-Err-write_parts-clause-fault
returns-in-Err-write_parts-clause-fault g c =
    let spelling = g.F.RangeFilter.spelling in
    let cutoff = g.F.RangeFilter.built_cutoff in
    let built = c.args.built in
    let free = c.args.extents.now in
    let page = c.in-Ok-gap.first in
    let pages = source_pages (filter_bytes_of spelling cutoff) built.settings (source_in built) in
    let need_is : c.pages_of-need.result ≡ pages = c.pages_of-need.ensures ∙ ap (λ (b : Built). source_pages (filter_bytes_of spelling cutoff) b.settings (source_in b)) c.in-Ok.ensures in
    let some : 0 < c.pages_of-need.result = subst (λ (n : ℕ). 0 < n) (sym need_is) (some_pages (filter_bytes_of spelling cutoff) built.settings (source_in built)) in
    let place = subst (λ (n : ℕ). first_gap free.pages free.extents n ≡ Some page) need_is c.in-Ok-gap.ensures.gap in
    (write_op _ _ _ c.in-Err-write_parts.cause (c.in-Err-write_parts.ensures.fault 0), (page, place), c.in-Err-write_parts.ensures.cause)

pub returns-in-Err-write_parts-clause-writes : goal.returns-in-Err-write_parts-clause-writes
returns-in-Err-write_parts-clause-writes g c =
    let spelling = g.F.RangeFilter.spelling in
    let cutoff = g.F.RangeFilter.built_cutoff in
    let built = c.args.built in
    let free = c.args.extents.now in
    let page = c.in-Ok-gap.first in
    let pages = source_pages (filter_bytes_of spelling cutoff) built.settings (source_in built) in
    let need_is : c.pages_of-need.result ≡ pages = c.pages_of-need.ensures ∙ ap (λ (b : Built). source_pages (filter_bytes_of spelling cutoff) b.settings (source_in b)) c.in-Ok.ensures in
    let some : 0 < c.pages_of-need.result = subst (λ (n : ℕ). 0 < n) (sym need_is) (some_pages (filter_bytes_of spelling cutoff) built.settings (source_in built)) in
    let row = c.row-row.result in
    let row_is : row ≡ made_row spelling cutoff built c.args.level page = c.row-row.ensures ∙ ap (λ (b : Built). made_row spelling cutoff b c.args.level page) c.in-Ok.ensures in
    let taken = c.add.new.self in
    let old = c.args.outputs.now.items in
    let new = c.push_reserved.new.self.items in
    let place = subst (λ (n : ℕ). first_gap free.pages free.extents n ≡ Some page) need_is c.in-Ok-gap.ensures.gap in
    let on = subst (λ (n : ℕ). IsOnDevice free.pages (page, n)) need_is (c.in-Ok-gap.ensures.free some).0 in
    let apart = subst (λ (n : ℕ). AllByRecursion (AreApart (page, n)) free.extents) need_is (c.in-Ok-gap.ensures.free some).1 in
    let added = subst (λ (n : ℕ). IsPermutation ((page, n) ∷ free.extents) taken.extents) need_is c.in_ok-add.ensures.added in
    let outputs : new ≡ old ++ row ∷ [] = c.push_reserved.ensures.items ∙ ap (λ (rows : List Row). rows ++ row ∷ []) c.reserve.ensures.items in
    let table = subst (λ (b : Built). IsTable b.entries) (c.parts.view_is ∙ c.in-Ok.ensures) c.parts.invariant.table in
    let moves = subst (λ (b : Built). WriteMoves (byte_of_page page) (page_bytes * source_pages (filter_bytes_of spelling cutoff) b.settings (source_in b)) (g.D.Disk.world c.args.disk.now) (g.D.Disk.world c.write_parts.new.disk)) c.in-Ok.ensures c.write_parts.ensures.moves in
    writes spelling cutoff built c.args.level page row row_is free taken old new place on apart added c.add.ensures.pages outputs table (g.D.Disk.world c.args.disk.now) (g.D.Disk.world c.write_parts.new.disk) moves

-- ---- it is written

pub returns-in-Ok-write_parts-clause-placed : goal.returns-in-Ok-write_parts-clause-placed
returns-in-Ok-write_parts-clause-placed g c =
    let spelling = g.F.RangeFilter.spelling in
    let cutoff = g.F.RangeFilter.built_cutoff in
    let built = c.args.built in
    let free = c.args.extents.now in
    let page = c.in-Ok-gap.first in
    let pages = source_pages (filter_bytes_of spelling cutoff) built.settings (source_in built) in
    let need_is : c.pages_of-need.result ≡ pages = c.pages_of-need.ensures ∙ ap (λ (b : Built). source_pages (filter_bytes_of spelling cutoff) b.settings (source_in b)) c.in-Ok.ensures in
    let some : 0 < c.pages_of-need.result = subst (λ (n : ℕ). 0 < n) (sym need_is) (some_pages (filter_bytes_of spelling cutoff) built.settings (source_in built)) in
    let row = c.row-row.result in
    let row_is : row ≡ made_row spelling cutoff built c.args.level page = c.row-row.ensures ∙ ap (λ (b : Built). made_row spelling cutoff b c.args.level page) c.in-Ok.ensures in
    let taken = c.add.new.self in
    let old = c.args.outputs.now.items in
    let new = c.push_reserved.new.self.items in
    let place = subst (λ (n : ℕ). first_gap free.pages free.extents n ≡ Some page) need_is c.in-Ok-gap.ensures.gap in
    let on = subst (λ (n : ℕ). IsOnDevice free.pages (page, n)) need_is (c.in-Ok-gap.ensures.free some).0 in
    let apart = subst (λ (n : ℕ). AllByRecursion (AreApart (page, n)) free.extents) need_is (c.in-Ok-gap.ensures.free some).1 in
    let added = subst (λ (n : ℕ). IsPermutation ((page, n) ∷ free.extents) taken.extents) need_is c.in_ok-add.ensures.added in
    let outputs : new ≡ old ++ row ∷ [] = c.push_reserved.ensures.items ∙ ap (λ (rows : List Row). rows ++ row ∷ []) c.reserve.ensures.items in
    let table = subst (λ (b : Built). IsTable b.entries) (c.parts.view_is ∙ c.in-Ok.ensures) c.parts.invariant.table in
    places_last spelling cutoff built c.args.level page row row_is free taken old new place on apart added c.add.ensures.pages outputs table

pub returns-in-Ok-write_parts-clause-writes : goal.returns-in-Ok-write_parts-clause-writes
returns-in-Ok-write_parts-clause-writes g c =
    let spelling = g.F.RangeFilter.spelling in
    let cutoff = g.F.RangeFilter.built_cutoff in
    let built = c.args.built in
    let free = c.args.extents.now in
    let page = c.in-Ok-gap.first in
    let pages = source_pages (filter_bytes_of spelling cutoff) built.settings (source_in built) in
    let need_is : c.pages_of-need.result ≡ pages = c.pages_of-need.ensures ∙ ap (λ (b : Built). source_pages (filter_bytes_of spelling cutoff) b.settings (source_in b)) c.in-Ok.ensures in
    let some : 0 < c.pages_of-need.result = subst (λ (n : ℕ). 0 < n) (sym need_is) (some_pages (filter_bytes_of spelling cutoff) built.settings (source_in built)) in
    let row = c.row-row.result in
    let row_is : row ≡ made_row spelling cutoff built c.args.level page = c.row-row.ensures ∙ ap (λ (b : Built). made_row spelling cutoff b c.args.level page) c.in-Ok.ensures in
    let taken = c.add.new.self in
    let old = c.args.outputs.now.items in
    let new = c.push_reserved.new.self.items in
    let place = subst (λ (n : ℕ). first_gap free.pages free.extents n ≡ Some page) need_is c.in-Ok-gap.ensures.gap in
    let on = subst (λ (n : ℕ). IsOnDevice free.pages (page, n)) need_is (c.in-Ok-gap.ensures.free some).0 in
    let apart = subst (λ (n : ℕ). AllByRecursion (AreApart (page, n)) free.extents) need_is (c.in-Ok-gap.ensures.free some).1 in
    let added = subst (λ (n : ℕ). IsPermutation ((page, n) ∷ free.extents) taken.extents) need_is c.in_ok-add.ensures.added in
    let outputs : new ≡ old ++ row ∷ [] = c.push_reserved.ensures.items ∙ ap (λ (rows : List Row). rows ++ row ∷ []) c.reserve.ensures.items in
    let table = subst (λ (b : Built). IsTable b.entries) (c.parts.view_is ∙ c.in-Ok.ensures) c.parts.invariant.table in
    let moves = subst (λ (b : Built). WriteMoves (byte_of_page page) (page_bytes * source_pages (filter_bytes_of spelling cutoff) b.settings (source_in b)) (g.D.Disk.world c.args.disk.now) (g.D.Disk.world c.write_parts.new.disk)) c.in-Ok.ensures c.write_parts.ensures.moves in
    writes spelling cutoff built c.args.level page row row_is free taken old new place on apart added c.add.ensures.pages outputs table (g.D.Disk.world c.args.disk.now) (g.D.Disk.world c.write_parts.new.disk) moves

pub returns-in-Ok-write_parts-clause-stands : goal.returns-in-Ok-write_parts-clause-stands
returns-in-Ok-write_parts-clause-stands g c t =
    let spelling = g.F.RangeFilter.spelling in
    let cutoff = g.F.RangeFilter.built_cutoff in
    let built = c.args.built in
    let free = c.args.extents.now in
    let page = c.in-Ok-gap.first in
    let pages = source_pages (filter_bytes_of spelling cutoff) built.settings (source_in built) in
    let need_is : c.pages_of-need.result ≡ pages = c.pages_of-need.ensures ∙ ap (λ (b : Built). source_pages (filter_bytes_of spelling cutoff) b.settings (source_in b)) c.in-Ok.ensures in
    let some : 0 < c.pages_of-need.result = subst (λ (n : ℕ). 0 < n) (sym need_is) (some_pages (filter_bytes_of spelling cutoff) built.settings (source_in built)) in
    let row = c.row-row.result in
    let row_is : row ≡ made_row spelling cutoff built c.args.level page = c.row-row.ensures ∙ ap (λ (b : Built). made_row spelling cutoff b c.args.level page) c.in-Ok.ensures in
    let old = c.args.outputs.now.items in
    let new = c.push_reserved.new.self.items in
    let level = c.args.level in
    let after = g.D.Disk.world c.write_parts.new.disk in
    let outputs : new ≡ old ++ row ∷ [] = c.push_reserved.ensures.items ∙ ap (λ (rows : List Row). rows ++ row ∷ []) c.reserve.ensures.items in
    let is = subst (λ (b : Built). Now (IsTableOf spelling (made_row spelling cutoff b level page) (table_from (filter_bytes_of spelling cutoff) b.settings level page (source_in b))) after) c.in-Ok.ensures
    (c.in-Ok-write_parts.ensures.table level t) in
    let stands = subst (λ (b : Built). Now (StandsWith spelling (opened_of cutoff b (made_row spelling cutoff b level page)) b.entries) after) c.in-Ok.ensures
    (c.in-Ok-write_parts.ensures.stands level t) in
    now_held spelling cutoff built level page row row_is after new (ap last_row outputs ∙ last_is old row) is stands
