use Rattle.std.proofs.Common.{◌∙◌, ◌++◌, ℕ, List, map, sym, ap, subst}
use Rattle.std.specs.List.{AllByRecursion}
use Rattle.std.specs.List.Sorted.{IsPermutation}
use Rattle.byte_fields.specs.declared.parts.Row.{Row}
use Rattle.extent_map.specs.Taken.{Taken}
use Rattle.extent_model.specs.Extents.{AreApart, AreLaid, Extent}
use Rattle.manifest.specs.Manifest.{Manifest}
use Rattle.manifest_model.specs.Rows.{extent_of}
use Rattle.store_core.proofs.PlannedRows.{both_taken, free_of_none, outputs_laid, rows_free, rows_laid}
use Rattle.store_core.proofs.flushing.extents_of.Goals as goal

pub add_rows-requires-clause-laid : goal.add_rows-requires-clause-laid
add_rows-requires-clause-laid c =
    let v = c.args.version.now.version in
    let pages = ap (λ (t : Taken). t.pages) c.new-extents.ensures ∙ ap (λ (m : Manifest). m.version.pages) c.version.view_is in
    subst (λ (n : ℕ). AreLaid n (map extent_of c.args.outputs.now)) (sym pages) (outputs_laid v.pages v.rows c.args.outputs.now c.requires.laid)

pub add_rows-requires-clause-free : goal.add_rows-requires-clause-free
add_rows-requires-clause-free c =
    subst (λ (es : List Extent). AllByRecursion (λ (e : Extent). AllByRecursion (AreApart e) es) (map extent_of c.args.outputs.now)) (sym (ap (λ (t : Taken). t.extents) c.new-extents.ensures))
    (free_of_none (map extent_of c.args.outputs.now))

pub add_rows-requires-2-clause-laid : goal.add_rows-requires-2-clause-laid
add_rows-requires-2-clause-laid c =
    let v = c.args.version.now.version in
    let pages = c.add_rows.ensures.pages ∙ ap (λ (t : Taken). t.pages) c.new-extents.ensures ∙ ap (λ (m : Manifest). m.version.pages) c.version.view_is in
    let rows = c.deref.ensures.value ∙ ap (λ (m : Manifest). m.version.rows) c.version.view_is in
    subst (λ (n : ℕ). AreLaid n (map extent_of c.deref.result.now)) (sym pages)
    (subst (λ (rs : List Row). AreLaid v.pages (map extent_of rs)) (sym rows) (rows_laid v.pages v.rows c.args.outputs.now c.requires.laid))

pub add_rows-requires-2-clause-free : goal.add_rows-requires-2-clause-free
add_rows-requires-2-clause-free c =
    let v = c.args.version.now.version in
    let rows = c.deref.ensures.value ∙ ap (λ (m : Manifest). m.version.rows) c.version.view_is in
    let same = subst (λ (es : List Extent). IsPermutation (map extent_of c.args.outputs.now ++ es) c.add_rows.new.extents.extents) (ap (λ (t : Taken). t.extents) c.new-extents.ensures)
    c.in_ok-add_rows.ensures.extents in
    subst (λ (rs : List Row). AllByRecursion (λ (e : Extent). AllByRecursion (AreApart e) c.add_rows.new.extents.extents) (map extent_of rs)) (sym rows)
    (rows_free v.pages v.rows c.args.outputs.now c.requires.laid c.add_rows.new.extents.extents same)

pub returns-clause-extents : goal.returns-clause-extents
returns-clause-extents c =
    let v = c.args.version.now.version in
    let rows = c.deref.ensures.value ∙ ap (λ (m : Manifest). m.version.rows) c.version.view_is in
    let same = subst (λ (es : List Extent). IsPermutation (map extent_of c.args.outputs.now ++ es) c.add_rows.new.extents.extents) (ap (λ (t : Taken). t.extents) c.new-extents.ensures)
    c.in_ok-add_rows.ensures.extents in
    both_taken v.pages v.rows c.args.outputs.now c.requires.laid c.add_rows.new.extents.extents same c.add_rows-2.new.extents.extents
    (subst (λ (rs : List Row). IsPermutation (map extent_of rs ++ c.add_rows.new.extents.extents) c.add_rows-2.new.extents.extents) rows c.in_ok-add_rows-2.ensures.extents)
