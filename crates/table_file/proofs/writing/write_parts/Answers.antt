use Rattle.std.proofs.Common.{◌≡◌, ◌+◌, ◌*◌, ℕ, length, ap, ap₂, ◌∙◌, subst, arith}
use Rattle.std.specs.Prelude.{IsTrue, IfErr, OnOk}
use Rattle.disk_trait.specs.Image.{Image}
use Rattle.disk_trait.specs.World.{IsDurable, Now, WriteMoves}
use Rattle.disk_trait.proofs.Calls.{on_ok_two}
use Rattle.map_model.specs.SortedMap.{Bytes}
use Rattle.entry_model.specs.Entries.{keys_of}
use Rattle.block_model.specs.Places.{byte_of_page, filter_page, index_page}
use Rattle.table_model.specs.Images.{IsTableOf}
use Rattle.table_model.specs.Tables.{filter_bytes_of, source_pages, table_from}
use Rattle.table_model.specs.Written.{row_from}
use Rattle.table_file.specs.Building.{Built, source_in}
use Rattle.table_file.specs.Writing.{AreWritten, IsWriteOf, StandsWith, opened_of, three_written}
use Rattle.table_file.proofs.IntoTable.{made_stands}
use Rattle.table_file.proofs.Written.{all_long, filter_at, index_at, same_places, stands, written}
use Rattle.table_file.proofs.writing.write_parts.Goals as goal

pub write_three-requires : goal.write_three-requires
write_three-requires g c =
    let p = c.parts.inside in
    let spelling = g.F.RangeFilter.spelling in
    let cutoff = g.F.RangeFilter.built_cutoff in
    let first = c.args.first_page in
    let at : 4096 * c.from.result ≡ 4096 * first = ap (λ (n : ℕ). 4096 * n) c.from.ensures in
    let long = all_long _ _ _ _ _ _ _ _ _ _ c.parts.invariant in
    let few = ap (λ (b : Built). source_pages (filter_bytes_of spelling cutoff) b.settings (source_in b)) c.parts.view_is in
    omega (arith, c.from.ensures, long, few, c.requires, ap length c.as_slice.ensures.value, ap length c.whole.ensures, ap length c.whole-2.ensures)

pub returns-clause-written : goal.returns-clause-written
returns-clause-written g c =
    let p = c.parts.inside in
    let spelling = g.F.RangeFilter.spelling in
    let cutoff = g.F.RangeFilter.built_cutoff in
    let first = c.args.first_page in
    let at : 4096 * c.from.result ≡ 4096 * first = ap (λ (n : ℕ). 4096 * n) c.from.ensures in
    let same = (λ (h : Image). ap (λ (x : Bytes). three_written h (4096 * c.from.result) x c.whole.result.now c.whole-2.result.now) c.as_slice.ensures.value
    ∙ ap₂ (λ (x y : Bytes). three_written h (4096 * c.from.result) p.blocks.items x y) c.whole.ensures c.whole-2.ensures) in
    subst (λ (b : Built). (level : ℕ) → IsTrue g.D.Disk.tells → OnOk c.write_three.result
    (Now (AreWritten (row_from level first b.settings (source_in b) (filter_bytes_of spelling cutoff b.settings (keys_of b.entries))) (source_in b) (filter_bytes_of spelling cutoff b.settings (keys_of b.entries))) (g.D.Disk.world c.write_three.new.disk)))
    c.parts.view_is
    (λ level tells. on_ok_two _ (IsDurable (g.D.Disk.world c.write_three.new.disk)) _ c.write_three.result
    (λ held durable f left. written _ _ _ _ _ _ _ _ _ _ c.parts.invariant level first (4096 * c.from.result) at _ f (durable f left ∙ held ∙ same _))
    (c.write_three.ensures.written tells) c.write_three.ensures.durable)

pub returns-clause-table : goal.returns-clause-table
returns-clause-table g c =
    let p = c.parts.inside in
    let spelling = g.F.RangeFilter.spelling in
    let cutoff = g.F.RangeFilter.built_cutoff in
    let first = c.args.first_page in
    let at : 4096 * c.from.result ≡ 4096 * first = ap (λ (n : ℕ). 4096 * n) c.from.ensures in
    let same = (λ (h : Image). ap (λ (x : Bytes). three_written h (4096 * c.from.result) x c.whole.result.now c.whole-2.result.now) c.as_slice.ensures.value
    ∙ ap₂ (λ (x y : Bytes). three_written h (4096 * c.from.result) p.blocks.items x y) c.whole.ensures c.whole-2.ensures) in
    subst (λ (b : Built). (level : ℕ) → IsTrue g.D.Disk.tells → OnOk c.write_three.result
    (Now (IsTableOf spelling (row_from level first b.settings (source_in b) (filter_bytes_of spelling cutoff b.settings (keys_of b.entries))) (table_from (filter_bytes_of spelling cutoff) b.settings level first (source_in b))) (g.D.Disk.world c.write_three.new.disk)))
    c.parts.view_is
    (λ level tells. on_ok_two _ (IsDurable (g.D.Disk.world c.write_three.new.disk)) _ c.write_three.result
    (λ held durable f left. stands _ _ _ _ _ _ _ _ _ _ c.parts.invariant level first (4096 * c.from.result) at f
    (written _ _ _ _ _ _ _ _ _ _ c.parts.invariant level first (4096 * c.from.result) at _ f (durable f left ∙ held ∙ same _)))
    (c.write_three.ensures.written tells) c.write_three.ensures.durable)

pub returns-clause-stands : goal.returns-clause-stands
returns-clause-stands g c =
    let p = c.parts.inside in
    let spelling = g.F.RangeFilter.spelling in
    let cutoff = g.F.RangeFilter.built_cutoff in
    let first = c.args.first_page in
    let at : 4096 * c.from.result ≡ 4096 * first = ap (λ (n : ℕ). 4096 * n) c.from.ensures in
    let same = (λ (h : Image). ap (λ (x : Bytes). three_written h (4096 * c.from.result) x c.whole.result.now c.whole-2.result.now) c.as_slice.ensures.value
    ∙ ap₂ (λ (x y : Bytes). three_written h (4096 * c.from.result) p.blocks.items x y) c.whole.ensures c.whole-2.ensures) in
    subst (λ (b : Built). (level : ℕ) → IsTrue g.D.Disk.tells → OnOk c.write_three.result
    (Now (StandsWith spelling (opened_of cutoff b (row_from level first b.settings (source_in b) (filter_bytes_of spelling cutoff b.settings (keys_of b.entries)))) b.entries) (g.D.Disk.world c.write_three.new.disk)))
    c.parts.view_is
    (λ level tells. on_ok_two _ (IsDurable (g.D.Disk.world c.write_three.new.disk)) _ c.write_three.result
    (λ held durable f left. made_stands _ _ _ _ _ _ _ _ _ _ c.parts.invariant level first g.met.F.RangeFilter.spells_one f
    (written _ _ _ _ _ _ _ _ _ _ c.parts.invariant level first (4096 * c.from.result) at _ f (durable f left ∙ held ∙ same _)))
    (c.write_three.ensures.written tells) c.write_three.ensures.durable)

pub returns-clause-moves : goal.returns-clause-moves
returns-clause-moves g c =
    let p = c.parts.inside in
    let spelling = g.F.RangeFilter.spelling in
    let cutoff = g.F.RangeFilter.built_cutoff in
    let first = c.args.first_page in
    let at : 4096 * c.from.result ≡ 4096 * first = ap (λ (n : ℕ). 4096 * n) c.from.ensures in
    let few = ap (λ (b : Built). source_pages (filter_bytes_of spelling cutoff) b.settings (source_in b)) c.parts.view_is in
    let long : length c.as_slice.result.now + length c.whole.result.now + length c.whole-2.result.now ≡ 4096 * source_pages (filter_bytes_of spelling cutoff) c.args.parts.now.settings (source_in c.args.parts.now) =
    omega (arith, all_long _ _ _ _ _ _ _ _ _ _ c.parts.invariant, few, ap length c.as_slice.ensures.value, ap length c.whole.ensures, ap length c.whole-2.ensures) in
    subst (λ (n : ℕ). WriteMoves (4096 * first) n (g.D.Disk.world c.args.disk.now) (g.D.Disk.world c.write_three.new.disk)) long
    (subst (λ (n : ℕ). WriteMoves n (length c.as_slice.result.now + length c.whole.result.now + length c.whole-2.result.now) (g.D.Disk.world c.args.disk.now) (g.D.Disk.world c.write_three.new.disk)) at
    c.write_three.ensures.moves)

pub returns-clause-fault : goal.returns-clause-fault
returns-clause-fault g c =
    let p = c.parts.inside in
    let spelling = g.F.RangeFilter.spelling in
    let cutoff = g.F.RangeFilter.built_cutoff in
    let first = c.args.first_page in
    let at : 4096 * c.from.result ≡ 4096 * first = ap (λ (n : ℕ). 4096 * n) c.from.ensures in
    subst (λ (b : Built). (level : ℕ) → IfErr c.write_three.result (IsWriteOf (byte_of_page first)
    (byte_of_page (index_page (row_from level first b.settings (source_in b) (filter_bytes_of spelling cutoff b.settings (keys_of b.entries)))))
    (byte_of_page (filter_page (row_from level first b.settings (source_in b) (filter_bytes_of spelling cutoff b.settings (keys_of b.entries)))))))
    c.parts.view_is
    (λ level.
    let second = ap (λ (x : Bytes). 4096 * c.from.result + length x) c.as_slice.ensures.value ∙ index_at _ _ _ _ _ _ _ _ _ _ c.parts.invariant level first (4096 * c.from.result) at in
    let third = ap₂ (λ (x y : Bytes). 4096 * c.from.result + length x + length y) c.as_slice.ensures.value c.whole.ensures ∙ filter_at _ _ _ _ _ _ _ _ _ _ c.parts.invariant level first (4096 * c.from.result) at in
    same_places c.write_three.result _ _ _ _ _ _ at second third c.write_three.ensures.fault)
