-- A block that was read for a key shows its fault.
use Rattle.std.proofs.Common.{◌≡◌, sym, subst, List, [], ◌∷◌, arith, refl}
use Rattle.std.specs.Prelude.{Contains}
use Rattle.std.proofs.lemmas.List.Elements.{Contains-append_right}
use Rattle.disk_trait.specs.Image.{Image}
use Rattle.map_model.specs.SortedMap.{Bytes}
use Rattle.store_search.specs.Searching.{IsBlockFault, IsFaultIn}
use Rattle.table_file.specs.Opened.{Opened}
use Rattle.table_file.specs.declared.fault.TableFault.{TableFault}
use Rattle.table_file.specs.declared.fault.TableFault.TheVariants as table

-- one of all tables, the first or an older one
pub first_fault : (t : Opened) (older tables : List Opened) (key : Bytes) (image : Image) (f : TableFault) → tables ≡ t ∷ older → IsBlockFault t key image f → IsFaultIn tables key image f
first_fault t older tables key image table.Memory all is = tt
first_fault t older tables key image (table.Device cause) all is = tt
first_fault t older tables key image (table.Damaged d) all is = (t, subst (λ (l : List Opened). Contains l t) (sym all) (0, omega arith, refl), is)

pub older_fault : (t : Opened) (older tables : List Opened) (key : Bytes) (image held : Image) (f : TableFault) → tables ≡ t ∷ older → held ≡ image → IsFaultIn older key held f → IsFaultIn tables key image f
older_fault t older tables key image held table.Memory all same is = tt
older_fault t older tables key image held (table.Device cause) all same is = tt
older_fault t older tables key image held (table.Damaged d) all same is =
    let there = subst (λ (i : Image). IsFaultIn older key i (table.Damaged d)) same is in
    (there.0, subst (λ (l : List Opened). Contains l there.0) (sym all) (Contains-append_right (t ∷ []) older there.0 there.1), there.2)
