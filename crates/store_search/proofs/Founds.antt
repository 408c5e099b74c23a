-- What a table says of a key, and then the older ones.
use Rattle.std.proofs.Common.{◌≡◌, ◌∙◌, List, [], ◌∷◌, refl, sym, ap, subst, true}
use Rattle.std.specs.Option.{option_or}
use Rattle.std.specs.Prelude.{is_some, Option, Some, None}
use Rattle.disk_trait.specs.Image.{Image}
use Rattle.entry_model.specs.Entries.{Entry}
use Rattle.entry_model.specs.Newest.{lookup}
use Rattle.filter_api.specs.Spellings.{Spelling}
use Rattle.block_model.specs.Index.{Index}
use Rattle.block_model.specs.Laws.{joined}
use Rattle.map_model.specs.SortedMap.{Bytes}
use Rattle.state_model.specs.WithoutRanges.{first_found}
use Rattle.store_search.specs.Searching.{entries_by_table}
use Rattle.store_search.specs.TablesAgree.{TableAgrees, TablesAgree}
use Rattle.table_file.specs.Opened.{Opened}
use Rattle.table_file.specs.Search.{StandsThere}
use Rattle.table_model.specs.Tables.{Table}
use Rattle.table_model.proofs.Pieces.{ranges_of_index}

pub first_said : (said older : Option (Option Bytes)) → is_some said ≡ true → option_or said older ≡ said
first_said None older is = absurd cc
first_said (Some value) older is = refl

-- the entries are those of the blocks
pub held_entries : (spelling : Spelling) (opened : Opened) (t : Table) (image : Image) (held : TableAgrees spelling opened t image) → t.entries ≡ joined held.blocks
held_entries spelling opened t image held = ap (λ (u : Table). u.entries) held.table_is

-- and the ranges those of the index
pub ranges_agree : (spelling : Spelling) (opened : Opened) (t : Table) (image : Image) → TableAgrees spelling opened t image → t.ranges ≡ opened.index.ranges
ranges_agree spelling opened t image held =
    ap (λ (u : Table). u.ranges) held.table_is
    ∙ sym (ap (λ (x : Index). x.ranges) held.stands.index_is ∙ ranges_of_index held.stands.at.pieces held.stands.at.ranges)

module _ (spelling : Spelling) (opened : Opened) (t : Table) (older : List Table) (image : Image) (held : TableAgrees spelling opened t image) (key : Bytes)
    (said : Option (Option Bytes)) (is : said ≡ lookup (joined held.blocks) key) where
  here : said ≡ lookup t.entries key
  here = is ∙ ap (λ (es : List Entry). lookup es key) (sym (held_entries spelling opened t image held))

  -- the table has an entry of it
  pub said_first : is_some said ≡ true → said ≡ first_found (entries_by_table (t ∷ older)) key
  said_first some =
      sym (first_said said (first_found (entries_by_table older) key) some) ∙ ap (λ (o : Option (Option Bytes)). option_or o (first_found (entries_by_table older) key)) here

-- of some open tables, the first one
module _ (spelling : Spelling) (first : Opened) (more : List Opened) (image : Image) (key : Bytes) where
  pub found_first : (opened : List Opened) (states : List Table) (said : Option (Option Bytes)) → opened ≡ first ∷ more → TablesAgree spelling opened states image → is_some said ≡ true
      → ((blocks : List (List Entry)) → StandsThere spelling first blocks image → said ≡ lookup (joined blocks) key) → said ≡ first_found (entries_by_table states) key
  found_first opened states said split held some says = of_cells states (subst (λ (ts : List Opened). TablesAgree spelling ts states image) split held)
    where
      of_cells : (states : List Table) → TablesAgree spelling (first ∷ more) states image → said ≡ first_found (entries_by_table states) key
      of_cells [] held = elim held [ ]
      of_cells (t ∷ older) held = said_first spelling first t older image held.0 key said (says held.0.blocks held.0.stands) some
