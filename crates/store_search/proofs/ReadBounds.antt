-- How many blocks a get reads, against what the state says.
use Rattle.std.proofs.Common.{◌≡◌, ◌≤◌, ◌+◌, ◌∙◌, ℕ, suc, Bool, true, false, cond, List, [], ◌∷◌, refl, sym, ap, subst, arith}
use Rattle.std.specs.Prelude.{is_some, Option, Some, None}
use Rattle.block_model.specs.Laws.{joined}
use Rattle.disk_trait.specs.Image.{Image}
use Rattle.entry_model.specs.Entries.{Entry}
use Rattle.entry_model.specs.Newest.{lookup}
use Rattle.filter_api.specs.Spellings.{Spelling}
use Rattle.map_model.specs.SortedMap.{Bytes}
use Rattle.state_model.specs.Bounds.{get_bound, is_searched, searched, unless_found}
use Rattle.state_model.specs.State.{State}
use Rattle.state_model.specs.View.{memory}
use Rattle.table_file.specs.Laws.{StandingKeys}
use Rattle.table_file.specs.Opened.{Opened}
use Rattle.table_file.specs.Search.{StandsThere, block_for, blocks_of_get}
use Rattle.table_model.specs.Tables.{Table}
use Rattle.store_search.proofs.Founds.{held_entries}
use Rattle.store_search.specs.TablesAgree.{TableAgrees, TablesAgree}

blocks_counted : (o : Option ℕ) → blocks_of_get o ≡ cond (is_some o) 1 0
blocks_counted None = refl
blocks_counted (Some n) = refl

-- one is read where one is named
pub some_read : (o : Option ℕ) (n : ℕ) → o ≡ Some n → 1 ≤ blocks_of_get o
some_read o n is = subst (λ (p : Option ℕ). 1 ≤ blocks_of_get p) (sym is) (omega arith)

module _ (laws : StandingKeys) (spelling : Spelling) (opened : Opened) (t : Table) (image : Image) (held : TableAgrees spelling opened t image) (key : Bytes) where
  -- a block is read exactly where the state's table is searched
  pub read_where_searched : is_some (block_for opened key) ≡ is_searched key t
  read_where_searched =
      (laws spelling opened held.blocks image held.stands).searched key
      ∙ sym (ap (is_searched key) held.table_is)

  blocks_are : blocks_of_get (block_for opened key) ≡ cond (is_searched key t) 1 0
  blocks_are = blocks_counted (block_for opened key) ∙ ap (λ (b : Bool). cond b 1 0) read_where_searched

  module _ (older : List Table) where
    one_at_least : (is : Bool) (more later : ℕ) → cond is 1 0 ≤ cond is (suc more) later
    one_at_least true more later = omega arith
    one_at_least false more later = omega arith

    pub first_bound : blocks_of_get (block_for opened key) ≤ searched key (t ∷ older)
    first_bound = subst (λ (n : ℕ). n ≤ searched key (t ∷ older)) (sym blocks_are) (one_at_least (is_searched key t) _ _)

    one_and_later : (is : Bool) (said : Option (Option Bytes)) (later : ℕ) → said ≡ None → cond is 1 0 + later ≡ cond is (suc (unless_found said later)) later
    one_and_later true None later none = omega arith
    one_and_later true (Some value) later none = absurd cc
    one_and_later false said later none = omega arith

    -- where it has no entry of the key, the older ones are searched too
    pub next_bound : lookup t.entries key ≡ None → blocks_of_get (block_for opened key) + searched key older ≡ searched key (t ∷ older)
    next_bound none = ap (λ (n : ℕ). n + searched key older) blocks_are ∙ one_and_later (is_searched key t) (lookup t.entries key) (searched key older) none

-- ---- of some open tables, the first one

module _ (laws : StandingKeys) (spelling : Spelling) (first : Opened) (more : List Opened) (image : Image) (key : Bytes) where
  first_of_cells : (states : List Table) → TablesAgree spelling (first ∷ more) states image → blocks_of_get (block_for first key) ≤ searched key states
  first_of_cells [] held = elim held [ ]
  first_of_cells (t ∷ older) held = first_bound laws spelling first t image held.0 key older

  -- what is read of it is no more than what the state says
  pub searched_first : (opened : List Opened) (states : List Table) → opened ≡ first ∷ more → TablesAgree spelling opened states image
      → blocks_of_get (block_for first key) ≤ searched key states
  searched_first opened states split held = first_of_cells states (subst (λ (ts : List Opened). TablesAgree spelling ts states image) split held)

  module _ (said : Option (Option Bytes)) (none : said ≡ None) (says : (blocks : List (List Entry)) → StandsThere spelling first blocks image → said ≡ lookup (joined blocks) key)
      (reads : ℕ) (later : (older : List Table) → TablesAgree spelling more older image → reads ≤ searched key older) where
    next_of_cells : (states : List Table) → TablesAgree spelling (first ∷ more) states image → blocks_of_get (block_for first key) + reads ≤ searched key states
    next_of_cells [] held = elim held [ ]
    next_of_cells (t ∷ older) held =
        let missing : lookup t.entries key ≡ None =
        ap (λ (es : List Entry). lookup es key) (held_entries spelling first t image held.0) ∙ sym (says held.0.blocks held.0.stands) ∙ none in
        omega (arith, later older held.1, next_bound laws spelling first t image held.0 key older missing)

    -- where it has no entry of the key, nor is what is read of all
    pub searched_on : (opened : List Opened) (states : List Table) → opened ≡ first ∷ more → TablesAgree spelling opened states image
        → blocks_of_get (block_for first key) + reads ≤ searched key states
    searched_on opened states split held = next_of_cells states (subst (λ (ts : List Opened). TablesAgree spelling ts states image) split held)

-- where the memory has no entry of the key, as many as of the tables
pub bound_is : (s : State) (key : Bytes) → lookup (memory s) key ≡ None → get_bound s key ≡ searched key s.tables
bound_is s key none = ap (λ (said : Option (Option Bytes)). unless_found said (searched key s.tables)) none
