-- What open tables tell is what those of the state tell.
use Rattle.std.proofs.Common.{◌≡◌, ◌∙◌, ◌+◌, ℕ, Bool, true, false, cond, List, [], ◌∷◌, length, refl, sym, ap, arith}
use Rattle.std.specs.Prelude.{Some, count_by, sum_by}
use Rattle.std.proofs.lemmas.List.Sums.{sum_by-cons}
use Rattle.disk_trait.specs.Image.{Image}
use Rattle.disk_trait.specs.World.{World}
use Rattle.entry_model.specs.Entries.{Entry}
use Rattle.filter_api.specs.Spellings.{Spelling}
use Rattle.filter_model.specs.Answers.{point, ranged, tally}
use Rattle.filter_model.specs.Leaves.{Leaf}
use Rattle.map_model.specs.Slices.{is_before, is_between}
use Rattle.map_model.specs.SortedMap.{Bytes}
use Rattle.state_model.specs.Bounds.{admits, admits_range, admitted, blocks_read, estimate, is_searched, table_leaves}
use Rattle.state_model.specs.State.{State}
use Rattle.state_model.specs.View.{memory}
use Rattle.store_core.specs.StoreValue.{StoreValue}
use Rattle.store_core.specs.Telling.{is_admitting, is_read_for, tally_of}
use Rattle.store_search.specs.TablesAgree.{TableAgrees, TablesAgree}
use Rattle.store_core.specs.Represents.{ReadsAs, Represents}
use Rattle.store_search.proofs.ReadBounds.{read_where_searched}
use Rattle.table_file.specs.Laws.{StandingKeys}
use Rattle.table_file.specs.Opened.{Opened}
use Rattle.table_model.specs.Tables.{FilterBytes, Table}

module _ (spelling : Spelling) (image : Image) where
  module _ (opened : Opened) (t : Table) (held : TableAgrees spelling opened t image) where
    pub leaves_are : opened.filter.leaves ≡ table_leaves t
    leaves_are = held.stands.leaves_are ∙ sym (ap table_leaves held.table_is)

    hash_are : opened.filter.hash_bits ≡ t.settings.hash_bits
    hash_are = held.stands.hash_is ∙ sym (ap (λ (u : Table). u.settings.hash_bits) held.table_is)

    pub real_are : opened.filter.real_bits ≡ t.settings.real_bits
    real_are = held.stands.real_is ∙ sym (ap (λ (u : Table). u.settings.real_bits) held.table_is)

    pub admits_same : (key : Bytes) → is_admitting key opened ≡ admits key t
    admits_same key =
        ap (λ (n : ℕ). point n opened.filter.real_bits opened.filter.leaves key) hash_are
        ∙ ap (λ (n : ℕ). point t.settings.hash_bits n opened.filter.leaves key) real_are
        ∙ ap (λ (ls : List Leaf). point t.settings.hash_bits t.settings.real_bits ls key) leaves_are

    pub ranges_same : (low high : Bytes) → ranged opened.filter.real_bits opened.filter.leaves low high ≡ admits_range low high t
    ranges_same low high =
        ap (λ (n : ℕ). ranged n opened.filter.leaves low high) real_are ∙ ap (λ (ls : List Leaf). ranged t.settings.real_bits ls low high) leaves_are

    pub tallies_same : (low high : Bytes) → tally_of low high opened ≡ tally t.settings.real_bits (table_leaves t) low high
    tallies_same low high =
        ap (λ (n : ℕ). tally n opened.filter.leaves low high) real_are ∙ ap (λ (ls : List Leaf). tally t.settings.real_bits ls low high) leaves_are

  -- ---- of all of them

  pub as_many : (opened : List Opened) (tables : List Table) → TablesAgree spelling opened tables image → length opened ≡ length tables
  as_many [] [] held = refl
  as_many [] (t ∷ tables) held = elim held [ ]
  as_many (o ∷ opened) [] held = elim held [ ]
  as_many (o ∷ opened) (t ∷ tables) held = omega (arith, as_many opened tables held.1)

  -- a number of each open table that is the number of the state's
  sums_same : (f : Opened → ℕ) (g : Table → ℕ) → ((o : Opened) (t : Table) → TableAgrees spelling o t image → f o ≡ g t)
      → (opened : List Opened) (tables : List Table) → TablesAgree spelling opened tables image → sum_by f opened ≡ sum_by g tables
  sums_same f g same [] [] held = refl
  sums_same f g same [] (t ∷ tables) held = elim held [ ]
  sums_same f g same (o ∷ opened) [] held = elim held [ ]
  sums_same f g same (o ∷ opened) (t ∷ tables) held =
      omega (arith, sum_by-cons f o opened, sum_by-cons g t tables, same o t held.0, sums_same f g same opened tables held.1)

  pub admitted_same : (key : Bytes) (opened : List Opened) (tables : List Table) → TablesAgree spelling opened tables image → count_by (is_admitting key) opened ≡ count_by (admits key) tables
  admitted_same key = sums_same (λ (o : Opened). cond (is_admitting key o) 1 0) (λ (t : Table). cond (admits key t) 1 0)
      (λ o t held. ap (λ (b : Bool). cond b 1 0) (admits_same o t held key))

  pub all_tallies_same : (low high : Bytes) (opened : List Opened) (tables : List Table) → TablesAgree spelling opened tables image
      → sum_by (tally_of low high) opened ≡ sum_by (λ (t : Table). tally t.settings.real_bits (table_leaves t) low high) tables
  all_tallies_same low high = sums_same (tally_of low high) (λ (t : Table). tally t.settings.real_bits (table_leaves t) low high) (λ o t held. tallies_same o t held low high)

  pub read_same : StandingKeys → (key : Bytes) (opened : List Opened) (tables : List Table) → TablesAgree spelling opened tables image
      → count_by (is_read_for key) opened ≡ count_by (is_searched key) tables
  read_same laws key = sums_same (λ (o : Opened). cond (is_read_for key o) 1 0) (λ (t : Table). cond (is_searched key t) 1 0)
      (λ o t held. ap (λ (b : Bool). cond b 1 0) (read_where_searched laws spelling o t image held key))

-- ---- of a store that is seen as a state

-- as the device reads
pub seen_as : (spelling : Spelling) (filter_bytes : FilterBytes) (store : StoreValue) (s : State) (w : World) → w.leaves w.moment w.seen.held → Represents spelling filter_bytes store s w
    → ReadsAs spelling filter_bytes store s w.seen.held
seen_as spelling filter_bytes store s w current tied = record { sound = tied.sound; under = tied.images w.seen.held current; memory = tied.memory; ranges = tied.ranges }

module _ (spelling : Spelling) (filter_bytes : FilterBytes) (store : StoreValue) (s : State) (image : Image) (seen : ReadsAs spelling filter_bytes store s image) where
  pub seen_many : length store.tables ≡ length s.tables
  seen_many = as_many spelling image store.tables s.tables seen.under.tables

  pub seen_admitted : (key : Bytes) → count_by (is_admitting key) store.tables ≡ admitted s key
  seen_admitted key = admitted_same spelling image key store.tables s.tables seen.under.tables

  pub seen_read_for : StandingKeys → (key : Bytes) → count_by (is_read_for key) store.tables ≡ blocks_read s key
  seen_read_for laws key = read_same spelling image laws key store.tables s.tables seen.under.tables

  abbrev about : Bytes → Bytes → ℕ
  about low high = count_by (λ (e : Entry). is_between low (Some high) e.key) (memory s) + sum_by (λ (t : Table). tally t.settings.real_bits (table_leaves t) low high) s.tables

  pub seen_crossed : (low high : Bytes) → is_before high low ≡ true → 0 ≡ estimate s low high
  seen_crossed low high crossed = sym (ap (λ (b : Bool). cond b 0 (about low high)) crossed)

  pub seen_estimate : (low high : Bytes) → is_before high low ≡ false
      → count_by (λ (e : Entry). is_between low (Some high) e.key) store.memory.entries + sum_by (tally_of low high) store.tables ≡ estimate s low high
  seen_estimate low high order =
      let entries = ap (λ (es : List Entry). count_by (λ (e : Entry). is_between low (Some high) e.key) es) seen.memory in
      let tables = all_tallies_same spelling image low high store.tables s.tables seen.under.tables in
      let sum : count_by (λ (e : Entry). is_between low (Some high) e.key) store.memory.entries + sum_by (tally_of low high) store.tables ≡ about low high = omega (arith, entries, tables) in
      sum ∙ sym (ap (λ (b : Bool). cond b 0 (about low high)) order)
