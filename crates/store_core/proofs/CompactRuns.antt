-- The merge of a compaction, whatever the device is: its outputs are tables of the deepest level, and lie apart.
use Rattle.std.proofs.Common.{◌≡◌, inl, inr, ◌∙◌, ◌+◌, ◌<◌, ◌≤◌, ◌++◌, ℕ, zero, suc, List, [], ◌∷◌, length, map, refl, sym, ap, subst, arith, append_assoc}
use Rattle.std.specs.List.{AllByRecursion}
use Rattle.std.specs.List.Sorted.{IsPermutation}
use Rattle.std.proofs.lemmas.List.{append-nil, length-map, map-append}
use Rattle.std.proofs.lemmas.List.Elements.{All-from_recursion, recursion_from_All}
use Rattle.std.proofs.lemmas.List.Sorted.{All-permutation, IsPermutation-cons, IsPermutation-sym, IsPermutation-to_front, IsPermutation-trans}
use Rattle.block_model.specs.Block.{IsTable}
use Rattle.byte_fields.specs.declared.parts.Row.{Row}
use Rattle.disk_trait.specs.World.{World}
use Rattle.entry_model.specs.Entries.{Entry}
use Rattle.extent_map.specs.Taken.{Taken}
use Rattle.extent_model.proofs.Free.{apart_mutual}
use Rattle.extent_model.proofs.Lists.{Pairs, all_pairs, pairs_of}
use Rattle.extent_model.specs.Extents.{AreApart, AreLaid, Extent, IsOnDevice}
use Rattle.filter_api.specs.Spellings.{Spelling}
use Rattle.filter_api.specs.declared.settings.Settings.{Settings}
use Rattle.filter_model.specs.Leaves.{Leaf}
use Rattle.level_merge.proofs.Begun.{numbers_below}
use Rattle.level_merge.specs.JobValue.{AreAllWritten, JobValue, all_numbers, compaction}
use Rattle.level_merge.specs.SliceSteps.{AddsOutput, MayMakeAsMany, SliceMoves}
use Rattle.level_merge.specs.declared.fault.Sliced.TheVariants as sliced
use Rattle.manifest_model.proofs.Rows.{rows_keep}
use Rattle.manifest_model.specs.Laws.{IsVersion}
use Rattle.manifest_model.specs.Rows.{IsTableRow, extent_of}
use Rattle.manifest_model.specs.Version.{Version}
use Rattle.map_model.specs.SortedMap.{Bytes}
use Rattle.merge_rows.proofs.Begins.{walks_known}
use Rattle.merge_rows.specs.Steps.{AreWalksIn, stands}
use Rattle.state_model.proofs.Places.{entries_in_pages}
use Rattle.table_file.specs.Opened.{Opened}
use Rattle.table_model.specs.Written.{row_for, row_from}
use Rattle.store_core.specs.Compacting.{AreCompact}
use Rattle.store_core.specs.StoreValue.{rows_of}

-- it reads tables that are there, and its outputs are so
pub record IsCompacting (v : Version) (tables : List Opened) (m : JobValue) (free : Taken) : Type 0 where
  pub numbers : AreWalksIn tables (stands m.merge.walks)
  pub written : AreAllWritten m
  pub output : m.output ≡ 6
  pub each : AllByRecursion IsTableRow m.outputs
  pub deepest : AllByRecursion (λ (row : Row). row.level ≡ 6) m.outputs
  pub pages : free.pages ≡ v.pages
  pub extents : IsPermutation free.extents (map extent_of (v.rows ++ m.outputs))
  pub laid : AreLaid v.pages (map extent_of (v.rows ++ m.outputs))
  pub few : length m.outputs + m.beside < 1024

-- ---- a row

row_of_table : (level first : ℕ) (settings : Settings) (entries : List Entry) (filter_bytes : Bytes) → level ≤ 6 → IsTable entries → IsTableRow (row_for level first settings entries filter_bytes)
unfolding row_from
row_of_table level first settings entries filter_bytes small table = record {
  level = small;
  data_pages = omega (arith, table.some, entries_in_pages entries);
  index_pages = refl;
  filter_pages = refl;
  entries = table.some;
}

level_of_row : (level first : ℕ) (settings : Settings) (entries : List Entry) (filter_bytes : Bytes) → (row_for level first settings entries filter_bytes).level ≡ level
unfolding row_from
level_of_row level first settings entries filter_bytes = refl

-- ---- it begins

many_numbers : (n : ℕ) → length (all_numbers n) ≡ n
many_numbers zero = refl
many_numbers (suc n) = ap suc (many_numbers n)

pub compacting_begun : (v : Version) (tables : List Opened) (memory : List Entry) (settings : Settings) (free : Taken) → IsVersion v → rows_of tables ≡ v.rows → free.pages ≡ v.pages
    → IsPermutation (map extent_of (v.rows ++ [])) free.extents → IsCompacting v tables (compaction memory settings tables) free
compacting_begun v tables memory settings free is rows pages same =
    let which = all_numbers (length tables) in
    let many : length tables ≡ length v.rows = sym (length-map tables (λ (t : Opened). t.row)) ∙ ap (λ (rs : List Row). length rs) rows in
    record {
      numbers = walks_known which tables [] (numbers_below (length tables) (length tables) (omega arith));
      written = refl;
      output = refl;
      each = tt;
      deepest = tt;
      pages = pages;
      extents = IsPermutation-sym (map extent_of (v.rows ++ [])) free.extents same;
      laid = subst (λ (rs : List Row). AreLaid v.pages (map extent_of rs)) (sym (append-nil v.rows)) (rows_keep.kept v is.placed).laid;
      few = omega (arith, many_numbers (length tables), many, is.few_tables);
    }

-- ---- and goes on

pairs_push : {A : Type 0} (R : A → A → Type 0) (xs : List A) (y : A) → AllByRecursion (λ (x : A). R x y) xs → Pairs R xs → Pairs R (xs ++ y ∷ [])
pairs_push R [] y last pairs = (tt, tt)
pairs_push R (x ∷ xs) y last pairs = (all_push (R x) xs y pairs.0 last.0, pairs_push R xs y last.1 pairs.1)
  where
    all_push : {A : Type 0} (P : A → Type 0) (xs : List A) (y : A) → AllByRecursion P xs → P y → AllByRecursion P (xs ++ y ∷ [])
    all_push P [] y all here = (here, tt)
    all_push P (x ∷ xs) y all here = (all.0, all_push P xs y all.1 here)

pub all_push : {A : Type 0} (P : A → Type 0) (xs : List A) (y : A) → AllByRecursion P xs → P y → AllByRecursion P (xs ++ y ∷ [])
all_push P [] y all here = (here, tt)
all_push P (x ∷ xs) y all here = (all.0, all_push P xs y all.1 here)

pub all_permuted : {A : Type 0} (P : A → Type 0) (xs ys : List A) → IsPermutation xs ys → AllByRecursion P xs → AllByRecursion P ys
all_permuted P xs ys same all = recursion_from_All P ys (All-permutation P xs ys same (All-from_recursion P xs all))

flipped : (e : Extent) (xs : List Extent) → AllByRecursion (AreApart e) xs → AllByRecursion (λ (x : Extent). AreApart x e) xs
flipped e [] all = tt
flipped e (x ∷ xs) all = (apart_mutual e x all.0, flipped e xs all.1)

-- the extents with one row more
more_extents : (rows outputs : List Row) (row : Row) → map extent_of (rows ++ (outputs ++ row ∷ [])) ≡ map extent_of (rows ++ outputs) ++ extent_of row ∷ []
more_extents rows outputs row = ap (map extent_of) (sym (append_assoc rows outputs (row ∷ []))) ∙ map-append extent_of (rows ++ outputs) (row ∷ [])

module _ (spelling : Spelling) (built_cutoff : ℕ → List Leaf → ℕ) (v : Version) (tables : List Opened) (old new : JobValue) (free taken : Taken) (before after : World) (on : IsCompacting v tables old free)
    (same_stands : stands new.merge.walks ≡ stands old.merge.walks) (same_output : new.output ≡ old.output) where
  -- what is so of its outputs, however many more may come
  pub record GoesOnSo : Type 0 where
    pub each : AllByRecursion IsTableRow new.outputs
    pub deepest : AllByRecursion (λ (row : Row). row.level ≡ 6) new.outputs
    pub pages : taken.pages ≡ v.pages
    pub extents : IsPermutation taken.extents (map extent_of (v.rows ++ new.outputs))
    pub laid : AreLaid v.pages (map extent_of (v.rows ++ new.outputs))

  added : (row : Row) → AddsOutput spelling built_cutoff old new free taken row → GoesOnSo
  added row adds =
      let apart = all_permuted (AreApart (extent_of row)) free.extents (map extent_of (v.rows ++ old.outputs)) on.extents adds.apart in
      let level_is : row.level ≡ 6 = ap (λ (r : Row). r.level) adds.row_of.row_is ∙ level_of_row old.output row.first_page old.settings adds.row_of.entries _ ∙ on.output in
      let one : IsTableRow row = subst IsTableRow (sym adds.row_of.row_is) (row_of_table old.output row.first_page old.settings adds.row_of.entries _ (omega (arith, on.output)) adds.row_of.table) in
      let all = map extent_of (v.rows ++ old.outputs) in
      record {
        each = subst (AllByRecursion IsTableRow) (sym adds.outputs) (all_push IsTableRow old.outputs row on.each one);
        deepest = subst (AllByRecursion (λ (r : Row). r.level ≡ 6)) (sym adds.outputs) (all_push (λ (r : Row). r.level ≡ 6) old.outputs row on.deepest level_is);
        pages = adds.pages ∙ on.pages;
        extents = subst (λ (rs : List Row). IsPermutation taken.extents (map extent_of (v.rows ++ rs))) (sym adds.outputs)
            (subst (IsPermutation taken.extents) (sym (more_extents v.rows old.outputs row))
            (IsPermutation-trans taken.extents (extent_of row ∷ free.extents) (all ++ extent_of row ∷ []) (IsPermutation-sym (extent_of row ∷ free.extents) taken.extents adds.extents)
            (IsPermutation-trans (extent_of row ∷ free.extents) (extent_of row ∷ all) (all ++ extent_of row ∷ []) (IsPermutation-cons (extent_of row) free.extents all on.extents)
            (IsPermutation-sym (all ++ extent_of row ∷ []) (extent_of row ∷ all) (IsPermutation-to_front all (extent_of row))))));
        laid = subst (λ (rs : List Row). AreLaid v.pages (map extent_of (v.rows ++ rs))) (sym adds.outputs)
            (subst (AreLaid v.pages) (sym (more_extents v.rows old.outputs row)) (record {
              on_device = all_push (IsOnDevice v.pages) all (extent_of row) on.laid.on_device (subst (λ (n : ℕ). IsOnDevice n (extent_of row)) on.pages adds.on_device);
              apart = all_pairs AreApart (all ++ extent_of row ∷ []) (pairs_push AreApart all (extent_of row) (flipped (extent_of row) all apart) (pairs_of AreApart all on.laid.apart));
            }));
      }

  pub outputs_so : SliceMoves spelling built_cutoff old new free taken before after → GoesOnSo
  outputs_so (inl is) = let outputs = is.0 in let same = is.1 in record {
    each = subst (AllByRecursion IsTableRow) (sym outputs) on.each;
    deepest = subst (AllByRecursion (λ (r : Row). r.level ≡ 6)) (sym outputs) on.deepest;
    pages = ap (λ (t : Taken). t.pages) same ∙ on.pages;
    extents = subst (λ (rs : List Row). IsPermutation taken.extents (map extent_of (v.rows ++ rs))) (sym outputs)
        (subst (λ (t : Taken). IsPermutation t.extents (map extent_of (v.rows ++ old.outputs))) (sym same) on.extents);
    laid = subst (λ (rs : List Row). AreLaid v.pages (map extent_of (v.rows ++ rs))) (sym outputs) on.laid;
  }
  outputs_so (inr is) = added is.0 is.2

  -- more is left
  pub compacting_more : SliceMoves spelling built_cutoff old new free taken before after → MayMakeAsMany old new sliced.Working → AreAllWritten new → IsCompacting v tables new taken
  compacting_more moves within written =
      let so = outputs_so moves in
      record {
        numbers = subst (AreWalksIn tables) (sym same_stands) on.numbers;
        written = written;
        output = same_output ∙ on.output;
        each = so.each;
        deepest = so.deepest;
        pages = so.pages;
        extents = so.extents;
        laid = so.laid;
        few = omega (arith, within, on.few);
      }

  -- nothing is left
  pub compacted_rows : SliceMoves spelling built_cutoff old new free taken before after → MayMakeAsMany old new sliced.Ready → AreAllWritten new → AreCompact v (rows_of new.made)
  compacted_rows moves within written =
      let so = outputs_so moves in
      subst (AreCompact v) written (record { few = omega (arith, within, on.few); each = so.each; deepest = so.deepest; laid = so.laid })
