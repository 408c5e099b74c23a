-- What a slice makes of a merge: rows that are taken, and an output that is closed.
use Rattle.std.proofs.Common.{◌≡◌, ◌≢◌, inl, inr, ◌∙◌, ℕ, zero, suc, ◌-◌, ◌*◌, ◌<◌, ◌≤◌, Bool, true, false, List, [], ◌∷◌, ◌++◌, length, map, refl, sym, ap, ap₂, subst, arith, append_assoc}
use Rattle.std.specs.Prelude.{◌==◌, IsTrue, Ok, Some, slice_get}
use Rattle.std.specs.List.{AllByRecursion}
use Rattle.std.specs.List.Sorted.{IsPermutation}
use Rattle.std.proofs.lemmas.Bool.{eqb-true, false≢true}
use Rattle.std.proofs.lemmas.List.{length_push, map-append}
use Rattle.std.proofs.lemmas.List.Elements.{recursion_from_All, All-from_recursion}
use Rattle.std.proofs.lemmas.List.Sorted.{All-permutation, IsPermutation-cons, IsPermutation-middle, IsPermutation-sym, IsPermutation-trans}
use Rattle.block_model.specs.Pages.{page_bytes}
use Rattle.block_model.specs.Places.{byte_of_page, pages_of}
use Rattle.byte_fields.specs.declared.parts.Row.{Row}
use Rattle.disk_trait.specs.Image.{Image, Torn}
use Rattle.disk_trait.specs.World.{Now, ReadMoves, Rose, World, WriteMoves}
use Rattle.disk_trait.proofs.Calls.{leads_around, reads_keep}
use Rattle.entry_model.specs.Entries.{Entry}
use Rattle.extent_map.specs.Taken.{Taken}
use Rattle.extent_model.specs.Extents.{AreApart, Extent}
use Rattle.extent_model.specs.Gaps.{first_gap}
use Rattle.filter_api.specs.Spellings.{Spelling}
use Rattle.filter_api.specs.declared.settings.Settings.{Settings}
use Rattle.filter_model.specs.Leaves.{Leaf}
use Rattle.store_search.specs.TablesAgree.{TableAgrees, TablesAgree}
use Rattle.level_merge.specs.Making.{AnswersProgress, AreTakenBy, GoesOn, IsMakeRefusal, OutputsLeft, SliceOf, merge_extents}
use Rattle.level_merge.specs.JobValue.{AreAllWritten, JobValue, is_full, outputs_left, outputs_with}
use Rattle.level_merge.specs.SliceSteps.{Closes, IsTakeFault, LooksOn, TakesRows, made_opened, made_table, need_of}
use Rattle.level_merge.specs.Outputs.{IsCloseFault, extent_at}
use Rattle.level_merge.specs.declared.fault.JobFault.{JobFault}
use Rattle.level_merge.specs.declared.fault.JobFault.TheVariants as fault
use Rattle.level_merge.specs.declared.fault.Sliced.{Sliced}
use Rattle.level_merge.specs.declared.fault.Sliced.TheVariants as sliced
use Rattle.level_merge.proofs.AllRead.{no_row_no_block}
use Rattle.level_merge.proofs.OtherImages.{outputs_same, sound_same}
use Rattle.level_merge.proofs.OutputLists.{built_is_left, full_output, no_row, none_built}
use Rattle.merge_rows.specs.Merges.{Merge, merged_left, rows_left}
use Rattle.merge_rows.specs.Reads.{OnlyReads, SomeBlock, blocks_left}
use Rattle.merge_rows.specs.Rows.{rows_shown}
use Rattle.merge_rows.specs.Steps.{IsSoundMerge, numbers, stand_of_walk}
use Rattle.state_model.specs.Merges.{lasting, outputs_of}
use Rattle.table_file.specs.Laws.{StandingBlocks}
use Rattle.table_file.specs.Opened.{Opened}
use Rattle.table_file.specs.Search.{IsGetFault}
use Rattle.table_file.specs.declared.fault.TableFault.TheVariants as table
use Rattle.table_model.proofs.Kept.{at_kept, kept_pieces, kept_ranges}
use Rattle.table_model.specs.Images.{table_with}
use Rattle.table_model.specs.Laws.{IsApartFromRow}
use Rattle.table_model.specs.Pieces.{index_of_pieces}
use Rattle.table_model.specs.Tables.{FilterBytes, Table, filter_bytes_of, table_of, table_pages}

-- ---- tables that are apart from what is written

module _ (spelling : Spelling) (at n : ℕ) (f g : Image) (torn : Torn at n f g) where
  one_kept : (opened : Opened) (t : Table) → IsApartFromRow at n opened.row → TableAgrees spelling opened t f → TableAgrees spelling opened t g
  one_kept opened t apart held = record {
    blocks = held.blocks;
    stands = record {
      at = at_kept spelling opened.row held.blocks at n f g apart torn held.stands.at;
      index_is = held.stands.index_is ∙ sym (ap₂ index_of_pieces (kept_pieces spelling opened.row held.blocks at n f g apart torn held.stands.at) (kept_ranges spelling opened.row held.blocks at n f g apart torn held.stands.at));
      hash_is = held.stands.hash_is;
      real_is = held.stands.real_is;
      leaves_are = held.stands.leaves_are;
    };
    table_is = held.table_is ∙ ap (table_with opened.row held.blocks) (sym (kept_ranges spelling opened.row held.blocks at n f g apart torn held.stands.at));
  }

  held_kept : (opened : List Opened) (tables : List Table) → AllByRecursion (λ (t : Opened). IsApartFromRow at n t.row) opened → TablesAgree spelling opened tables f
      → TablesAgree spelling opened tables g
  held_kept [] [] apart held = tt
  held_kept [] (t ∷ tables) apart held = absurd held
  held_kept (o ∷ opened) [] apart held = absurd held
  held_kept (o ∷ opened) (t ∷ tables) apart held = (one_kept o t apart.0 held.0, held_kept opened tables apart.1 held.1)

held_more : (spelling : Spelling) (opened : List Opened) (tables : List Table) (o : Opened) (t : Table) (image : Image) → TablesAgree spelling opened tables image
    → TableAgrees spelling o t image → TablesAgree spelling (opened ++ o ∷ []) (tables ++ t ∷ []) image
held_more spelling [] [] o t image held here = (here, tt)
held_more spelling [] (u ∷ tables) o t image held here = absurd held
held_more spelling (x ∷ opened) [] o t image held here = absurd held
held_more spelling (x ∷ opened) (u ∷ tables) o t image held here = (held.0, held_more spelling opened tables o t image held.1 here)

-- ---- extents

apart_row : (e : Extent) (row : Row) → AreApart e (extent_at row) → IsApartFromRow (byte_of_page e.0) (page_bytes * e.1) row
apart_row e row (inl before) = inr (omega (arith, before))
apart_row e row (inr behind) = inl (omega (arith, behind))

all_front : {X : Type 0} (P : X → Type 0) (xs ys : List X) → AllByRecursion P (xs ++ ys) → AllByRecursion P xs
all_front P [] ys all = tt
all_front P (x ∷ xs) ys all = (all.0, all_front P xs ys all.1)

all_behind : {X : Type 0} (P : X → Type 0) (xs ys : List X) → AllByRecursion P (xs ++ ys) → AllByRecursion P ys
all_behind P [] ys all = all
all_behind P (x ∷ xs) ys all = all_behind P xs ys all.1

apart_rows : (e : Extent) (opened : List Opened) → AllByRecursion (AreApart e) (map (λ (t : Opened). extent_at t.row) opened)
    → AllByRecursion (λ (t : Opened). IsApartFromRow (byte_of_page e.0) (page_bytes * e.1) t.row) opened
apart_rows e [] all = tt
apart_rows e (t ∷ opened) all = (apart_row e t.row all.0, apart_rows e opened all.1)

module _ (e : Extent) (opened made : List Opened) (others : List Extent) (free : Taken) (taken : AreTakenBy opened made others free) (apart : AllByRecursion (AreApart e) free.extents) where
  all_apart : AllByRecursion (AreApart e) (merge_extents opened made others)
  all_apart =
      recursion_from_All (AreApart e) (merge_extents opened made others)
      (All-permutation (AreApart e) free.extents (merge_extents opened made others) taken (All-from_recursion (AreApart e) free.extents apart))

  opened_apart : AllByRecursion (λ (t : Opened). IsApartFromRow (byte_of_page e.0) (page_bytes * e.1) t.row) opened
  opened_apart = apart_rows e opened (all_front (AreApart e) (map (λ (t : Opened). extent_at t.row) opened) (map (λ (t : Opened). extent_at t.row) made ++ others) all_apart)

  made_apart : AllByRecursion (λ (t : Opened). IsApartFromRow (byte_of_page e.0) (page_bytes * e.1) t.row) made
  made_apart =
      apart_rows e made
      (all_front (AreApart e) (map (λ (t : Opened). extent_at t.row) made) others
      (all_behind (AreApart e) (map (λ (t : Opened). extent_at t.row) opened) (map (λ (t : Opened). extent_at t.row) made ++ others) all_apart))

-- an extent more, after those of the tables that are made
one_taken : (e : Extent) (xs ys zs all extents : List Extent) → IsPermutation all (xs ++ (ys ++ zs)) → IsPermutation (e ∷ all) extents → IsPermutation extents (xs ++ ((ys ++ e ∷ []) ++ zs))
one_taken e xs ys zs all extents taken added =
    let here : (xs ++ ys) ++ e ∷ zs ≡ xs ++ ((ys ++ e ∷ []) ++ zs) = append_assoc xs ys (e ∷ zs) ∙ ap (λ (l : List Extent). xs ++ l) (sym (append_assoc ys (e ∷ []) zs)) in
    let front = IsPermutation-sym ((xs ++ ys) ++ e ∷ zs) (e ∷ ((xs ++ ys) ++ zs)) (IsPermutation-middle (xs ++ ys) e zs) in
    let first : IsPermutation (e ∷ all) (e ∷ ((xs ++ ys) ++ zs)) =
    IsPermutation-cons e all ((xs ++ ys) ++ zs) (subst (λ (l : List Extent). IsPermutation all l) (sym (append_assoc xs ys zs)) taken) in
    subst (λ (l : List Extent). IsPermutation extents l) here
    (IsPermutation-trans extents (e ∷ all) ((xs ++ ys) ++ e ∷ zs) (IsPermutation-sym (e ∷ all) extents added)
    (IsPermutation-trans (e ∷ all) (e ∷ ((xs ++ ys) ++ zs)) ((xs ++ ys) ++ e ∷ zs) first front))

-- ---- outputs

none_lasts : (drops : Bool) → lasting drops [] ≡ []
none_lasts true = refl
none_lasts false = refl

one_output : (built : List Entry) → 0 < length built → outputs_of zero built ≡ built ∷ []
one_output [] some = absurd (omega (arith, some))
one_output (e ∷ built) some = refl

none_of : (beside : ℕ) → outputs_of beside [] ≡ []
none_of zero = refl
none_of (suc beside) = refl

-- the length of a list that is empty or not
pub no_length : (built : List Entry) → (length built == 0) ≡ true → length built ≡ 0
no_length built empty = eqb-true (length built) 0 empty

pub none_of_length : (built : List Entry) → length built ≡ 0 → built ≡ []
none_of_length [] none = refl
none_of_length (e ∷ built) none = absurd (omega (arith, none))

pub some_length : (built : List Entry) → (length built == 0) ≡ false → 0 < length built
some_length [] some = absurd (false≢true (sym some))
some_length (e ∷ built) some = omega arith

-- ---- damage

-- no block of a table that is there is damaged
standing_at : (spelling : Spelling) (opened : List Opened) (tables : List Table) (image : Image) (place : ℕ) (t : Opened) → TablesAgree spelling opened tables image
    → slice_get opened place ≡ Some t → (u : Table) × TableAgrees spelling t u image
standing_at spelling [] tables image place t held there = absurd cc
standing_at spelling (o ∷ opened) [] image place t held there = absurd held
standing_at spelling (o ∷ opened) (u ∷ tables) image zero t held there = let same : o ≡ t = cc in (u, subst (λ (x : Opened). TableAgrees spelling x u image) same held.0)
standing_at spelling (o ∷ opened) (u ∷ tables) image (suc place) t held there = standing_at spelling opened tables image place t held.1 there

-- ---- rows were taken

module _ (standing : StandingBlocks) (spelling : Spelling) (built_cutoff : ℕ → List Leaf → ℕ) (opened : List Opened) (tables : List Table) (old mid : JobValue) (left : List (List Entry)) (made : List Table)
    (others : List Extent) (free : Taken) (before here : World) (tells : Bool) (is : IsTrue tells) (held : TablesAgree spelling opened tables before.seen.held)
    (makes : OutputsLeft spelling opened before.seen.held old left made) (taken : AreTakenBy opened old.made others free) (takes : TakesRows tells opened before.seen.held old mid)
    (reads : OnlyReads before here) where
  abbrev filter_bytes : FilterBytes
  filter_bytes = filter_bytes_of spelling built_cutoff

  settings_are : mid.settings ≡ old.settings
  settings_are = ap (λ (m : JobValue). m.settings) takes.rest

  made_is : mid.made ≡ old.made
  made_is = ap (λ (m : JobValue). m.made) takes.rest

  left_is : outputs_left mid opened before.seen.held ≡ left
  left_is = takes.left is makes.sound ∙ makes.left_are

  sound : IsSoundMerge mid.merge opened before.seen.held
  sound = takes.sources.sound is makes.sound

  written : AreAllWritten mid
  written = ap (λ (m : JobValue). m.outputs) takes.rest ∙ makes.rows ∙ sym (ap (λ (m : JobValue). map (λ (t : Opened). t.row) m.made) takes.rest)

  -- blocks alone were read
  pub waits : (said : Sliced) → AnswersProgress opened old mid left made made said → SliceOf spelling filter_bytes opened tables old mid left made others free free before here said
  waits said says = record {
    goes = record {
      later = left;
      now = made;
      one = inl (refl, refl, refl);
      read = takes.fewer;
      numbers_are = takes.sources.numbers_are;
      stands_are = takes.sources.stands_are;
      settings = settings_are;
      output = ap (λ (m : JobValue). m.output) takes.rest;
      makes = subst (λ (h : Image). OutputsLeft spelling opened h mid left made) (sym reads.1.held) (record {
        sound = sound;
        left_are = left_is;
        rows = written;
        made_are = subst (λ (m : JobValue). TablesAgree spelling m.made made before.seen.held) (sym takes.rest) makes.made_are;
      });
      held = subst (TablesAgree spelling opened tables) (sym reads.1.held) held;
      lasting = λ now. subst (λ (m : List Opened). Now (TablesAgree spelling m made) here) (sym made_is) (reads_keep (TablesAgree spelling old.made made) reads.0 before here reads.1 now);
      taken_are = subst (λ (m : List Opened). AreTakenBy opened m others free) (sym made_is) taken;
    };
    said = says;
  }

  -- no row is left
  module _ (whole : old.merge.drops ≡ false) (none : rows_left mid.merge opened before.seen.held ≡ []) where
    pub all_read : blocks_left opened mid.merge.walks ≡ 0
    all_read =
        no_row_no_block mid.merge opened before.seen.held sound
        (ap (λ (d : Bool). rows_shown d (merged_left mid.merge opened before.seen.held)) (sym (takes.sources.drops_are ∙ whole)) ∙ none)

    left_of_none : outputs_of zero mid.built ≡ left
    left_of_none =
        sym (ap (outputs_with mid.beside mid.built) (ap (lasting mid.drops) none ∙ none_lasts mid.drops) ∙ no_row mid.beside mid.built) ∙ left_is

    pub ready_with_none : length mid.built ≡ 0 → SliceOf spelling filter_bytes opened tables old mid left made others free free before here sliced.Ready
    ready_with_none empty = waits sliced.Ready (all_read, sym left_of_none ∙ no_output mid.built empty)
      where
        no_output : (built : List Entry) → length built ≡ 0 → outputs_of zero built ≡ []
        no_output [] empty = refl
        no_output (e ∷ built) empty = absurd (omega (arith, empty))

    -- and none comes after the one that is built
    pub nothing_next : [] ≡ outputs_of (mid.beside - 1) (lasting mid.drops (rows_left mid.merge opened before.seen.held))
    nothing_next = sym (ap (outputs_of (mid.beside - 1)) (ap (lasting mid.drops) none ∙ none_lasts mid.drops) ∙ none_of (mid.beside - 1))

    pub last_output : 0 < length mid.built → left ≡ mid.built ∷ []
    last_output some = sym left_of_none ∙ one_output mid.built some

  pub next_output : is_full mid.beside mid.built ≡ true → left ≡ mid.built ∷ outputs_of (mid.beside - 1) (lasting mid.drops (rows_left mid.merge opened before.seen.held))
  next_output full = sym left_is ∙ full_output mid.beside mid.built (lasting mid.drops (rows_left mid.merge opened before.seen.held)) full

  -- ---- and an output was closed

  module _ (later : List (List Entry)) (first : left ≡ mid.built ∷ later) where
    gap_need : need_of spelling built_cutoff mid ≡ table_pages filter_bytes old.settings mid.built
    gap_need = ap (λ (set : Settings). table_pages filter_bytes set mid.built) settings_are

    pub close_refused : (after : World) (why : JobFault) → IsCloseFault (need_of spelling built_cutoff mid) free here after why → IsMakeRefusal filter_bytes opened old left free before after why
    close_refused after fault.Memory fails = tt
    close_refused after (fault.Device cause) fails =
        inr (
          fails.0,
          (
            later,
            record {
              output = mid.built;
              page = fails.1.0;
              first = first;
              place = subst (λ (n : ℕ). first_gap free.pages free.extents n ≡ Some fails.1.0) gap_need fails.1.1;
            },
          ),
          subst (λ (n : ℕ). Rose n after.seen.write_faults) reads.1.write_faults fails.2,
        )
    close_refused after (fault.Damaged damage) fails = absurd fails
    close_refused after (fault.Full need gap) fails =
        (mid.built, later, first, fails.0 ∙ gap_need, fails.1, subst (λ (n : ℕ). gap < n) (sym fails.0) fails.2)

    module _ (new : JobValue) (extents : Taken) (row : Row) (after : World) (closes : Closes spelling built_cutoff mid new free extents row)
        (moves : WriteMoves (byte_of_page row.first_page) (page_bytes * pages_of row) here after)
        (stands : Now (TableAgrees spelling (made_opened built_cutoff mid row) (made_table spelling built_cutoff mid row.first_page)) after)
        (current : after.leaves after.moment after.seen.held) (next : later ≡ outputs_of (mid.beside - 1) (lasting mid.drops (rows_left mid.merge opened before.seen.held))) where
      abbrev new_table : Table
      new_table = table_of filter_bytes old.settings old.output row.first_page mid.built

      abbrev new_opened : Opened
      new_opened = made_opened built_cutoff mid row

      output_is : mid.output ≡ old.output
      output_is = ap (λ (m : JobValue). m.output) takes.rest

      new_stands : Now (TableAgrees spelling new_opened new_table) after
      new_stands =
          subst (λ (level : ℕ). Now (TableAgrees spelling new_opened (table_of filter_bytes old.settings level row.first_page mid.built)) after) output_is
          (subst (λ (set : Settings). Now (TableAgrees spelling new_opened (table_of filter_bytes set mid.output row.first_page mid.built)) after) settings_are stands)

      new_made : new.made ≡ old.made ++ new_opened ∷ []
      new_made = ap (λ (m : JobValue). m.made) closes.new_is ∙ ap (λ (m : List Opened). m ++ new_opened ∷ []) made_is

      new_settings : new.settings ≡ old.settings
      new_settings = ap (λ (m : JobValue). m.settings) closes.new_is ∙ settings_are

      torn : Torn (byte_of_page row.first_page) (page_bytes * pages_of row) before.seen.held after.seen.held
      torn = subst (λ (h : Image). Torn (byte_of_page row.first_page) (page_bytes * pages_of row) h after.seen.held) reads.1.held moves.torn

      tables_after : TablesAgree spelling opened tables after.seen.held
      tables_after =
          held_kept spelling (byte_of_page row.first_page) (page_bytes * pages_of row) before.seen.held after.seen.held torn opened tables
          (opened_apart (extent_at row) opened old.made others free taken closes.placed.apart) held

      made_after : TablesAgree spelling old.made made after.seen.held
      made_after =
          held_kept spelling (byte_of_page row.first_page) (page_bytes * pages_of row) before.seen.held after.seen.held torn old.made made
          (made_apart (extent_at row) opened old.made others free taken closes.placed.apart) makes.made_are

      all_after : TablesAgree spelling new.made (made ++ new_table ∷ []) after.seen.held
      all_after =
          subst (λ (m : List Opened). TablesAgree spelling m (made ++ new_table ∷ []) after.seen.held) (sym new_made)
          (held_more spelling old.made made new_opened new_table after.seen.held made_after (new_stands after.seen.held current))

      on_each : Now (TablesAgree spelling old.made made) before → Now (TablesAgree spelling new.made (made ++ new_table ∷ [])) after
      on_each now =
          let at = byte_of_page row.first_page in
          let n = page_bytes * pages_of row in
          let F = TablesAgree spelling old.made made in
          let R = TableAgrees spelling new_opened new_table in
          let keeps = λ (f g : Image) (there : F f) (cut : Torn at n f g).
          held_kept spelling at n f g cut old.made made (made_apart (extent_at row) opened old.made others free taken closes.placed.apart) there in
          let both = (leads_around {T = ℕ} {E = ℕ} F R at n (Ok 0) here after keeps moves.time new_stands).after (reads_keep F reads.0 before here reads.1 now) in
          λ image leaves. subst (λ (m : List Opened). TablesAgree spelling m (made ++ new_table ∷ []) image) (sym new_made)
          (held_more spelling old.made made new_opened new_table image (both image leaves).0 (both image leaves).1)

      later_is : outputs_left new opened before.seen.held ≡ later
      later_is =
          ap (λ (m : JobValue). outputs_left m opened before.seen.held) closes.new_is
          ∙ none_built (mid.beside - 1) (lasting mid.drops (rows_left mid.merge opened before.seen.held)) ∙ sym next

      new_sound : IsSoundMerge new.merge opened after.seen.held
      new_sound =
          subst (λ (m : JobValue). IsSoundMerge m.merge opened after.seen.held) (sym closes.new_is)
          (sound_same standing spelling before.seen.held after.seen.held opened tables held tables_after mid.merge sound)

      rows_are : AreAllWritten new
      rows_are =
          ap (λ (m : JobValue). m.outputs) closes.new_is ∙ ap (λ (rows : List Row). rows ++ row ∷ []) written
          ∙ sym (map-append (λ (t : Opened). t.row) mid.made (new_opened ∷ []))
          ∙ sym (ap (λ (m : JobValue). map (λ (t : Opened). t.row) m.made) closes.new_is)

      walks_are : new.merge ≡ mid.merge
      walks_are = ap (λ (m : JobValue). m.merge) closes.new_is

      pub makes_one : GoesOn spelling filter_bytes opened tables old new left made others free extents before after
      makes_one = record {
        later = later;
        now = made ++ new_table ∷ [];
        one = inr (record {
          placed = record {
            output = mid.built;
            page = row.first_page;
            first = first;
            place = subst (λ (n : ℕ). first_gap free.pages free.extents n ≡ Some row.first_page) gap_need closes.placed.place;
          };
          made_is = refl;
          extents = subst (λ (n : ℕ). IsPermutation ((row.first_page, n) ∷ free.extents) extents.extents) (closes.placed.pages_are ∙ gap_need) closes.placed.taken_is;
          pages = closes.placed.pages;
        });
        read = subst (λ (m : Merge). blocks_left opened m.walks ≤ blocks_left opened old.merge.walks) (sym walks_are) takes.fewer;
        numbers_are = ap (λ (m : Merge). numbers m.walks) walks_are ∙ takes.sources.numbers_are;
        stands_are = ap (λ (m : Merge). map stand_of_walk m.walks) walks_are ∙ takes.sources.stands_are;
        settings = new_settings;
        output = ap (λ (m : JobValue). m.output) closes.new_is ∙ output_is;
        makes = record {
          sound = new_sound;
          left_are = sym (outputs_same standing spelling before.seen.held after.seen.held opened tables held tables_after new) ∙ later_is;
          rows = rows_are;
          made_are = all_after;
        };
        held = tables_after;
        lasting = on_each;
        taken_are = subst (λ (m : List Opened). AreTakenBy opened m others extents) (sym new_made)
            (subst (λ (l : List Extent). IsPermutation extents.extents (map (λ (t : Opened). extent_at t.row) opened ++ (l ++ others)))
            (sym (map-append (λ (t : Opened). extent_at t.row) old.made (new_opened ∷ [])))
            (one_taken (extent_at row) (map (λ (t : Opened). extent_at t.row) opened) (map (λ (t : Opened). extent_at t.row) old.made) others free.extents extents.extents taken closes.placed.taken_is));
      }

      -- one more is made than before
      pub one_more : length made < length makes_one.now
      unfolding makes_one
      one_more = let more = length_push made new_table in omega (arith, more)

      pub ends : blocks_left opened mid.merge.walks ≡ 0 → later ≡ [] → SliceOf spelling filter_bytes opened tables old new left made others free extents before after sliced.Ready
      unfolding makes_one
      ends read none = record { goes = makes_one; said = (ap (λ (m : Merge). blocks_left opened m.walks) walks_are ∙ read, none) }

-- ---- rows were taken after an output that was closed

module _ (spelling : Spelling) (filter_bytes : FilterBytes) (opened : List Opened) (tables : List Table) (old mid new : JobValue) (left : List (List Entry)) (made : List Table)
    (others : List Extent) (free taken : Taken) (before here after : World) (tells : Bool) (is : IsTrue tells)
    (on : GoesOn spelling filter_bytes opened tables old mid left made others free taken before here) (longer : length made < length on.now)
    (takes : TakesRows tells opened here.seen.held mid new) (still : ReadMoves 0 here after) where
  still_made : new.made ≡ mid.made
  still_made = ap (λ (m : JobValue). m.made) takes.rest

  still_sound : IsSoundMerge new.merge opened here.seen.held
  still_sound = takes.sources.sound is on.makes.sound

  still_left : outputs_left new opened here.seen.held ≡ on.later
  still_left = takes.left is on.makes.sound ∙ on.makes.left_are

  goes_then : GoesOn spelling filter_bytes opened tables old new left made others free taken before after
  goes_then = record {
    later = on.later;
    now = on.now;
    one = on.one;
    read = let more = takes.fewer in let fewer = on.read in omega (arith, more, fewer);
    numbers_are = takes.sources.numbers_are ∙ on.numbers_are;
    stands_are = takes.sources.stands_are ∙ on.stands_are;
    settings = ap (λ (m : JobValue). m.settings) takes.rest ∙ on.settings;
    output = ap (λ (m : JobValue). m.output) takes.rest ∙ on.output;
    makes = subst (λ (h : Image). OutputsLeft spelling opened h new on.later on.now) (sym still.held) (record {
      sound = still_sound;
      left_are = still_left;
      rows = ap (λ (m : JobValue). m.outputs) takes.rest ∙ on.makes.rows ∙ sym (ap (λ (m : JobValue). map (λ (t : Opened). t.row) m.made) takes.rest);
      made_are = subst (λ (m : List Opened). TablesAgree spelling m on.now here.seen.held) (sym still_made) on.makes.made_are;
    });
    held = subst (TablesAgree spelling opened tables) (sym still.held) on.held;
    lasting = λ now. subst (λ (m : List Opened). Now (TablesAgree spelling m on.now) after) (sym still_made) (reads_keep (TablesAgree spelling mid.made on.now) 0 here after still (on.lasting now));
    taken_are = subst (λ (m : List Opened). AreTakenBy opened m others taken) (sym still_made) on.taken_are;
  }

  -- what was found after it is what is left
  pub looked_on : mid.merge.drops ≡ false → (said : Sliced) → LooksOn tells opened here.seen.held mid new said
      → SliceOf spelling filter_bytes opened tables old new left made others free taken before after said
  unfolding goes_then
  looked_on whole sliced.Working (inl some) = record { goes = goes_then; said = (inr longer, inl some) }
  looked_on whole sliced.Working (inr some) = record {
    goes = goes_then;
    said = (inr longer, inr (λ none. built_is_left new.beside new.built (lasting new.drops (rows_left new.merge opened here.seen.held)) some (still_left ∙ none)));
  }
  looked_on whole sliced.Ready none =
      let no_rows = none.1 is on.makes.sound in
      record {
        goes = goes_then;
        said = (
          no_row_no_block new.merge opened here.seen.held still_sound
              (ap (λ (d : Bool). rows_shown d (merged_left new.merge opened here.seen.held)) (sym (takes.sources.drops_are ∙ whole)) ∙ no_rows),
          sym still_left ∙ ap (outputs_with new.beside new.built) (ap (lasting new.drops) no_rows ∙ none_lasts new.drops) ∙ no_row new.beside new.built ∙ ap (outputs_of zero) none.0,
        );
      }

-- ---- rows could not be taken

module _ (standing : StandingBlocks) (spelling : Spelling) (filter_bytes : FilterBytes) (opened : List Opened) (tables : List Table) (old : JobValue) (left : List (List Entry)) (free : Taken) (before after : World)
    (tells : Bool) (is : IsTrue tells) (held : TablesAgree spelling opened tables before.seen.held) where
  never_damaged : (d : Rattle.byte_fields.specs.declared.parts.Damage.Damage) → (which : List ℕ) → SomeBlock opened which (λ t n. IsGetFault t n before.seen.held (table.Damaged d)) → ⊥
  never_damaged d which some =
      let here = standing_at spelling opened tables before.seen.held (length opened - 1 - some.0) some.2.0 held some.2.2 in
      let read = standing spelling some.2.0 here.1.blocks before.seen.held here.1.stands in
      read.no_damage some.2.1 (table.Damaged d) (let less = some.2.3 in let many = read.many in omega (arith, less, many)) some.2.4

  pub take_refused : (which : List ℕ) (why : JobFault) → IsTakeFault tells opened which before after why → (why ≢ fault.Memory → 1 ≤ blocks_left opened old.merge.walks) → IsMakeRefusal filter_bytes opened old left free before after why
  take_refused which fault.Memory fails met = tt
  take_refused which (fault.Device cause) fails met = inl (fails.0, met (λ same. absurd cc), fails.1)
  take_refused which (fault.Damaged d) fails met = never_damaged d which (fails.1 is)
  take_refused which (fault.Full need gap) fails met = absurd fails
