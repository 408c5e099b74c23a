-- A merge of tables that are on a device, as it begins.
use Rattle.std.proofs.Common.{◌≡◌, ◌∙◌, ℕ, zero, suc, ◌+◌, ◌-◌, ◌<◌, ◌≤◌, Bool, true, false, cond, not, List, [], ◌∷◌, ◌++◌, length, map, refl, sym, ap, ap₂, subst, arith}
use Rattle.std.specs.Prelude.{◌||◌, Option, Some, None, nat_lt, slice_get}
use Rattle.std.specs.List.{AllByRecursion, list_any, position_or_len, prefix_len, sum_by}
use Rattle.std.specs.Option.{option_or}
use Rattle.std.proofs.lemmas.List.{append-nil}
use Rattle.std.proofs.lemmas.List.Sums.{sum_by-cons}
use Rattle.block_model.specs.Index.{IndexRow}
use Rattle.block_model.specs.Laws.{joined}
use Rattle.block_model.specs.Order.{is_from}
use Rattle.disk_trait.specs.Image.{Image}
use Rattle.entry_model.specs.Entries.{Entry, newest}
use Rattle.entry_model.specs.Newest.{KeysRise, entries_from, newest_entries}
use Rattle.entry_model.proofs.Newest.{lookup_newest, one_list}
use Rattle.filter_api.specs.Spellings.{Spelling}
use Rattle.filter_api.specs.declared.settings.Settings.{Settings}
use Rattle.key_base.specs.ByteOrder.{is_before}
use Rattle.level_merge.specs.FollowLaws.{BegunFollows, CompactionMakes, MergeBegins}
use Rattle.store_search.specs.TablesAgree.{TableAgrees, TablesAgree}
use Rattle.level_merge.specs.Making.{OutputsLeft}
use Rattle.level_merge.specs.JobValue.{all_numbers, begun, compaction, merge_of, outputs_with}
use Rattle.level_merge.specs.Plans.{numbered}
use Rattle.level_merge.proofs.Flushed.{all_later}
use Rattle.level_merge.proofs.OutputLists.{none_built}
use Rattle.map_model.specs.SortedMap.{Bytes}
use Rattle.range_model.specs.Sources.{Source}
use Rattle.merge_rows.specs.Laws.{NumberedStand, StandingMerges, memory_entries}
use Rattle.merge_rows.specs.Merges.{merge_from, row_count, rows_left, walk_at}
use Rattle.merge_rows.specs.Reads.{blocks_left, blocks_left_in}
use Rattle.merge_rows.specs.Rows.{merged_rows}
use Rattle.merge_rows.specs.Steps.{numbers}
use Rattle.merge_rows.proofs.Merged.{merged_rises, merged_says, said_by}
use Rattle.state_model.specs.Changes.{live_entries}
use Rattle.state_model.specs.Merges.{is_deepest, lasting, outputs_for, outputs_of}
use Rattle.state_model.specs.View.{memory}
use Rattle.state_model.specs.WithoutRanges.{HasNoRange, table_entries}
use Rattle.state_model.proofs.Sayings.{newest-append, newest_again, newest_entries_rise, source_sound}
use Rattle.state_model.proofs.WithoutRanges.{live_alone, memory_alone, planned_alone}
use Rattle.table_file.specs.Laws.{StandingBlocks}
use Rattle.table_file.specs.Opened.{Opened}
use Rattle.table_model.specs.Tables.{Table}

-- ---- rows

never_before : (key : Bytes) → is_before key [] ≡ false
never_before [] = refl
never_before (b ∷ key) = refl

entries_from_all : (entries : List Entry) → entries_from entries [] ≡ entries
entries_from_all [] = refl
entries_from_all (e ∷ more) =
    ap (λ (t : Bool). cond (not t) (e ∷ entries_from more []) (entries_from more [])) (never_before e.key) ∙ ap (λ (es : List Entry). e ∷ es) (entries_from_all more)

-- the entries of each of some tables
abbrev lists_of : List Table → List (List Entry)
lists_of tables = map (λ (t : Table). t.entries) tables

-- of each key they say what all of their entries say
said_backwards : (tables : List Table) (key : Bytes) → newest (table_entries tables) key ≡ said_by (lists_of tables) key
said_backwards [] key = refl
said_backwards (t ∷ older) key = newest-append (table_entries older) t.entries key ∙ ap (option_or (newest t.entries key)) (said_backwards older key)

merged_is : (entries : List Entry) (tables : List Table) → merged_rows (entries ∷ lists_of tables) ≡ newest_entries (table_entries tables ++ entries)
merged_is entries tables =
    one_list (merged_rows (entries ∷ lists_of tables)) (newest_entries (table_entries tables ++ entries)) (merged_rises (entries ∷ lists_of tables))
    (newest_entries_rise (table_entries tables ++ entries))
    (λ key. merged_says (entries ∷ lists_of tables) key
    ∙ sym (lookup_newest (table_entries tables ++ entries) key ∙ newest-append (table_entries tables) entries key ∙ ap (option_or (newest entries key)) (said_backwards tables key)))

-- the newest of some entries, in the place of them all
newest_of_newest : (older log : List Entry) → newest_entries (older ++ newest_entries log) ≡ newest_entries (older ++ log)
newest_of_newest older log =
    one_list (newest_entries (older ++ newest_entries log)) (newest_entries (older ++ log)) (newest_entries_rise (older ++ newest_entries log)) (newest_entries_rise (older ++ log))
    (λ key. lookup_newest (older ++ newest_entries log) key ∙ newest-append older (newest_entries log) key
    ∙ ap (λ (o : Option (Option Bytes)). option_or o (newest older key)) (newest_again log key)
    ∙ sym (lookup_newest (older ++ log) key ∙ newest-append older log key))

-- ---- tables by their numbers

as_many : (spelling : Spelling) (opened : List Opened) (tables : List Table) (image : Image) → TablesAgree spelling opened tables image → length opened ≡ length tables
as_many spelling [] [] image held = refl
as_many spelling [] (t ∷ tables) image held = absurd held
as_many spelling (o ∷ opened) [] image held = absurd held
as_many spelling (o ∷ opened) (t ∷ tables) image held = ap suc (as_many spelling opened tables image held.1)

-- the open table of a state's table
abbrev OpenOf : Spelling → Image → Option Opened → Table → Type 0
OpenOf spelling image opened t = (o : Opened) × (opened ≡ Some o) × TableAgrees spelling o t image

some_is : (t u : Table) → Some t ≡ Some u → t ≡ u
some_is t u same = cc

open_at : (spelling : Spelling) (opened : List Opened) (tables : List Table) (image : Image) (place : ℕ) (t : Table) → TablesAgree spelling opened tables image
    → slice_get tables place ≡ Some t → OpenOf spelling image (slice_get opened place) t
open_at spelling [] [] image place t held there = absurd cc
open_at spelling [] (u ∷ tables) image place t held there = absurd held
open_at spelling (o ∷ opened) [] image place t held there = absurd held
open_at spelling (o ∷ opened) (u ∷ tables) image zero t held there = (o, refl, subst (λ (v : Table). TableAgrees spelling o v image) (some_is u t there) held.0)
open_at spelling (o ∷ opened) (u ∷ tables) image (suc place) t held there = open_at spelling opened tables image place t held.1 there

module _ (spelling : Spelling) (opened : List Opened) (tables : List Table) (image : Image) (held : TablesAgree spelling opened tables image) where
  open_numbered : (number : ℕ) (t : Table) → numbered tables number ≡ Some t → OpenOf spelling image (numbered opened number) t
  open_numbered number t there =
      open_at spelling opened tables image (length opened - 1 - number) t held
      (subst (λ (n : ℕ). slice_get tables (n - 1 - number) ≡ Some t) (sym (as_many spelling opened tables image held)) there)

  -- the blocks of the tables of some numbers
  record StandWith (which : List ℕ) (inputs : List Table) : Type 0 where
    blocks : List (List (List Entry))
    stand : NumberedStand spelling opened image which blocks
    entries : map (λ (b : List (List Entry)). joined b) blocks ≡ lists_of inputs

  first_named : (number : ℕ) (which : List ℕ) (t : Table) (inputs : List Table) → map (numbered tables) (number ∷ which) ≡ map (λ (t : Table). Some t) (t ∷ inputs)
      → (numbered tables number ≡ Some t) × (map (numbered tables) which ≡ map (λ (t : Table). Some t) inputs)
  first_named number which t inputs same = (cc, cc)

  all_stand : (which : List ℕ) (inputs : List Table) → map (numbered tables) which ≡ map (λ (t : Table). Some t) inputs → StandWith which inputs
  all_stand [] [] same = record { blocks = []; stand = tt; entries = refl }
  all_stand [] (t ∷ inputs) same = absurd cc
  all_stand (number ∷ which) [] same = absurd cc
  all_stand (number ∷ which) (t ∷ inputs) same =
      let both = first_named number which t inputs same in
      let here = open_numbered number t both.0 in
      let rest = all_stand which inputs both.1 in
      record {
        blocks = here.2.blocks ∷ rest.blocks;
        stand = ((here.0, here.1, here.2.stands), rest.stand);
        entries = ap₂ (λ (x : List Entry) (l : List (List Entry)). x ∷ l) (sym (ap (λ (u : Table). u.entries) here.2.table_is)) rest.entries;
      }

  -- ---- what it makes

  pub begins : StandingMerges → (settings : Settings) (inputs : List Table) (which : List ℕ) (entries : Option (List Entry)) (output : ℕ) (drops : Bool)
      → map (numbered tables) which ≡ map (λ (t : Table). Some t) inputs → KeysRise (memory_entries entries)
      → OutputsLeft spelling opened image (merge_of which entries output drops settings opened)
      (outputs_of (length which - 1) (lasting drops (newest_entries (table_entries inputs ++ memory_entries entries)))) []
  begins merges settings inputs which entries output drops same rise =
      let stand = all_stand which inputs same in
      let whole = merges spelling opened image which stand.blocks entries [] false stand.stand rise in
      let rows : rows_left (merge_from which opened entries [] false) opened image ≡ newest_entries (table_entries inputs ++ memory_entries entries) =
      whole.rows ∙ entries_from_all (merged_rows (memory_entries entries ∷ map (λ (b : List (List Entry)). joined b) stand.blocks))
      ∙ ap (λ (lists : List (List Entry)). merged_rows (memory_entries entries ∷ lists)) stand.entries ∙ merged_is (memory_entries entries) inputs in
      record {
        sound = whole.sound;
        left_are = ap (λ (l : List Entry). outputs_with (length which - 1) [] (lasting drops l)) rows
            ∙ none_built (length which - 1) (lasting drops (newest_entries (table_entries inputs ++ memory_entries entries)));
        rows = refl;
        made_are = tt;
      }

  -- ---- what it reads

  numbers_are : (which : List ℕ) (low : Bytes) → numbers (map (λ (number : ℕ). record { number = number; walk = walk_at (numbered opened number) low }) which) ≡ which
  numbers_are [] low = refl
  numbers_are (number ∷ which) low = ap (λ (l : List ℕ). number ∷ l) (numbers_are which low)

  -- a walk from the empty key begins at the first block
  first_block : (rows : List IndexRow) → position_or_len (λ (row : IndexRow). is_from [] row.last) rows ≡ 0
  first_block [] = refl
  first_block (row ∷ more) = ap (λ (t : Bool). cond (not t) (1 + prefix_len (λ (r : IndexRow). not (is_from [] r.last)) more) 0) (from_all row.last)
    where
      from_all : (key : Bytes) → is_from [] key ≡ true
      from_all [] = refl
      from_all (b ∷ key) = refl

  module _ (standing : StandingBlocks) where
    one_read : (number : ℕ) (t : Table) → numbered tables number ≡ Some t → row_count (numbered opened number) - (walk_at (numbered opened number) []).block ≡ t.blocks
    one_read number t there =
        let here = open_numbered number t there in
        let many : length here.0.index.rows ≡ length here.2.blocks = (standing spelling here.0 here.2.blocks image here.2.stands).many in
        let blocks : t.blocks ≡ length here.2.blocks = ap (λ (u : Table). u.blocks) here.2.table_is in
        ap (λ (o : Option Opened). row_count o - (walk_at o []).block) here.1
        ∙ ap (λ (n : ℕ). length here.0.index.rows - n) (first_block here.0.index.rows)
        ∙ all_of (length here.0.index.rows) ∙ many ∙ sym blocks
      where
        all_of : (n : ℕ) → n - 0 ≡ n
        all_of n = omega arith

    all_read : (which : List ℕ) (inputs : List Table) → map (numbered tables) which ≡ map (λ (t : Table). Some t) inputs
        → blocks_left opened (map (λ (number : ℕ). record { number = number; walk = walk_at (numbered opened number) [] }) which) ≡ sum_by (λ (t : Table). t.blocks) inputs
    all_read [] [] same = refl
    all_read [] (t ∷ inputs) same = absurd cc
    all_read (number ∷ which) [] same = absurd cc
    all_read (number ∷ which) (t ∷ inputs) same =
        let both = first_named number which t inputs same in
        sum_by-cons (blocks_left_in opened) (record { number = number; walk = walk_at (numbered opened number) [] }) (map (λ (n : ℕ). record { number = n; walk = walk_at (numbered opened n) [] }) which)
        ∙ ap₂ (λ (m n : ℕ). m + n) (one_read number t both.0) (all_read which inputs both.1)
        ∙ sym (sum_by-cons (λ (u : Table). u.blocks) t inputs)

-- ---- a plan

-- where no table has a range, none of some numbers has one
none_at : (tables : List Table) (place : ℕ) (t : Table) → AllByRecursion HasNoRange tables → slice_get tables place ≡ Some t → HasNoRange t
none_at [] place t none there = absurd cc
none_at (u ∷ tables) zero t none there = subst HasNoRange (some_is u t there) none.0
none_at (u ∷ tables) (suc place) t none there = none_at tables place t none.1 there

none_named : (tables : List Table) (which : List ℕ) (inputs : List Table) → AllByRecursion HasNoRange tables → map (numbered tables) which ≡ map (λ (t : Table). Some t) inputs
    → AllByRecursion HasNoRange inputs
none_named tables [] [] none same = tt
none_named tables [] (t ∷ inputs) none same = absurd cc
none_named tables (number ∷ which) [] none same = absurd cc
none_named tables (number ∷ which) (t ∷ inputs) none same =
    let here : numbered tables number ≡ Some t = cc in
    let rest : map (numbered tables) which ≡ map (λ (t : Table). Some t) inputs = cc in
    (none_at tables (length tables - 1 - number) t none here, none_named tables which inputs none rest)

same_length : {A B C : Type 0} (f : A → C) (g : B → C) (xs : List A) (ys : List B) → map f xs ≡ map g ys → length xs ≡ length ys
same_length f g [] [] same = refl
same_length f g [] (y ∷ ys) same = absurd cc
same_length f g (x ∷ xs) [] same = absurd cc
same_length f g (x ∷ xs) (y ∷ ys) same = let rest : map f xs ≡ map g ys = cc in ap suc (same_length f g xs ys rest)

many_named : (tables : List Table) (which : List ℕ) (inputs : List Table) → map (numbered tables) which ≡ map (λ (t : Table). Some t) inputs → length which ≡ length inputs
many_named tables which inputs same = same_length (λ (n : ℕ). numbered tables n) (λ (t : Table). Some t) which inputs same

deepest_held : (spelling : Spelling) (opened : List Opened) (tables : List Table) (image : Image) (level : ℕ) → TablesAgree spelling opened tables image
    → list_any (λ (t : Opened). nat_lt level t.row.level) opened ≡ list_any (λ (t : Table). nat_lt level t.level) tables
deepest_held spelling [] [] image level held = refl
deepest_held spelling [] (t ∷ tables) image level held = absurd held
deepest_held spelling (o ∷ opened) [] image level held = absurd held
deepest_held spelling (o ∷ opened) (t ∷ tables) image level held =
    ap₂ (λ (a b : Bool). a || b) (ap (λ (n : ℕ). nat_lt level n) (sym (ap (λ (u : Table). u.level) held.0.table_is))) (deepest_held spelling opened tables image level held.1)

pub merge_begins : StandingMerges → MergeBegins
merge_begins merges spelling settings opened tables inputs image which entries output drops held same rise =
    begins spelling opened tables image held merges settings inputs which entries output drops same rise

pub begun_follows : StandingMerges → StandingBlocks → BegunFollows
begun_follows merges standing spelling s opened image p plan held none may is =
    let drops = not (list_any (λ (t : Opened). nat_lt p.output t.row.level) opened) in
    let made = begins spelling opened s.tables image held merges s.settings plan.inputs p.inputs None p.output drops is.0 tt in
    let deepest : drops ≡ is_deepest s.tables plan.output =
    ap not (deepest_held spelling opened s.tables image p.output held ∙ ap (λ (n : ℕ). list_any (λ (t : Table). nat_lt n t.level) s.tables) is.1) in
    let outputs = outputs_for plan.inputs (lasting (is_deepest s.tables plan.output) (newest_entries (table_entries plan.inputs))) in
    let left : outputs_of (length p.inputs - 1) (lasting drops (newest_entries (table_entries plan.inputs ++ []))) ≡ outputs =
    ap₂ (λ (n : ℕ) (es : List Entry). outputs_of (n - 1) (lasting drops (newest_entries es))) (many_named s.tables p.inputs plan.inputs is.0) (append-nil (table_entries plan.inputs))
    ∙ ap (λ (d : Bool). outputs_of (length plan.inputs - 1) (lasting d (newest_entries (table_entries plan.inputs)))) deepest in
    record {
      settings = refl;
      inputs = ap (map (numbered s.tables)) (numbers_are spelling opened s.tables image held p.inputs []) ∙ is.0;
      output = is.1;
      to_read = all_read spelling opened s.tables image held standing p.inputs plan.inputs is.0;
      left = outputs;
      left_are = planned_alone s.tables plan (none_named s.tables p.inputs plan.inputs none is.0);
      makes = subst (λ (outputs : List (List Entry)). OutputsLeft spelling opened image (begun p s.settings opened) outputs []) left made;
    }

-- ---- all tables

pub numbers_below : (n m : ℕ) → n ≤ m → AllByRecursion (λ number. number < m) (all_numbers n)
numbers_below zero m le = tt
numbers_below (suc n) m le = (omega (arith, le), numbers_below n m (omega (arith, le)))

all_named : (tables : List Table) → map (numbered tables) (all_numbers (length tables)) ≡ map (λ (t : Table). Some t) tables
all_named [] = refl
all_named (t ∷ tables) =
    let place : length (t ∷ tables) - 1 - length tables ≡ 0 = omega arith in
    ap₂ (λ (o : Option Table) (l : List (Option Table)). o ∷ l) (ap (slice_get (t ∷ tables)) place)
    (all_later t tables (all_numbers (length tables)) (numbers_below (length tables) (length tables) (omega arith)) ∙ all_named tables)

pub compaction_makes : StandingMerges → CompactionMakes
compaction_makes merges spelling s entries opened image only held =
    let many = as_many spelling opened s.tables image held in
    let named = subst (λ (n : ℕ). map (numbered s.tables) (all_numbers n) ≡ map (λ (t : Table). Some t) s.tables) (sym many) (all_named s.tables) in
    let made = begins spelling opened s.tables image held merges s.settings s.tables (all_numbers (length opened)) (Some (memory s)) 6 true named (source_sound s.log).rises in
    let live : newest_entries (table_entries s.tables ++ memory s) ≡ newest_entries (table_entries s.tables ++ entries) =
    ap (λ (source : Source). newest_entries (table_entries s.tables ++ source.entries)) (memory_alone s entries only) ∙ newest_of_newest (table_entries s.tables) entries in
    let left : outputs_of (length (all_numbers (length opened)) - 1) (lasting true (newest_entries (table_entries s.tables ++ memory s))) ≡ outputs_for s.tables (live_entries s) =
    ap₂ (λ (n : ℕ) (es : List Entry). outputs_of (n - 1) (lasting true es)) (many_named s.tables (all_numbers (length opened)) s.tables named) live
    ∙ ap (outputs_for s.tables) (sym (live_alone s entries only)) in
    subst (λ (outputs : List (List Entry)). OutputsLeft spelling opened image (compaction (memory s) s.settings opened) outputs []) left made
