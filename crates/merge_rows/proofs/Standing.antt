-- A merge of tables that are on a device.
use Rattle.std.proofs.Common.{◌≡◌, ℕ, List, [], ◌∷◌, refl, sym, ap, ap₂, ◌∙◌, subst, Bool, true, false, cond, map}
use Rattle.std.specs.Prelude.{Option, Some, None, bytes_eq}
use Rattle.std.specs.List.{AllByRecursion}
use Rattle.std.proofs.lemmas.Bool.{false≢true}
use Rattle.std.proofs.lemmas.Slice.Eq.{bytes_eq-Decides}
use Rattle.block_model.specs.Laws.{joined}
use Rattle.key_base.specs.ByteOrder.{is_before}
use Rattle.block_model.specs.Order.{Follow, is_any}
use Rattle.disk_trait.specs.Image.{Image}
use Rattle.entry_model.specs.Entries.{Entry, keys_of}
use Rattle.entry_model.specs.Newest.{ComesBehind, KeysRise, entries_from, lookup}
use Rattle.entry_model.proofs.Newest.{above_lower, one_list}
use Rattle.filter_api.specs.Spellings.{Spelling}
use Rattle.map_model.specs.SortedMap.{Bytes, byte_order}
use Rattle.table_file.proofs.Stands.{each_some}
use Rattle.merge_rows.specs.Laws.{MergesAreWhole, NumberedStand, memory_entries}
use Rattle.merge_rows.specs.Merges.{TableWalk, blocks_in, left_above, memory_from, numbered, walk_at, walk_left, with_hand}
use Rattle.merge_rows.specs.Rows.{KeyFloor, above_floor, clears, merged_rows, rows_shown}
use Rattle.merge_rows.specs.Steps.{AreSoundWalks, IsSoundWalk}
use Rattle.merge_rows.proofs.Keys.{less_of}
use Rattle.merge_rows.proofs.Merged.{cut, merged_rises, merged_says, said_by, said_cut, said_kept}
use Rattle.table_file.specs.Laws.{StandingBlocks, StandingWalks}
use Rattle.table_file.specs.Opened.{Opened}
use Rattle.table_file.specs.Search.{StandsThere}
use Rattle.table_file.specs.Walks.{to_come, walk_from}

-- ---- lists that are cut

abbrev Clear : KeyFloor → List Entry → Type 0
Clear floor entries = AllByRecursion (λ (e : Entry). clears floor e.key ≡ true) entries

cut_clears : (floor : KeyFloor) (entries : List Entry) → Clear floor (above_floor floor entries)
cut_clears floor [] = tt
cut_clears floor (e ∷ later) = elim (clears floor e.key) as (λ t. clears floor e.key ≡ t → Clear floor (cond t (e ∷ above_floor floor later) (above_floor floor later))) [
  | true ↦ λ so. (so, cut_clears floor later)
  | false ↦ λ _. cut_clears floor later
] refl

cut_again : (floor : KeyFloor) (entries : List Entry) → Clear floor entries → above_floor floor entries ≡ entries
cut_again floor [] clear = refl
cut_again floor (e ∷ later) clear =
    ap (λ (t : Bool). cond t (e ∷ above_floor floor later) (above_floor floor later)) clear.0 ∙ ap (λ (l : List Entry). e ∷ l) (cut_again floor later clear.1)

above_cut : (floor : KeyFloor) (low : Bytes) (entries : List Entry) → AllByRecursion (ComesBehind low) entries → AllByRecursion (ComesBehind low) (above_floor floor entries)
above_cut floor low [] above = tt
above_cut floor low (e ∷ later) above = elim (clears floor e.key) as (λ t. AllByRecursion (ComesBehind low) (cond t (e ∷ above_floor floor later) (above_floor floor later))) [
  | true ↦ (above.0, above_cut floor low later above.1)
  | false ↦ above_cut floor low later above.1
]

rises_cut : (floor : KeyFloor) (entries : List Entry) → KeysRise entries → KeysRise (above_floor floor entries)
rises_cut floor [] rises = tt
rises_cut floor (e ∷ later) rises = elim (clears floor e.key) as (λ t. KeysRise (cond t (e ∷ above_floor floor later) (above_floor floor later))) [
  | true ↦ (above_cut floor e.key later rises.0, rises_cut floor later rises.1)
  | false ↦ rises_cut floor later rises.1
]

lookup_kept : (floor : KeyFloor) (key : Bytes) (entries : List Entry) → clears floor key ≡ true → lookup (above_floor floor entries) key ≡ lookup entries key
lookup_kept floor key [] clear = refl
lookup_kept floor key (e ∷ later) clear =
    let rest = lookup_kept floor key later clear in
    elim (clears floor e.key) as (λ t. clears floor e.key ≡ t → lookup (cond t (e ∷ above_floor floor later) (above_floor floor later)) key ≡ cond (bytes_eq e.key key) (Some e.value) (lookup later key)) [
      | true ↦ λ _. ap (cond (bytes_eq e.key key) (Some e.value)) rest
      | false ↦ λ not_so. elim (bytes_eq e.key key) as (λ t. bytes_eq e.key key ≡ t → lookup (above_floor floor later) key ≡ cond t (Some e.value) (lookup later key)) [
        | true ↦ λ here. let same : e.key ≡ key = (bytes_eq-Decides e.key key).0 here in absurd (false≢true (sym not_so ∙ ap (clears floor) same ∙ clear))
        | false ↦ λ _. rest
      ] refl
    ] refl

lookup_cut : (floor : KeyFloor) (key : Bytes) (entries : List Entry) → clears floor key ≡ false → lookup (above_floor floor entries) key ≡ None
lookup_cut floor key [] not_so = refl
lookup_cut floor key (e ∷ later) not_so =
    let rest = lookup_cut floor key later not_so in
    elim (clears floor e.key) as (λ t. clears floor e.key ≡ t → lookup (cond t (e ∷ above_floor floor later) (above_floor floor later)) key ≡ None) [
      | true ↦ λ so. elim (bytes_eq e.key key) as (λ t. bytes_eq e.key key ≡ t → cond t (Some e.value) (lookup (above_floor floor later) key) ≡ None) [
        | true ↦ λ here. let same : e.key ≡ key = (bytes_eq-Decides e.key key).0 here in absurd (false≢true (sym not_so ∙ ap (clears floor) (sym same) ∙ so))
        | false ↦ λ _. rest
      ] refl
      | false ↦ λ _. rest
    ] refl

-- the rows of what is above a floor are the rows above it
merged_cut : (floor : KeyFloor) (sources : List (List Entry)) → merged_rows (cut floor sources) ≡ above_floor floor (merged_rows sources)
merged_cut floor sources = one_list (merged_rows (cut floor sources)) (above_floor floor (merged_rows sources)) (merged_rises (cut floor sources)) (rises_cut floor (merged_rows sources) (merged_rises sources))
    (λ key. merged_says (cut floor sources) key ∙ elim (clears floor key) as (λ t. clears floor key ≡ t → said_of key) [
      | true ↦ λ so. said_kept floor key sources so ∙ sym (merged_says sources key) ∙ sym (lookup_kept floor key (merged_rows sources) so)
      | false ↦ λ not_so. said_cut floor key sources not_so ∙ sym (lookup_cut floor key (merged_rows sources) not_so)
    ] refl)
  where
    said_of : Bytes → Type 0
    said_of key = said_by (cut floor sources) key ≡ lookup (above_floor floor (merged_rows sources)) key

-- ---- a table that is there

follow_above : (low : Bytes) (entries : List Entry) → Follow (is_before low) (keys_of entries) → AllByRecursion (ComesBehind low) entries × KeysRise entries
follow_above low [] follow = (tt, tt)
follow_above low (e ∷ later) follow =
    let less = less_of (byte_order low e.key) follow.0 in
    let rest = follow_above e.key later follow.1 in
    ((less, above_lower low e.key later less rest.0), rest)

follow_rises : (entries : List Entry) → Follow is_any (keys_of entries) → KeysRise entries
follow_rises [] follow = tt
follow_rises (e ∷ later) follow = (follow_above e.key later follow.1)

abbrev floor_at : Bytes → KeyFloor
floor_at low = record { key = low; passed = false }

module _ (blocks_law : StandingBlocks) (walks_law : StandingWalks) (spelling : Spelling) (tables : List Opened) (image : Image) (low : Bytes) where
  abbrev source : ℕ → TableWalk
  source number = record { number = number; walk = walk_at (numbered tables number) low }

  abbrev Stand : ℕ → List (List Entry) → Type 0
  Stand number blocks = (t : Opened) × (numbered tables number ≡ Some t) × StandsThere spelling t blocks image

  left : (number : ℕ) (blocks : List (List Entry)) → Stand number blocks → walk_left tables image (source number) ≡ entries_from (joined blocks) low
  left number blocks stand =
      let t = stand.0 in
      ap (λ (o : Option Opened). with_hand (walk_at o low).now (to_come (walk_at o low) (blocks_in o image))) stand.1
      ∙ ap (to_come (walk_from t low)) (blocks_law spelling t blocks image stand.2).on_device
      ∙ (walks_law spelling t blocks image stand.2).all low

  sound : (number : ℕ) (blocks : List (List Entry)) → Stand number blocks → IsSoundWalk (floor_at low) (walk_at (numbered tables number) low) (blocks_in (numbered tables number) image)
  sound number blocks stand =
      let t = stand.0 in
      let whole = walks_law spelling t blocks image stand.2 in
      let on_device = (blocks_law spelling t blocks image stand.2).on_device in
      let rising = follow_rises (joined blocks) stand.2.at.table.rising in
      subst (λ (o : Option Opened). IsSoundWalk (floor_at low) (walk_at o low) (blocks_in o image)) (sym stand.1)
      (subst (IsSoundWalk (floor_at low) (walk_from t low)) (sym on_device) (record {
        rises = subst KeysRise (sym (whole.all low)) (rises_cut (floor_at low) (joined blocks) rising);
        clear = subst (Clear (floor_at low)) (sym (whole.all low)) (cut_clears (floor_at low) (joined blocks));
        some = each_some spelling t blocks image stand.2;
        begins = whole.begins low;
      }))

  all_sound : (which : List ℕ) (blocks : List (List (List Entry))) → NumberedStand spelling tables image which blocks → AreSoundWalks (floor_at low) tables image (map source which)
  all_sound [] [] stand = tt
  all_sound [] (b ∷ blocks) stand = absurd stand
  all_sound (number ∷ which) [] stand = absurd stand
  all_sound (number ∷ which) (b ∷ blocks) stand = (sound number b stand.0, all_sound which blocks stand.1)

  all_left : (which : List ℕ) (blocks : List (List (List Entry))) → NumberedStand spelling tables image which blocks
      → map (left_above (floor_at low) tables image) (map source which) ≡ cut (floor_at low) (map (λ (b : List (List Entry)). joined b) blocks)
  all_left [] [] stand = refl
  all_left [] (b ∷ blocks) stand = absurd stand
  all_left (number ∷ which) [] stand = absurd stand
  all_left (number ∷ which) (b ∷ blocks) stand =
      ap₂ (λ (l : List Entry) (ls : List (List Entry)). l ∷ ls)
      (ap (above_floor (floor_at low)) (left number b stand.0) ∙ cut_again (floor_at low) (above_floor (floor_at low) (joined b)) (cut_clears (floor_at low) (joined b)))
      (all_left which blocks stand.1)

  memory_left : (memory : Option (List Entry)) → above_floor (floor_at low) (memory_from memory low) ≡ above_floor (floor_at low) (memory_entries memory)
  memory_left None = refl
  memory_left (Some entries) = cut_again (floor_at low) (above_floor (floor_at low) entries) (cut_clears (floor_at low) entries)

  memory_rises : (memory : Option (List Entry)) → KeysRise (memory_entries memory) → KeysRise (memory_from memory low)
  memory_rises None rises = tt
  memory_rises (Some entries) rises = rises_cut (floor_at low) entries rises

  pub whole : (which : List ℕ) (blocks : List (List (List Entry))) (memory : Option (List Entry)) (drops : Bool) → NumberedStand spelling tables image which blocks
      → KeysRise (memory_entries memory) → MergesAreWhole which tables memory low drops image blocks
  whole which blocks memory drops stand rises = record {
    sound = record { memory = memory_rises memory rises; walks = all_sound which blocks stand };
    rows = ap (λ (ls : List (List Entry)). rows_shown drops (merged_rows ls)) (ap₂ (λ (l : List Entry) (ls : List (List Entry)). l ∷ ls) (memory_left memory) (all_left which blocks stand))
        ∙ ap (rows_shown drops) (merged_cut (floor_at low) (memory_entries memory ∷ map (λ (b : List (List Entry)). joined b) blocks));
  }
