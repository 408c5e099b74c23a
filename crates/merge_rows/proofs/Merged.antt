-- The rows of sources: what they say of a key, and the first of them.
use Rattle.std.proofs.Common.{◌≡◌, ℕ, zero, suc, List, [], ◌∷◌, ◌++◌, refl, sym, ap, ◌∙◌, subst, Bool, true, false, cond, map}
use Rattle.std.specs.Prelude.{Option, Some, None, bytes_eq, reverse, fold}
use Rattle.std.specs.Option.{option_or}
use Rattle.std.specs.List.{AllByRecursion}
use Rattle.std.proofs.lemmas.List.{append-nil, reverse-append}
use Rattle.std.proofs.lemmas.List.Sums.{fold-append}
use Rattle.std.proofs.lemmas.Grind.{flat_map-append}
use Rattle.block_model.specs.Laws.{joined}
use Rattle.key_base.specs.ByteOrder.{IsBefore, is_before}
use Rattle.map_model.specs.SortedMap.{Bytes}
use Rattle.map_model.proofs.Maps.{by_order, equal_keys, less_of_greater, same_key}
use Rattle.entry_model.specs.Entries.{Entry, newest}
use Rattle.entry_model.specs.Newest.{ComesBehind, KeysRise, lookup, newest_entries, with_entry}
use Rattle.entry_model.proofs.Newest.{above_apart, above_lower, above_with, below_apart, lookup_after, one_list, rises_after}
use Rattle.merge_rows.specs.Choosing.{IsHeadAbove, IsHeadFrom, IsLeastAt}
use Rattle.merge_rows.specs.Rows.{KeyFloor, above_floor, clears, merged_rows}
use Rattle.merge_rows.proofs.Keys.{all_above, before_from, before_then, clears_later, is_before_of, newest_above, newest_cut, newest_kept, not_before_back}
use Rattle.table_file.specs.Walks.{first_of}

-- ---- the newest source over the rows of the older ones

pub merged_first : (source : List Entry) (older : List (List Entry)) → merged_rows (source ∷ older) ≡ fold with_entry (merged_rows older) source
merged_first source older = ap (λ (l : List (List Entry)). newest_entries (joined l)) (reverse-append (source ∷ []) older)
    ∙ ap newest_entries (flat_map-append (λ (block : List Entry). block) (reverse older) (source ∷ []) ∙ ap (λ (l : List Entry). joined (reverse older) ++ l) (append-nil source))
    ∙ fold-append with_entry [] (joined (reverse older)) source

-- what the sources say of a key, the first that has it
abbrev pub said_by : List (List Entry) → Bytes → Option (Option Bytes)
said_by [] key = None
said_by (source ∷ older) key = option_or (newest source key) (said_by older key)

pub merged_says : (sources : List (List Entry)) (key : Bytes) → lookup (merged_rows sources) key ≡ said_by sources key
merged_says [] key = refl
merged_says (source ∷ older) key = ap (λ (l : List Entry). lookup l key) (merged_first source older)
    ∙ lookup_after (merged_rows older) source key
    ∙ ap (option_or (newest source key)) (merged_says older key)

pub merged_rises : (sources : List (List Entry)) → KeysRise (merged_rows sources)
merged_rises sources = rises_after [] (joined (reverse sources)) tt

above_folded : (low : Bytes) (start source : List Entry) → AllByRecursion (ComesBehind low) start → AllByRecursion (ComesBehind low) source → AllByRecursion (ComesBehind low) (fold with_entry start source)
above_folded low start [] above all = above
above_folded low start (entry ∷ later) above all = above_folded low (with_entry start entry) later (above_with low start entry all.0 above) all.1

pub merged_above : (low : Bytes) (sources : List (List Entry)) → AllByRecursion (AllByRecursion (ComesBehind low)) sources → AllByRecursion (ComesBehind low) (merged_rows sources)
merged_above low [] all = tt
merged_above low (source ∷ older) all =
    subst (AllByRecursion (ComesBehind low)) (sym (merged_first source older)) (above_folded low (merged_rows older) source (merged_above low older all.1) all.0)

-- ---- cut at a floor

abbrev pub cut : KeyFloor → List (List Entry) → List (List Entry)
cut floor sources = map (above_floor floor) sources

pub said_kept : (floor : KeyFloor) (key : Bytes) (sources : List (List Entry)) → clears floor key ≡ true → said_by (cut floor sources) key ≡ said_by sources key
said_kept floor key [] clear = refl
said_kept floor key (source ∷ older) clear =
    ap (λ (o : Option (Option Bytes)). option_or o (said_by (cut floor older) key)) (newest_kept floor key source clear)
    ∙ ap (option_or (newest source key)) (said_kept floor key older clear)

pub said_cut : (floor : KeyFloor) (key : Bytes) (sources : List (List Entry)) → clears floor key ≡ false → said_by (cut floor sources) key ≡ None
said_cut floor key [] not_so = refl
said_cut floor key (source ∷ older) not_so =
    ap (λ (o : Option (Option Bytes)). option_or o (said_by (cut floor older) key)) (newest_cut floor key source not_so)
    ∙ said_cut floor key older not_so

all_cut : (floor : KeyFloor) (low : Bytes) (sources : List (List Entry)) → floor ≡ record { key = low; passed = true } → AllByRecursion (AllByRecursion (ComesBehind low)) (cut floor sources)
all_cut floor low [] is = tt
all_cut floor low (source ∷ older) is = (all_above floor low source is, all_cut floor low older is)

-- ---- the first row

abbrev pub AllRise : List (List Entry) → Type 0
AllRise sources = AllByRecursion KeysRise sources

-- a source whose first key is above one says nothing of it
above_head : (key : Bytes) (source : List Entry) → KeysRise source → IsHeadAbove key (first_of source) → AllByRecursion (ComesBehind key) source
above_head key [] rises above = tt
above_head key (entry ∷ later) rises above = (above, above_lower key entry.key later above rises.0)

head_from : (low key : Bytes) (head : Option Entry) → IsBefore low key → IsHeadFrom key head → IsHeadAbove low head
head_from low key None less from = tt
head_from low key (Some e) less from = before_from low key e.key less from

head_above : (low key : Bytes) (head : Option Entry) → IsBefore low key → IsHeadAbove key head → IsHeadAbove low head
head_above low key None less above = tt
head_above low key (Some e) less above = before_then low key e.key less above

is_head : (source : List Entry) (e : Entry) → first_of source ≡ Some e → (later : List Entry) × (source ≡ e ∷ later)
is_head [] e is = let none : None ≡ Some e = is in absurd cc
is_head (entry ∷ later) e is = let same : entry ≡ e = cc in (later, ap (λ (x : Entry). x ∷ later) same)

-- of its key the sources say what the first row says
first_says : (source : List Entry) (e : Entry) (rest : Option (Option Bytes)) → KeysRise source → first_of source ≡ Some e → option_or (newest source e.key) rest ≡ Some e.value
first_says source e rest rises is =
    let split = is_head source e is in
    let above : AllByRecursion (ComesBehind e.key) split.0 = (subst KeysRise split.1 rises).0 in
    ap (λ (l : List Entry). option_or (newest l e.key) rest) split.1
    ∙ ap (λ (o : Option (Option Bytes)). option_or (option_or o (cond (bytes_eq e.key e.key) (Some e.value) None)) rest) (newest_above e.key split.0 above)
    ∙ ap (λ (t : Bool). option_or (cond t (Some e.value) None) rest) (same_key e.key)

pub least_says : (sources : List (List Entry)) (place : ℕ) (e : Entry) → AllRise sources → IsLeastAt (map first_of sources) place e → said_by sources e.key ≡ Some e.value
least_says [] place e rise least = absurd least
least_says (source ∷ older) zero e rise least = first_says source e (said_by older e.key) rise.0 least.0
least_says (source ∷ older) (suc place) e rise least =
    ap (λ (o : Option (Option Bytes)). option_or o (said_by older e.key)) (newest_above e.key source (above_head e.key source rise.0 least.0))
    ∙ least_says older place e rise.1 least.1

-- of the keys before it they say nothing
none_before : (key : Bytes) (source : List Entry) (rest : Option (Option Bytes)) → KeysRise source → IsHeadAbove key (first_of source) → rest ≡ None → option_or (newest source key) rest ≡ None
none_before key source rest rises above none =
    ap (λ (o : Option (Option Bytes)). option_or o rest) (newest_above key source (above_head key source rises above)) ∙ none

all_before : (key low : Bytes) (sources : List (List Entry)) → AllRise sources → IsBefore key low → AllByRecursion (IsHeadFrom low) (map first_of sources) → said_by sources key ≡ None
all_before key low [] rise less from = refl
all_before key low (source ∷ older) rise less from =
    none_before key source (said_by older key) rise.0 (head_from key low (first_of source) less from.0) (all_before key low older rise.1 less from.1)

pub none_said : (key : Bytes) (sources : List (List Entry)) (place : ℕ) (e : Entry) → AllRise sources → IsLeastAt (map first_of sources) place e → IsBefore key e.key → said_by sources key ≡ None
none_said key [] place e rise least less = absurd least
none_said key (source ∷ older) zero e rise least less =
    none_before key source (said_by older key) rise.0 (subst (IsHeadAbove key) (sym least.0) less) (all_before key e.key older rise.1 less least.1)
none_said key (source ∷ older) (suc place) e rise least less =
    none_before key source (said_by older key) rise.0 (head_above key e.key (first_of source) less least.0) (none_said key older place e rise.1 least.1 less)

-- The least of the entries at hand is the first row, and the rows after it are those above its key.
module _ (sources : List (List Entry)) (place : ℕ) (e : Entry) (floor next : KeyFloor) (rise : AllRise sources) (least : IsLeastAt (map first_of sources) place e)
    (clear : clears floor e.key ≡ true) (is : next ≡ record { key = e.key; passed = true }) where
  passes_above : (key : Bytes) → IsBefore e.key key → clears next key ≡ true
  passes_above key less = ap (λ (f : KeyFloor). clears f key) is ∙ is_before_of e.key key less

  passes_not : (key : Bytes) → is_before e.key key ≡ false → clears next key ≡ false
  passes_not key not_so = ap (λ (f : KeyFloor). clears f key) is ∙ not_so

  before_says : (key : Bytes) → IsBefore key e.key → said_by (cut floor sources) key ≡ None
  before_says key less = elim (clears floor key) as (λ t. clears floor key ≡ t → said_by (cut floor sources) key ≡ None) [
    | true ↦ λ so. said_kept floor key sources so ∙ none_said key sources place e rise least less
    | false ↦ λ not_so. said_cut floor key sources not_so
  ] refl

  both_say : (key : Bytes) → lookup (merged_rows (cut floor sources)) key ≡ lookup (e ∷ merged_rows (cut next sources)) key
  both_say key = merged_says (cut floor sources) key ∙ by_order (λ _. said_by (cut floor sources) key ≡ lookup (e ∷ merged_rows (cut next sources)) key) e.key key
      (λ less. said_kept floor key sources (clears_later floor e.key key clear less)
      ∙ sym (said_kept next key sources (passes_above key less))
      ∙ sym (merged_says (cut next sources) key)
      ∙ sym (ap (λ (t : Bool). cond t (Some e.value) (lookup (merged_rows (cut next sources)) key)) (below_apart e.key key less)))
      (λ equal. subst (λ (k : Bytes). said_by (cut floor sources) k ≡ lookup (e ∷ merged_rows (cut next sources)) k) (equal_keys e.key key equal)
      (said_kept floor e.key sources clear ∙ least_says sources place e rise least
      ∙ sym (ap (λ (t : Bool). cond t (Some e.value) (lookup (merged_rows (cut next sources)) e.key)) (same_key e.key))))
      (λ greater. let less : IsBefore key e.key = less_of_greater e.key key greater in
      before_says key less
      ∙ sym (said_cut next key sources (passes_not key (not_before_back key e.key less)))
      ∙ sym (merged_says (cut next sources) key)
      ∙ sym (ap (λ (t : Bool). cond t (Some e.value) (lookup (merged_rows (cut next sources)) key)) (above_apart key e.key less)))

  pub first_row : merged_rows (cut floor sources) ≡ e ∷ merged_rows (cut next sources)
  first_row = one_list (merged_rows (cut floor sources)) (e ∷ merged_rows (cut next sources)) (merged_rises (cut floor sources))
      (merged_above e.key (cut next sources) (all_cut next e.key sources is), merged_rises (cut next sources)) both_say

-- ---- no row

pub no_rows : (floor : KeyFloor) (sources : List (List Entry)) → AllByRecursion (λ (s : List Entry). s ≡ []) sources → merged_rows (cut floor sources) ≡ []
no_rows floor [] none = refl
no_rows floor (source ∷ older) none = merged_first (above_floor floor source) (cut floor older)
    ∙ ap (λ (s : List Entry). fold with_entry (merged_rows (cut floor older)) (above_floor floor s)) none.0
    ∙ no_rows floor older none.1
