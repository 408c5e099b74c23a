-- The rows that are not hidden are the entries that the changes make.
use Rattle.std.proofs.Common.{◌≡◌, List, [], ◌∷◌, refl, sym, ap, ◌∙◌, subst, Bool, true, false, cond, not}
use Rattle.std.specs.Prelude.{◌||◌, Option, Some, None, bytes_eq, filter}
use Rattle.std.specs.List.{AllByRecursion}
use Rattle.std.specs.Option.{option_or}
use Rattle.std.proofs.lemmas.List.Sums.{fold-append}
use Rattle.std.proofs.lemmas.Slice.Eq.{bytes_eq-Decides}
use Rattle.map_model.specs.SortedMap.{Bytes}
use Rattle.entry_model.specs.Entries.{Entry, live, newest}
use Rattle.entry_model.specs.Newest.{ComesBehind, KeysRise, with_entry, newest_entries, lookup}
use Rattle.range_model.specs.Ranges.{covers}
use Rattle.range_model.specs.Sources.{Source, IsSource, changes_in, cleared, empty_source, first_said, shown, source_of, with_change}
use Rattle.range_model.specs.Hiding.{unless_said, is_hidden, oldest_changes, oldest_entries, in_sight}
use Rattle.range_model.specs.Laws.{PairsInSight, RowsInSight}
use Rattle.entry_model.proofs.Newest.{lookup_after, none_above, one_list, rises_after}
use Rattle.range_model.proofs.Sources.{or_none}
use Rattle.range_model.proofs.Shown.{merge_shows, merge_rises}

-- what is left of entries by a test of their keys
lookup_filtered : (test : Bytes → Bool) (entries : List Entry) (key : Bytes) → lookup (filter (λ (e : Entry). not (test e.key)) entries) key ≡ cond (test key) None (lookup entries key)
lookup_filtered test [] key = elim (test key) as (λ t. lookup [] key ≡ cond t None (lookup [] key)) [ true ↦ refl | false ↦ refl ]
lookup_filtered test (entry ∷ more) key =
    let rest = filter (λ (e : Entry). not (test e.key)) more in
    elim (bytes_eq entry.key key) as (λ b. bytes_eq entry.key key ≡ b → lookup (cond (not (test entry.key)) (entry ∷ rest) rest) key ≡ cond (test key) None (cond b (Some entry.value) (lookup more key))) [
      | true ↦ λ here. let at : test entry.key ≡ test key = ap test ((bytes_eq-Decides entry.key key).0 here) in
          ap (λ (t : Bool). lookup (cond (not t) (entry ∷ rest) rest) key) at
          ∙ elim (test key) as (λ t. test key ≡ t → lookup (cond (not t) (entry ∷ rest) rest) key ≡ cond t None (Some entry.value)) [
            | true ↦ λ e. lookup_filtered test more key ∙ ap (λ (t : Bool). cond t None (lookup more key)) e
            | false ↦ λ _. ap (λ (t : Bool). cond t (Some entry.value) (lookup rest key)) here
          ] refl
      | false ↦ λ other. elim (test entry.key) as (λ t. lookup (cond (not t) (entry ∷ rest) rest) key ≡ cond (test key) None (lookup more key)) [
        | true ↦ lookup_filtered test more key
        | false ↦ ap (λ (t : Bool). cond t (Some entry.value) (lookup rest key)) other ∙ lookup_filtered test more key
      ]
    ] refl

above_filtered : (test : Bytes → Bool) (low : Bytes) (entries : List Entry) → AllByRecursion (ComesBehind low) entries → AllByRecursion (ComesBehind low) (filter (λ (e : Entry). not (test e.key)) entries)
above_filtered test low [] above = tt
above_filtered test low (entry ∷ more) above = elim (test entry.key) as (λ t. AllByRecursion (ComesBehind low) (cond (not t) (entry ∷ filter (λ (e : Entry). not (test e.key)) more) (filter (λ (e : Entry). not (test e.key)) more))) [
  | true ↦ above_filtered test low more above.1
  | false ↦ (above.0, above_filtered test low more above.1)
]

rises_filtered : (test : Bytes → Bool) (entries : List Entry) → KeysRise entries → KeysRise (filter (λ (e : Entry). not (test e.key)) entries)
rises_filtered test [] rises = tt
rises_filtered test (entry ∷ more) rises = elim (test entry.key) as (λ t. KeysRise (cond (not t) (entry ∷ filter (λ (e : Entry). not (test e.key)) more) (filter (λ (e : Entry). not (test e.key)) more))) [
  | true ↦ rises_filtered test more rises.1
  | false ↦ (above_filtered test entry.key more rises.0, rises_filtered test more rises.1)
]

-- ---- what the changes leave of a key

abbrev shows : List Source → Bytes → Option (Option Bytes)
shows [] key = None
shows (s ∷ older) key = shown s key (shows older key)

lookup_sources : (sources : List Source) (key : Bytes) → AllByRecursion IsSource sources → lookup (source_of (oldest_changes sources)).entries key ≡ shows sources key
lookup_sources [] key all = refl
lookup_sources (s ∷ older) key all =
    ap (λ (x : Source). lookup x.entries key) (fold-append with_change empty_source (oldest_changes older) (changes_in s))
    ∙ merge_shows (source_of (oldest_changes older)) s key all.0
    ∙ ap (shown s key) (lookup_sources older key all.1)

-- ---- what the rows say of it

newest_rising : (entries : List Entry) (key : Bytes) → KeysRise entries → newest entries key ≡ lookup entries key
newest_rising [] key rises = refl
newest_rising (entry ∷ more) key rises = elim (bytes_eq entry.key key) as (λ t. bytes_eq entry.key key ≡ t → option_or (newest more key) (cond t (Some entry.value) None) ≡ cond t (Some entry.value) (lookup more key)) [
  | true ↦ λ e. ap (λ (o : Option (Option Bytes)). option_or o (Some entry.value))
      (newest_rising more key rises.1 ∙ none_above key more (subst (λ (k : Bytes). AllByRecursion (ComesBehind k) more) ((bytes_eq-Decides entry.key key).0 e) rises.0))
  | false ↦ λ _. or_none (newest more key) ∙ newest_rising more key rises.1
] refl

abbrev rows_of : List Source → List Entry
rows_of sources = newest_entries (oldest_entries sources)

row_said : (s : Source) (older : List Source) (key : Bytes) → KeysRise s.entries → lookup (rows_of (s ∷ older)) key ≡ option_or (lookup s.entries key) (lookup (rows_of older) key)
row_said s older key rises =
    ap (λ (l : List Entry). lookup l key) (fold-append with_entry [] (oldest_entries older) s.entries)
    ∙ lookup_after (rows_of older) s.entries key
    ∙ ap (λ (o : Option (Option Bytes)). option_or o (lookup (rows_of older) key)) (newest_rising s.entries key rises)

hides_so : (found : Option (Option Bytes)) (c h : Bool) (rows : Option (Option Bytes)) → cond (unless_said found (c || h)) None (option_or found rows) ≡ option_or found (cond c None (cond h None rows))
hides_so (Some value) c h rows = refl
hides_so None true h rows = refl
hides_so None false h rows = refl

shows_in_sight : (sources : List Source) (key : Bytes) → AllByRecursion IsSource sources → cond (is_hidden sources key) None (lookup (rows_of sources) key) ≡ shows sources key
shows_in_sight [] key all = refl
shows_in_sight (s ∷ older) key all =
    ap (λ (o : Option (Option Bytes)). cond (is_hidden (s ∷ older) key) None o) (row_said s older key all.0.rises)
    ∙ hides_so (lookup s.entries key) (covers s.ranges key) (is_hidden older key) (lookup (rows_of older) key)
    ∙ ap (shown s key) (shows_in_sight older key all.1)

pub rows_in_sight : RowsInSight
rows_in_sight sources all =
    one_list (source_of (oldest_changes sources)).entries (in_sight sources (rows_of sources))
    (merge_rises empty_source (oldest_changes sources) tt)
    (rises_filtered (is_hidden sources) (rows_of sources) (rises_after [] (oldest_entries sources) tt))
    (λ key. lookup_sources sources key all ∙ sym (lookup_filtered (is_hidden sources) (rows_of sources) key ∙ shows_in_sight sources key all))

-- ---- of any sources whose keys rise

abbrev Rise : Source → Type 0
Rise s = KeysRise s.entries

rising_in_sight : (sources : List Source) (key : Bytes) → AllByRecursion Rise sources → cond (is_hidden sources key) None (lookup (rows_of sources) key) ≡ shows sources key
rising_in_sight [] key all = refl
rising_in_sight (s ∷ older) key all =
    ap (λ (o : Option (Option Bytes)). cond (is_hidden (s ∷ older) key) None o) (row_said s older key all.0)
    ∙ hides_so (lookup s.entries key) (covers s.ranges key) (is_hidden older key) (lookup (rows_of older) key)
    ∙ ap (shown s key) (rising_in_sight older key all.1)

lives : (found : Option (Option Bytes)) (c : Bool) (one other : Option (Option Bytes)) → live one ≡ live other → live (option_or found (cond c None one)) ≡ live (option_or (option_or found (cleared c)) other)
lives (Some value) c one other same = refl
lives None true one other same = refl
lives None false one other same = same

shows_live : (sources : List Source) (key : Bytes) → live (shows sources key) ≡ live (first_said sources key)
shows_live [] key = refl
shows_live (s ∷ older) key = lives (lookup s.entries key) (covers s.ranges key) (shows older key) (first_said older key) (shows_live older key)

pub pairs_in_sight : PairsInSight
pairs_in_sight sources key all = ap live (lookup_filtered (is_hidden sources) (rows_of sources) key ∙ rising_in_sight sources key all) ∙ shows_live sources key
