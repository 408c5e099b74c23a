-- What changes in the order of writing, and sources, say of a key.
use Rattle.std.proofs.Common.{◌≡◌, List, [], ◌∷◌, ◌++◌, refl, sym, ap, ap₂, ◌∙◌, subst, Bool, true, false, cond}
use Rattle.std.specs.Option.{option_or}
use Rattle.std.specs.Prelude.{Option, Some, None, bytes_eq, filter, map}
use Rattle.std.specs.List.{AllByRecursion}
use Rattle.std.proofs.lemmas.Slice.Eq.{bytes_eq-Decides}
use Rattle.std.proofs.lemmas.Bool.{false≢true}
use Rattle.std.specs.Ordering.{is_lt}
use Rattle.std.specs.declared.cmp.Ordering.{Ordering}
use Rattle.std.specs.declared.cmp.Ordering.TheVariants.{Less, Equal, Greater}
use Rattle.map_model.specs.SortedMap.{Bytes, byte_order}
use Rattle.entry_model.specs.Entries.{Entry, newest, live, keys_of}
use Rattle.entry_model.specs.Newest.{ComesBehind, KeysRise, newest_entries, lookup}
use Rattle.entry_model.proofs.Newest.{none_above, above_lower, rises_after, lookup_newest}
use Rattle.key_base.specs.ByteOrder.{is_before}
use Rattle.block_model.specs.Order.{Follow}
use Rattle.range_model.specs.Ranges.{covers}
use Rattle.range_model.specs.Sources.{Change, IsSource, Source, alone, changes_in, cleared, empty_source, first_said, last_said, says, source_of}
use Rattle.range_model.specs.Hiding.{oldest_changes}
use Rattle.range_model.proofs.Sources.{source_says}
use Rattle.range_model.proofs.Sound.{changes_say, said_both, source_is}
use Rattle.range_model.proofs.ChangedMaps.{empty_is}
use Rattle.table_model.specs.Tables.{Table}
use Rattle.state_model.specs.Merges.{has_value}
use Rattle.state_model.specs.View.{sources}

pub or_none : (found : Option (Option Bytes)) → option_or found None ≡ found
or_none None = refl
or_none (Some value) = refl

pub or_assoc : (a b c : Option (Option Bytes)) → option_or (option_or a b) c ≡ option_or a (option_or b c)
or_assoc None b c = refl
or_assoc (Some value) b c = refl

-- ---- entries in the order of writing

pub newest-append : (xs ys : List Entry) (key : Bytes) → newest (xs ++ ys) key ≡ option_or (newest ys key) (newest xs key)
newest-append [] ys key = sym (or_none (newest ys key))
newest-append (x ∷ xs) ys key = let own = cond (bytes_eq x.key key) (Some x.value) None in
    ap (λ (o : Option (Option Bytes)). option_or o own) (newest-append xs ys key) ∙ or_assoc (newest ys key) (newest xs key) own

-- where keys rise, the newest entry is the only one
pub newest_of_rising : (entries : List Entry) (key : Bytes) → KeysRise entries → newest entries key ≡ lookup entries key
newest_of_rising [] key rises = refl
newest_of_rising (entry ∷ later) key rises =
    ap (λ (o : Option (Option Bytes)). option_or o (cond (bytes_eq entry.key key) (Some entry.value) None)) (newest_of_rising later key rises.1)
    ∙ elim (bytes_eq entry.key key) as (λ t. bytes_eq entry.key key ≡ t → option_or (lookup later key) (cond t (Some entry.value) None) ≡ cond t (Some entry.value) (lookup later key)) [
      | true ↦ λ e. ap (λ (o : Option (Option Bytes)). option_or o (Some entry.value)) (subst (λ (k : Bytes). lookup later k ≡ None) ((bytes_eq-Decides entry.key key).0 e) (none_above entry.key later rises.0))
      | false ↦ λ e. or_none (lookup later key)
    ] refl

pub newest_entries_rise : (entries : List Entry) → KeysRise (newest_entries entries)
newest_entries_rise entries = rises_after [] entries tt

-- the newest entries say what all of them say
pub newest_again : (entries : List Entry) (key : Bytes) → newest (newest_entries entries) key ≡ newest entries key
newest_again entries key = newest_of_rising (newest_entries entries) key (newest_entries_rise entries) ∙ lookup_newest entries key

-- ---- what a source says

-- a range gives no value
pub live_says : (s : Source) (key : Bytes) → live (says s key) ≡ live (lookup s.entries key)
live_says s key = by_found (lookup s.entries key) (covers s.ranges key)
  where
    by_found : (found : Option (Option Bytes)) (covered : Bool) → live (option_or found (cleared covered)) ≡ live found
    by_found (Some value) covered = refl
    by_found None true = refl
    by_found None false = refl

-- entries alone say what they say
pub says_alone : (entries : List Entry) (key : Bytes) → says (alone entries) key ≡ lookup entries key
says_alone entries key = or_none (lookup entries key)

pub alone_is : (entries : List Entry) → KeysRise entries → IsSource (alone entries)
alone_is entries rises = record { rises = rises; ranges = tt; apart = tt; begin = tt }

-- ---- changes in the order of writing

pub source_sound : (changes : List Change) → IsSource (source_of changes)
source_sound changes = source_is empty_source changes empty_is

-- the changes of the source that they make say what all of them say
pub said_again : (changes : List Change) (key : Bytes) → last_said (changes_in (source_of changes)) key ≡ last_said changes key
said_again changes key = changes_say (source_of changes) key (source_sound changes) ∙ source_says changes key

-- ---- lists of entries, the newest first

abbrev pub AllRise : List (List Entry) → Type 0
AllRise lists = AllByRecursion KeysRise lists

abbrev pub lists_of : List Table → List (List Entry)
lists_of tables = map (λ (t : Table). t.entries) tables

-- ---- sources, the newest first

abbrev pub AllSources : List Source → Type 0
AllSources sources = AllByRecursion IsSource sources

pub said_backwards : (sources : List Source) (key : Bytes) → AllSources sources → last_said (oldest_changes sources) key ≡ first_said sources key
said_backwards [] key are = refl
said_backwards (s ∷ older) key are = said_both (oldest_changes older) (changes_in s) key ∙ ap₂ option_or (changes_say s key are.0) (said_backwards older key are.1)

-- ---- entries with rising keys

less_of : (o : Ordering) → is_lt o ≡ true → o ≡ Less
less_of Less e = refl
less_of Equal e = absurd (false≢true e)
less_of Greater e = absurd (false≢true e)

above_follow : (low : Bytes) (entries : List Entry) → Follow (is_before low) (keys_of entries) → AllByRecursion (ComesBehind low) entries × KeysRise entries
above_follow low [] follow = (tt, tt)
above_follow low (entry ∷ later) follow =
    let less = less_of (byte_order low entry.key) follow.0 in
    let rest = above_follow entry.key later follow.1 in
    ((less, above_lower low entry.key later less rest.0), rest)

pub rises_follow : (test : Bytes → Bool) (entries : List Entry) → Follow test (keys_of entries) → KeysRise entries
rises_follow test [] follow = tt
rises_follow test (entry ∷ later) follow = above_follow entry.key later follow.1

pub lookup-append : (xs ys : List Entry) (key : Bytes) → lookup (xs ++ ys) key ≡ option_or (lookup xs key) (lookup ys key)
lookup-append [] ys key = refl
lookup-append (x ∷ xs) ys key = elim (bytes_eq x.key key) as (λ t. cond t (Some x.value) (lookup (xs ++ ys) key) ≡ option_or (cond t (Some x.value) (lookup xs key)) (lookup ys key)) [
  | true ↦ refl
  | false ↦ lookup-append xs ys key
]

above_filter : (test : Entry → Bool) (low : Bytes) (entries : List Entry) → AllByRecursion (ComesBehind low) entries → AllByRecursion (ComesBehind low) (filter test entries)
above_filter test low [] above = tt
above_filter test low (entry ∷ later) above = elim (test entry) as (λ t. AllByRecursion (ComesBehind low) (cond t (entry ∷ filter test later) (filter test later))) [
  | true ↦ (above.0, above_filter test low later above.1)
  | false ↦ above_filter test low later above.1
]

pub rises_filter : (test : Entry → Bool) (entries : List Entry) → KeysRise entries → KeysRise (filter test entries)
rises_filter test [] rises = tt
rises_filter test (entry ∷ later) rises = elim (test entry) as (λ t. KeysRise (cond t (entry ∷ filter test later) (filter test later))) [
  | true ↦ (above_filter test entry.key later rises.0, rises_filter test later rises.1)
  | false ↦ rises_filter test later rises.1
]

above_part : (low : Bytes) (xs ys : List Entry) → AllByRecursion (ComesBehind low) (xs ++ ys) → AllByRecursion (ComesBehind low) xs
above_part low [] ys above = tt
above_part low (x ∷ xs) ys above = (above.0, above_part low xs ys above.1)

pub rises_parts : (xs ys : List Entry) → KeysRise (xs ++ ys) → KeysRise xs × KeysRise ys
rises_parts [] ys rises = (tt, rises)
rises_parts (x ∷ xs) ys rises = let rest = rises_parts xs ys rises.1 in ((above_part x.key xs ys rises.0, rest.0), rest.1)

-- without tombstones they say the same of each key that lives, and nothing of the others
pub live_without_tombstones : (entries : List Entry) (key : Bytes) → KeysRise entries → live (lookup (filter (λ (e : Entry). has_value e.value) entries) key) ≡ live (lookup entries key)
live_without_tombstones [] key rises = refl
live_without_tombstones (entry ∷ later) key rises =
    let kept = filter (λ (e : Entry). has_value e.value) later in
    let rest = live_without_tombstones later key rises.1 in
    elim entry.value as (λ v. entry.value ≡ v → live (lookup (cond (has_value v) (entry ∷ kept) kept) key) ≡ live (lookup (entry ∷ later) key)) [
      | Some value ↦ λ _. elim (bytes_eq entry.key key) as (λ t. live (cond t (Some entry.value) (lookup kept key)) ≡ live (cond t (Some entry.value) (lookup later key))) [ true ↦ refl | false ↦ rest ]
      | None ↦ λ none. elim (bytes_eq entry.key key) as (λ t. bytes_eq entry.key key ≡ t → live (lookup kept key) ≡ live (cond t (Some entry.value) (lookup later key))) [
        | true ↦ λ e. rest ∙ ap live (subst (λ (k : Bytes). lookup later k ≡ None) ((bytes_eq-Decides entry.key key).0 e) (none_above entry.key later rises.0)) ∙ sym none
        | false ↦ λ e. rest
      ] refl
    ] refl
