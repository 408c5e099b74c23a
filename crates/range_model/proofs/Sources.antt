-- What a source says that changes make.
use Rattle.std.proofs.Common.{◌≡◌, List, [], ◌∷◌, refl, sym, ap, ap₂, ◌∙◌, subst, Bool, true, false, cond, not}
use Rattle.std.specs.Prelude.{◌&&◌, ◌||◌, Option, Some, None, bytes_eq, fold}
use Rattle.std.specs.List.{AllByRecursion}
use Rattle.std.specs.Option.{option_or}
use Rattle.std.proofs.lemmas.Bool.{false≢true}
use Rattle.std.proofs.lemmas.Slice.Eq.{bytes_eq-Decides}
use Rattle.key_base.specs.ByteOrder.{is_before}
use Rattle.map_model.specs.SortedMap.{Bytes}
use Rattle.entry_model.specs.Entries.{Entry, del_entry}
use Rattle.entry_model.specs.Newest.{lookup}
use Rattle.range_model.specs.Ranges.{DeletedRange, IsDeletedRange, is_covered, covers}
use Rattle.range_model.specs.Sources.{Change, Sets, Clears, Source, empty_source, entries_outside, with_cleared, with_change, cleared, says, change_says, last_said}
use Rattle.range_model.specs.Laws.{SourceSays}
use Rattle.range_model.proofs.KeyOrders.{is_before_of, not_before_itself}
use Rattle.map_model.proofs.Between.{before_less}
use Rattle.range_model.proofs.Clearing.{none_within}
use Rattle.entry_model.proofs.Newest.{lookup_with}
use Rattle.range_model.proofs.Ranges.{covers_with, ranges_with}

pub or_again : (x y z : Option (Option Bytes)) → option_or x (option_or y z) ≡ option_or (option_or x y) z
or_again (Some v) y z = refl
or_again None y z = refl

pub or_none : (x : Option (Option Bytes)) → option_or x None ≡ x
or_none (Some v) = refl
or_none None = refl

-- what is left of entries says nothing of what was covered, and all else
pub lookup_without : (entries : List Entry) (range : DeletedRange) (key : Bytes) → lookup (entries_outside entries range) key ≡ cond (is_covered range key) None (lookup entries key)
lookup_without [] range key = elim (is_covered range key) as (λ t. lookup [] key ≡ cond t None (lookup [] key)) [ true ↦ refl | false ↦ refl ]
lookup_without (entry ∷ more) range key =
    let rest = entries_outside more range in
    elim (bytes_eq entry.key key) as (λ b. bytes_eq entry.key key ≡ b → lookup (cond (not (is_covered range entry.key)) (entry ∷ rest) rest) key ≡ cond (is_covered range key) None (cond b (Some entry.value) (lookup more key))) [
      | true ↦ λ here. let at : is_covered range entry.key ≡ is_covered range key = ap (is_covered range) ((bytes_eq-Decides entry.key key).0 here) in
          ap (λ (t : Bool). lookup (cond (not t) (entry ∷ rest) rest) key) at
          ∙ elim (is_covered range key) as (λ t. is_covered range key ≡ t → lookup (cond (not t) (entry ∷ rest) rest) key ≡ cond t None (Some entry.value)) [
            | true ↦ λ e. lookup_without more range key ∙ ap (λ (t : Bool). cond t None (lookup more key)) e
            | false ↦ λ _. ap (λ (t : Bool). cond t (Some entry.value) (lookup rest key)) here
          ] refl
      | false ↦ λ other. elim (is_covered range entry.key) as (λ t. lookup (cond (not t) (entry ∷ rest) rest) key ≡ cond (is_covered range key) None (lookup more key)) [
        | true ↦ lookup_without more range key
        | false ↦ ap (λ (t : Bool). cond t (Some entry.value) (lookup rest key)) other ∙ lookup_without more range key
      ]
    ] refl

-- the first key of a range lies within it
pub first_within : (range : DeletedRange) → IsDeletedRange range → is_covered range range.lo ≡ true
first_within range is = ap₂ (λ (x y : Bool). not x && y) (not_before_itself range.lo range.lo refl) (is_before_of range.lo range.hi is)

-- a range more, at a key that it covers or not
clears_at : (w c b : Bool) (older : Option (Option Bytes)) → (b ≡ true → w ≡ true)
    → option_or (cond b (Some None) (cond w None older)) (cleared (w || c)) ≡ option_or (cleared w) (option_or older (cleared c))
clears_at true c true older in_it = refl
clears_at true c false older in_it = refl
clears_at false c true older in_it = absurd (false≢true (in_it refl))
clears_at false c false older in_it = refl

says_cleared : (s : Source) (range : DeletedRange) (key : Bytes) → AllByRecursion IsDeletedRange s.ranges → IsDeletedRange range → says (with_cleared s range) key ≡ option_or (cleared (is_covered range key)) (says s key)
says_cleared s range key all is =
    ap₂ (λ (o : Option (Option Bytes)) (c : Bool). option_or o (cleared c))
    (lookup_with (entries_outside s.entries range) (del_entry range.lo) key ∙ ap (λ (o : Option (Option Bytes)). cond (bytes_eq range.lo key) (Some None) o) (lookup_without s.entries range key))
    (covers_with s.ranges range key all is)
    ∙ clears_at (is_covered range key) (covers s.ranges key) (bytes_eq range.lo key) (lookup s.entries key)
    (λ here. subst (λ (k : Bytes). is_covered range k ≡ true) ((bytes_eq-Decides range.lo key).0 here) (first_within range is))

pub says_with : (s : Source) (change : Change) (key : Bytes) → AllByRecursion IsDeletedRange s.ranges → says (with_change s change) key ≡ option_or (change_says change key) (says s key)
says_with s (Sets entry) key all =
    ap (λ (o : Option (Option Bytes)). option_or o (cleared (covers s.ranges key))) (lookup_with s.entries entry key)
    ∙ elim (bytes_eq entry.key key) as (λ t. option_or (cond t (Some entry.value) (lookup s.entries key)) (cleared (covers s.ranges key)) ≡ option_or (cond t (Some entry.value) None) (says s key)) [ true ↦ refl | false ↦ refl ]
says_with s (Clears range) key all =
    elim (is_before range.lo range.hi) as (λ t. is_before range.lo range.hi ≡ t → says (cond t (with_cleared s range) s) key ≡ option_or (cleared (is_covered range key)) (says s key)) [
      | true ↦ λ e. says_cleared s range key all (before_less range.lo range.hi e)
      | false ↦ λ e. sym (ap (λ (t : Bool). option_or (cleared t) (says s key)) (none_within range.lo range.hi key e))
    ] refl

pub ranges_after : (s : Source) (change : Change) → AllByRecursion IsDeletedRange s.ranges → AllByRecursion IsDeletedRange (with_change s change).ranges
ranges_after s (Sets entry) all = all
ranges_after s (Clears range) all =
    elim (is_before range.lo range.hi) as (λ t. is_before range.lo range.hi ≡ t → AllByRecursion IsDeletedRange (cond t (with_cleared s range) s).ranges) [
      | true ↦ λ e. ranges_with s.ranges range all (before_less range.lo range.hi e)
      | false ↦ λ _. all
    ] refl

pub says_after : (start : Source) (changes : List Change) (key : Bytes) → AllByRecursion IsDeletedRange start.ranges → says (fold with_change start changes) key ≡ option_or (last_said changes key) (says start key)
says_after start [] key all = refl
says_after start (change ∷ later) key all = says_after (with_change start change) later key (ranges_after start change all)
    ∙ ap (option_or (last_said later key)) (says_with start change key all)
    ∙ or_again (last_said later key) (change_says change key) (says start key)

pub source_says : SourceSays
source_says changes key = says_after empty_source changes key tt ∙ or_none (last_said changes key)
