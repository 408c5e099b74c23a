-- What a merge writes, against what its inputs say.
use Rattle.std.proofs.Common.{◌≡◌, ◌≤◌, List, [], ◌∷◌, length, refl, sym, ap, ◌∙◌, Bool, true, false, cond, arith}
use Rattle.std.specs.Option.{option_or}
use Rattle.std.specs.Prelude.{Option, Some, None, bytes_eq, filter, flat_map}
use Rattle.std.specs.List.{AllByRecursion}
use Rattle.map_model.specs.SortedMap.{Bytes}
use Rattle.entry_model.specs.Entries.{Entry, live}
use Rattle.entry_model.specs.Newest.{KeysRise, lookup}
use Rattle.range_model.specs.Ranges.{covers}
use Rattle.range_model.specs.Sources.{IsSource, Source, alone, cleared, first_said, says}
use Rattle.range_model.specs.Laws.{LieApart}
use Rattle.range_model.proofs.Sources.{source_says}
use Rattle.table_model.specs.Tables.{Table}
use Rattle.state_model.specs.View.{sources_of, oldest_first}
use Rattle.state_model.specs.Merges.{Plan, has_value, planned, lasting_of, is_deepest, merged_of}
use Rattle.state_model.specs.Sound.{IsSoundTable}
use Rattle.state_model.proofs.Sayings.{alone_is, live_says, live_without_tombstones, rises_filter, says_alone, source_sound}
use Rattle.state_model.proofs.Outputs.{cut_apart, cut_are, cut_few, cut_say, cut_some, cut_whole}
use Rattle.state_model.proofs.Views.{said_of_tables, tables_are}

-- ---- what lasts

pub lasting_is : (is_last : Bool) (s : Source) → IsSource s → IsSource (lasting_of is_last s)
lasting_is true s is = alone_is (filter (λ (e : Entry). has_value e.value) s.entries) (rises_filter (λ (e : Entry). has_value e.value) s.entries is.rises)
lasting_is false s is = is

pub lasting_say : (is_last : Bool) (s : Source) (key : Bytes) → KeysRise s.entries → live (says (lasting_of is_last s) key) ≡ live (says s key)
lasting_say true s key rises = live_says (alone (filter (λ (e : Entry). has_value e.value) s.entries)) key ∙ live_without_tombstones s.entries key rises ∙ sym (live_says s key)
lasting_say false s key rises = refl

still_none : (test : Entry → Bool) (entries : List Entry) (key : Bytes) → lookup entries key ≡ None → lookup (filter test entries) key ≡ None
still_none test [] key none = refl
still_none test (e ∷ more) key none = elim (bytes_eq e.key key) as (λ t. bytes_eq e.key key ≡ t → cond t (Some e.value) (lookup more key) ≡ None → lookup (cond (test e) (e ∷ filter test more) (filter test more)) key ≡ None) [
  | true ↦ λ _ bad. absurd cc
  | false ↦ λ off rest. elim (test e) as (λ b. lookup (cond b (e ∷ filter test more) (filter test more)) key ≡ None) [
    | true ↦ ap (λ (t : Bool). cond t (Some e.value) (lookup (filter test more) key)) off ∙ still_none test more key rest
    | false ↦ still_none test more key rest
  ]
] refl none

found_none : (found other : Option (Option Bytes)) → option_or found other ≡ None → found ≡ None
found_none (Some v) other none = absurd cc
found_none None other none = refl

-- of what a source says nothing, nothing of what lasts of it says something
pub lasting_none : (is_last : Bool) (s : Source) (key : Bytes) → says s key ≡ None → says (lasting_of is_last s) key ≡ None
lasting_none true s key none =
    says_alone (filter (λ (e : Entry). has_value e.value) s.entries) key ∙ still_none (λ (e : Entry). has_value e.value) s.entries key (found_none (lookup s.entries key) (cleared (covers s.ranges key)) none)
lasting_none false s key none = none

-- ---- what it says

merged_is : (inputs : List Table) → IsSource (merged_of inputs)
merged_is inputs = source_sound (oldest_first inputs)

pub last_is : (tables : List Table) (plan : Plan) → IsSource (lasting_of (is_deepest tables plan.output) (merged_of plan.inputs))
last_is tables plan = lasting_is (is_deepest tables plan.output) (merged_of plan.inputs) (merged_is plan.inputs)

pub inputs_say : (inputs : List Table) (key : Bytes) → AllByRecursion IsSoundTable inputs → says (merged_of inputs) key ≡ first_said (sources_of inputs) key
inputs_say inputs key sound = source_says (oldest_first inputs) key ∙ said_of_tables inputs key (tables_are inputs sound)

pub planned_say : (tables : List Table) (plan : Plan) (key : Bytes) → first_said (planned tables plan) key ≡ says (lasting_of (is_deepest tables plan.output) (merged_of plan.inputs)) key
planned_say tables plan key = cut_say plan.inputs (lasting_of (is_deepest tables plan.output) (merged_of plan.inputs)) key (last_is tables plan)

pub merge_says : (tables : List Table) (plan : Plan) (key : Bytes) → AllByRecursion IsSoundTable plan.inputs → live (first_said (planned tables plan) key) ≡ live (first_said (sources_of plan.inputs) key)
merge_says tables plan key sound = ap live (planned_say tables plan key)
    ∙ lasting_say (is_deepest tables plan.output) (merged_of plan.inputs) key (merged_is plan.inputs).rises
    ∙ ap live (inputs_say plan.inputs key sound)

pub tombstones_last : (tables : List Table) (plan : Plan) (key : Bytes) → AllByRecursion IsSoundTable plan.inputs → is_deepest tables plan.output ≡ false → first_said (planned tables plan) key ≡ first_said (sources_of plan.inputs) key
tombstones_last tables plan key sound deeper = planned_say tables plan key
    ∙ ap (λ (b : Bool). says (lasting_of b (merged_of plan.inputs)) key) deeper
    ∙ inputs_say plan.inputs key sound

-- ---- how it is cut

pub merge_is_whole : (tables : List Table) (plan : Plan) → flat_map (λ (output : Source). output.entries) (planned tables plan) ≡ (lasting_of (is_deepest tables plan.output) (merged_of plan.inputs)).entries
merge_is_whole tables plan = cut_whole plan.inputs (lasting_of (is_deepest tables plan.output) (merged_of plan.inputs))

pub merge_some : (tables : List Table) (plan : Plan) → AllByRecursion (λ (output : Source). 1 ≤ length output.entries) (planned tables plan)
merge_some tables plan = cut_some plan.inputs (lasting_of (is_deepest tables plan.output) (merged_of plan.inputs))

pub merge_sound : (tables : List Table) (plan : Plan) → AllByRecursion IsSource (planned tables plan)
merge_sound tables plan = cut_are plan.inputs (lasting_of (is_deepest tables plan.output) (merged_of plan.inputs)) (last_is tables plan)

-- each output lies below the later ones
pub merge_apart : (tables : List Table) (plan : Plan) → LieApart (planned tables plan)
merge_apart tables plan = cut_apart plan.inputs (lasting_of (is_deepest tables plan.output) (merged_of plan.inputs)) (last_is tables plan)

pub merge_few : (tables : List Table) (plan : Plan) → 1 ≤ length plan.inputs → length (planned tables plan) ≤ length plan.inputs
merge_few tables plan some = let few = cut_few plan.inputs (lasting_of (is_deepest tables plan.output) (merged_of plan.inputs)) in omega arith
