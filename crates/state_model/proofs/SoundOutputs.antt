-- The tables that are made of outputs: each is sound, and they are in their order.
use Rattle.std.proofs.Common.{◌≡◌, ℕ, ◌≤◌, ◌<◌, ◌+◌, ◌^◌, List, [], ◌∷◌, length, sym, ap, subst, Bool, true, false, map, arith}
use Rattle.std.specs.List.{AllByRecursion}
use Rattle.block_model.proofs.Cutting.{all_append}
use Rattle.filter_api.specs.Ranges.{InRange}
use Rattle.filter_api.specs.declared.settings.Settings.{Settings}
use Rattle.entry_model.specs.Entries.{Entry, IsEntry}
use Rattle.range_model.specs.Ranges.{DeletedRange, HasBounds, IsDeletedRange}
use Rattle.range_model.specs.Sources.{Change, Clears, IsSource, Sets, Source, changes_in, source_of}
use Rattle.table_model.specs.Tables.{FilterBytes, Table, as_source, source_pages, table_from}
use Rattle.state_model.specs.Logs.{IsChange}
use Rattle.state_model.specs.View.{oldest_first}
use Rattle.state_model.specs.Merges.{Plan, planned, lasting_of, is_deepest, merged_of, has_value, cut_for}
use Rattle.state_model.specs.Sound.{IsSoundTable, AreMade}
use Rattle.state_model.proofs.Levels.{AllAt}
use Rattle.state_model.proofs.Merged.{lasting_is}
use Rattle.state_model.proofs.Sayings.{source_sound}
use Rattle.extent_model.proofs.Lists.{all_kept}
use Rattle.state_model.proofs.Outputs.{cut_all, cut_are, cut_bounds, cut_some}
use Rattle.state_model.proofs.Places.{IsTableSource, table_is_sound, OnDevice, entries_in_pages}
use Rattle.state_model.proofs.SoundLogs.{changes_bounds, changes_entries, is_table}

-- ---- the changes of sound tables

sets_are : (entries : List Entry) → AllByRecursion IsEntry entries → AllByRecursion IsChange (map Sets entries)
sets_are [] all = tt
sets_are (e ∷ more) all = (all.0, sets_are more all.1)

clears_are : (ranges : List DeletedRange) → AllByRecursion IsDeletedRange ranges → AllByRecursion HasBounds ranges → AllByRecursion IsChange (map Clears ranges)
clears_are [] are bounds = tt
clears_are (range ∷ more) are bounds = ((are.0, bounds.0), clears_are more are.1 bounds.1)

table_changes : (t : Table) → IsSoundTable t → AllByRecursion IsChange (changes_in (as_source t))
table_changes t is = all_append IsChange (map Clears t.ranges) (map Sets t.entries) (clears_are t.ranges is.source.ranges is.bounds) (sets_are t.entries is.entries.sound.each)

pub tables_changes : (tables : List Table) → AllByRecursion IsSoundTable tables → AllByRecursion IsChange (oldest_first tables)
tables_changes [] sound = tt
tables_changes (t ∷ more) sound = all_append IsChange (oldest_first more) (changes_in (as_source t)) (tables_changes more sound.1) (table_changes t sound.0)

-- ---- what a source is that becomes tables

-- a sound source whose entries are entries, and the bounds of whose ranges are keys
pub record IsBounded (s : Source) : Type 0 where
  pub source : IsSource s
  pub each : AllByRecursion IsEntry s.entries
  pub bounds : AllByRecursion HasBounds s.ranges

lasting_each : (is_last : Bool) (s : Source) → AllByRecursion IsEntry s.entries → AllByRecursion IsEntry (lasting_of is_last s).entries
lasting_each true s all = all_kept IsEntry (λ (e : Entry). has_value e.value) s.entries all
lasting_each false s all = all

lasting_bounds : (is_last : Bool) (s : Source) → AllByRecursion HasBounds s.ranges → AllByRecursion HasBounds (lasting_of is_last s).ranges
lasting_bounds true s all = tt
lasting_bounds false s all = all

-- what lasts of the changes that are within their limits
pub lasting_bounded : (is_last : Bool) (changes : List Change) → AllByRecursion IsChange changes → IsBounded (lasting_of is_last (source_of changes))
lasting_bounded is_last changes all = record {
  source = lasting_is is_last (source_of changes) (source_sound changes);
  each = lasting_each is_last (source_of changes) (changes_entries changes all);
  bounds = lasting_bounds is_last (source_of changes) (changes_bounds changes all);
}

-- what the tables that are made of outputs need of each of them
abbrev pub IsOutput : Source → Type 0
IsOutput s = IsSource s × AllByRecursion IsEntry s.entries × AllByRecursion HasBounds s.ranges × (1 ≤ length s.entries)

pub cut_outputs : (inputs : List Table) (s : Source) → IsBounded s → AllByRecursion IsOutput (cut_for inputs s)
cut_outputs inputs s is = four (cut_for inputs s) (cut_are inputs s is.source) (cut_all IsEntry inputs s is.each) (cut_bounds inputs s is.each is.bounds) (cut_some inputs s)
  where
    four : (outputs : List Source) → AllByRecursion IsSource outputs → AllByRecursion (λ (o : Source). AllByRecursion IsEntry o.entries) outputs → AllByRecursion (λ (o : Source). AllByRecursion HasBounds o.ranges) outputs
        → AllByRecursion (λ (o : Source). 1 ≤ length o.entries) outputs → AllByRecursion IsOutput outputs
    four [] a b c d = tt
    four (o ∷ more) a b c d = ((a.0, b.0, c.0, d.0), four more a.1 b.1 c.1 d.1)

pub planned_outputs : (tables : List Table) (plan : Plan) → AllByRecursion IsSoundTable plan.inputs → AllByRecursion IsOutput (planned tables plan)
planned_outputs tables plan sound = cut_outputs plan.inputs (lasting_of (is_deepest tables plan.output) (merged_of plan.inputs))
    (lasting_bounded (is_deepest tables plan.output) (oldest_first plan.inputs) (tables_changes plan.inputs sound))

-- ---- each is sound

pub made_at : (filter_bytes : FilterBytes) (settings : Settings) (level : ℕ) (outputs : List Source) (made : List Table) → AreMade filter_bytes settings level outputs made → AllAt level made
made_at filter_bytes settings level [] [] are = tt
made_at filter_bytes settings level (output ∷ outputs) [] are = tt
made_at filter_bytes settings level [] (t ∷ more) are = absurd are
made_at filter_bytes settings level (output ∷ outputs) (t ∷ more) are = (ap (λ (u : Table). u.level) are.0, made_at filter_bytes settings level outputs more are.1)

-- a given number of entries have room on a device
few_entries : (filter_bytes : FilterBytes) (settings : Settings) (pages page : ℕ) (s : Source) → pages ≤ 16777216 → page + source_pages filter_bytes settings s ≤ pages → length s.entries < 2 ^ 32
few_entries filter_bytes settings pages page s most to = omega (arith, entries_in_pages s.entries)

pub made_sound : (filter_bytes : FilterBytes) (settings : Settings) (level pages : ℕ) (outputs : List Source) (made : List Table) → level ≤ 6 → InRange settings → settings.ratio ≤ 65535 → pages ≤ 16777216
    → AreMade filter_bytes settings level outputs made → AllByRecursion (OnDevice pages) made → AllByRecursion IsOutput outputs → AllByRecursion IsSoundTable made
made_sound filter_bytes settings level pages [] [] deep range ratio most are on each = tt
made_sound filter_bytes settings level pages (output ∷ outputs) [] deep range ratio most are on each = tt
made_sound filter_bytes settings level pages [] (t ∷ more) deep range ratio most are on each = absurd are
made_sound filter_bytes settings level pages (output ∷ outputs) (t ∷ more) deep range ratio most are on each =
    let within : t.first_page + t.pages ≤ pages = on.0.to in
    let size : t.pages ≡ source_pages filter_bytes settings output = ap (λ (u : Table). u.pages) are.0 in
    let few = few_entries filter_bytes settings pages t.first_page output most (subst (λ (n : ℕ). t.first_page + n ≤ pages) size within) in
    let is : IsTableSource output = record { entries = is_table output.entries each.0.1 few each.0.3 each.0.0.rises; source = each.0.0; bounds = each.0.2 } in
    let made : IsSoundTable (table_from filter_bytes settings level t.first_page output) = table_is_sound filter_bytes settings level t.first_page output deep range ratio is in
    (subst IsSoundTable (sym are.0) made, made_sound filter_bytes settings level pages outputs more deep range ratio most are.1 on.1 each.1)
