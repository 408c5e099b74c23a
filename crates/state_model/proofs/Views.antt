-- The map of a state is its view.
use Rattle.std.proofs.Common.{◌≡◌, List, [], ◌∷◌, sym, ap, ap₂, ◌∙◌}
use Rattle.std.specs.Option.{option_or}
use Rattle.std.specs.List.{AllByRecursion}
use Rattle.map_model.specs.SortedMap.{Bytes, get}
use Rattle.entry_model.specs.Entries.{live}
use Rattle.range_model.specs.Sources.{first_said, last_said}
use Rattle.range_model.proofs.Sources.{source_says}
use Rattle.range_model.proofs.Sound.{said_both}
use Rattle.range_model.proofs.ChangedMaps.{map_says}
use Rattle.state_model.specs.State.{State}
use Rattle.table_model.specs.Tables.{FilterBytes, Table}
use Rattle.state_model.specs.View.{view, sources_of, oldest_first, changes_of, state_map}
use Rattle.state_model.specs.Sound.{IsSound, IsSoundTable}
use Rattle.state_model.proofs.Sayings.{AllRise, AllSources, lists_of, said_backwards}

pub tables_rise : (tables : List Table) → AllByRecursion IsSoundTable tables → AllRise (lists_of tables)
tables_rise [] sound = tt
tables_rise (t ∷ more) sound = (sound.0.source.rises, tables_rise more sound.1)

pub tables_are : (tables : List Table) → AllByRecursion IsSoundTable tables → AllSources (sources_of tables)
tables_are [] sound = tt
tables_are (t ∷ more) sound = (sound.0.source, tables_are more sound.1)

pub said_of_tables : (tables : List Table) (key : Bytes) → AllSources (sources_of tables) → last_said (oldest_first tables) key ≡ first_said (sources_of tables) key
said_of_tables tables key are = said_backwards (sources_of tables) key are

-- what all the changes of a state say of a key is what its view says
pub said_of_state : (s : State) (key : Bytes) → AllSources (sources_of s.tables) → last_said (changes_of s) key ≡ view s key
said_of_state s key are = said_both (oldest_first s.tables) s.log key ∙ ap₂ option_or (sym (source_says s.log key)) (said_of_tables s.tables key are)

pub view_says : (filter_bytes : FilterBytes) (s : State) (key : Bytes) → IsSound filter_bytes s → get (state_map s) key ≡ live (view s key)
view_says filter_bytes s key sound = map_says (changes_of s) key ∙ ap live (said_of_state s key (tables_are s.tables sound.tables))
