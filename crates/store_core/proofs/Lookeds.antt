-- What a get says by what is kept and by the blocks that it read, table by table.
use Rattle.std.proofs.Common.{◌≡◌, ◌∙◌, true, false, List, sym, ap}
use Rattle.std.specs.Option.{option_or}
use Rattle.std.specs.Prelude.{Option, None, is_some}
use Rattle.std.proofs.lemmas.Bool.{false≢true}
use Rattle.block_cache.specs.Kept.{KeptBlock}
use Rattle.disk_trait.specs.Image.{Image}
use Rattle.entry_model.specs.Newest.{lookup}
use Rattle.map_model.specs.SortedMap.{Bytes}
use Rattle.store_core.specs.Getting.{said_at}
use Rattle.store_search.specs.Searching.{said_in}
use Rattle.store_core.specs.Looking.{SaysLooked}
use Rattle.store_search.specs.Looking.{AreReadSound, looked_tables}
use Rattle.store_core.specs.StoreValue.{StoreValue}
use Rattle.store_core.specs.declared.getting.Place.{Place}
use Rattle.store_search.specs.declared.searching.Spot.{Spot}
use Rattle.store_search.proofs.Lookeds.{or_first}

-- the memory says it
pub memory_looked : (store : StoreValue) (key : Bytes) (image : Image) (said : Option (Option Bytes)) → said ≡ lookup store.memory.entries key → is_some said ≡ true → SaysLooked store key image said
memory_looked store key image said is some = record {
  said_is = is ∙ sym (or_first (lookup store.memory.entries key) (looked_tables store.blocks store.tables key image) (ap (λ (o : Option (Option Bytes)). is_some o) (sym is) ∙ some));
  sound = λ none. absurd (false≢true (sym (ap (λ (o : Option (Option Bytes)). is_some o) (is ∙ none)) ∙ some));
}

-- or the tables do
pub tables_looked : (store : StoreValue) (key : Bytes) (image : Image) (said : Option (Option Bytes)) → lookup store.memory.entries key ≡ None → said ≡ looked_tables store.blocks store.tables key image
    → AreReadSound store.blocks store.tables key image → SaysLooked store key image said
tables_looked store key image said none says sound = record {
  said_is = says ∙ ap (λ (o : Option (Option Bytes)). option_or o (looked_tables store.blocks store.tables key image)) (sym none);
  sound = λ _. sound;
}

-- what was found in tables is said at its place
pub place_looked : (place : Place) (store : StoreValue) (key : Bytes) (found : Option Spot) (buffer : Bytes) (kept : List KeptBlock)
    → ((store : StoreValue) (key : Bytes) → said_at place store key ≡ said_in found store.buffer store.blocks.kept key) → store.buffer ≡ buffer → store.blocks.kept ≡ kept
    → (said : Option (Option Bytes)) → said_in found buffer kept key ≡ said → said_at place store key ≡ said
place_looked place store key found buffer kept at is are said says =
    at store key ∙ ap (λ (b : Bytes). said_in found b store.blocks.kept key) is ∙ ap (λ (k : List KeptBlock). said_in found buffer k key) are ∙ says
