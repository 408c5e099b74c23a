-- The lines of a dump make its map again.
use Rattle.std.specs.Prelude.{◌≡◌, [], flat_map, map}
use Rattle.std.specs.List.{AllByRecursion}
use Rattle.entry_model.specs.Entries.{IsEntry, put_entry}
use Rattle.line_model.specs.Lines.{lines_of}
use Rattle.line_model.specs.Replies.{Done, text_of}
use Rattle.line_model.specs.Requests.{Put, request_of}
use Rattle.map_model.specs.SortedMap.{Bytes, Map, Rises}
use Rattle.store_commands.specs.Puts.{puts_text}
use Rattle.surf_run.specs.OneMap.{MapDialogue}

-- a pair within its limits
abbrev pub IsPair : Bytes × Bytes → Type 0
IsPair pair = IsEntry (put_entry pair.0 pair.1)

-- Each line of the dump of a map puts its pair. Over the empty map they may each be answered `ok`, and where they are they leave the map
-- and no other.
pub record IsCopied (m : Map) : Type 0 where
  pub requests : map (λ line. request_of line) (lines_of (puts_text m)) ≡ map (λ (pair : Bytes × Bytes). Put pair.0 pair.1) m
  pub replies : MapDialogue [] (lines_of (puts_text m)) (flat_map (λ (pair : Bytes × Bytes). text_of Done) m) m
  pub only : (last : Map) → MapDialogue [] (lines_of (puts_text m)) (flat_map (λ (pair : Bytes × Bytes). text_of Done) m) last → last ≡ m

abbrev pub DumpsAreCopies : Type 0
DumpsAreCopies = (m : Map) → Rises m → AllByRecursion IsPair m → IsCopied m
