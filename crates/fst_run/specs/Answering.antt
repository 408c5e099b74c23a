-- How a line is answered by a map.
use Rattle.std.specs.Prelude.{◌≡◌, ◌⊎◌, ◌++◌, ◌≤◌, ◌^◌, Bool, IsTrue, drop, filter, flat_map, length, [], ◌∷◌, Option}
use Rattle.std.specs.List.{AllByRecursion}
use Rattle.disk_trait.specs.World.{World}
use Rattle.fst_map.specs.Places.{Place}
use Rattle.key_base.specs.Limits.{max_key_bytes}
use Rattle.line_model.specs.Replies.{Reply, at_words}
use Rattle.line_model.specs.Requests.{Quit as QuitRequest, Request}
use Rattle.lines_in.specs.Causes.{SayFailed}
use Rattle.lines_in.specs.Saying.{Says, end_by}
use Rattle.lines_in.specs.Statuses.{output_status}
use Rattle.lines_in.specs.declared.line_end.LineEnd.{LineEnd}
use Rattle.lines_in.specs.declared.line_end.LineEnd.TheVariants.{End, Next, Quit}
use Rattle.map_model.specs.Slices.{is_up_to}
use Rattle.map_model.specs.SortedMap.{Bytes, Map, Rises}
use Rattle.map_run_model.specs.MapLines.{IsReplyOf}
use Rattle.outside.specs.Streams.{SayMoves}

-- keys rise, and a reply may have each pair
pub record MayAnswer (map : Map) : Type 0 where
  pub rises : Rises map
  pub short : AllByRecursion (λ (pair : Bytes × Bytes). (length pair.0 ≤ max_key_bytes) × (length pair.1 ≤ 2 ^ 31)) map

-- the reply to a request was said whole, or a prefix of it was and the run ends
abbrev pub IsAnswered : Map → Request → LineEnd → World → World → Type 0
IsAnswered map request end old new = (reply : Reply) × IsReplyOf map request reply × Says (end_by reply) reply end old new

-- how the line ends: the next one follows, but after `quit` or where the output failed
abbrev pub EndsBy : Request → LineEnd → World → World → Type 0
EndsBy request end old new = (end ≡ Next) ⊎ ((request ≡ QuitRequest) × (end ≡ Quit)) ⊎ ((end ≡ End output_status) × SayFailed old new)

-- a request was answered by a map, and nothing else was done
pub record AnswersRequest (tells_output : Bool) (map : Map) (request : Request) (end : LineEnd) (old new : World) : Type 0 where
  pub answered : IsTrue tells_output → IsAnswered map request end old new
  pub ends : EndsBy request end old new
  pub moves : SayMoves old new

-- ---- a walk

-- the pairs from a place on that are not above a bound
abbrev pub from_on : Place → Option Bytes → Map
from_on place hi = filter (λ (pair : Bytes × Bytes). is_up_to hi pair.0) (drop place.number place.map)

abbrev pub pairs_text : Map → Bytes
pairs_text pairs = flat_map (λ (pair : Bytes × Bytes). at_words pair.0 pair.1 ++ 10 ∷ []) pairs
