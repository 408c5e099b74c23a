-- What a crash leaves of lines that one sorted map answers, whatever tables and merges there are.
use Rattle.std.specs.Prelude.{◌≡◌, ◌⊎◌, ◌≤◌, ◌<◌, ℕ, List, [], ◌∷◌, ◌++◌, drop, length, take, Some}
use Rattle.disk_trait.specs.World.{Image, World}
use Rattle.filter_api.specs.Spellings.{Spelling}
use Rattle.image_model.specs.Stands.{StandsForMap}
use Rattle.line_model.specs.Lines.{lines_of}
use Rattle.line_model.specs.Replies.{Device, Done, Pairs, Reply, text_of}
use Rattle.line_model.specs.Requests.{Range, Request, request_of}
use Rattle.map_model.specs.Slices.{slice}
use Rattle.map_model.specs.SortedMap.{Bytes, Map}
use Rattle.outside.specs.During.{During}
use Rattle.state_model.specs.Laws.{map_behind}
use Rattle.surf_run.specs.OneMap.{IsMapReply, IsRefusal, MapDialogue}

-- `device` alone; of a range also after some first pairs of its answer, fewer than it asks for
abbrev pub IsDevice : Map → Request → Reply → Type 0
IsDevice map (Range lo hi n) reply = (reply ≡ Device) ⊎ ((k : ℕ) × (k < n) × (reply ≡ Pairs (take k (slice map lo (Some hi) n)) Device))
IsDevice map request reply = reply ≡ Device

-- the map before a request, or the one with its change
abbrev pub IsOldOrNewMap : Map → Request → Map → Type 0
IsOldOrNewMap map request now = (now ≡ map) ⊎ (now ≡ map_behind request Done map)

-- what was said then goes on as this text does: it begins with it, or ends within it
abbrev pub GoesOnAs : Bytes → Bytes → Type 0
GoesOnAs text then = ((more : Bytes) × (then ≡ text ++ more)) ⊎ ((unsaid : Bytes) × (text ≡ then ++ unsaid))

-- After these lines, with this part of the next line's reply said, and this then: before its first byte the map is the one before
-- that line or the one after the reply that is said; from then on it is the one after the reply. But `device` leaves either.
abbrev pub IsMapAfter : Map → List Bytes → Bytes → Bytes → Map → Type 0
IsMapAfter map [] part then now = (part ≡ []) × (now ≡ map)
IsMapAfter map (line ∷ more) part then now =
    ((part ≡ []) × (now ≡ map))
    ⊎ ((reply : Reply) × (rest : Bytes) × (text_of reply ≡ part ++ rest) × GoesOnAs rest then × (IsMapReply map (request_of line) reply ⊎ IsRefusal reply ⊎ IsDevice map (request_of line) reply)
    × ((now ≡ map_behind (request_of line) reply map) ⊎ ((reply ≡ Device) × IsOldOrNewMap map (request_of line) now)))

-- Of all that was said at the end, `told`, n bytes had been said; `before` was said before the run. They are one map's replies to
-- some first lines, and maybe a part of the next line's reply. This map is the one after those lines, or after one more: so it has
-- each change whose `ok` had been said by then, and none that is said to be refused.
pub record KeepsOneMap (start : Map) (lines : List Bytes) (before told : Bytes) (n : ℕ) (now : Map) : Type 0 where
  pub so_far : List Bytes
  pub later : List Bytes
  pub split : lines ≡ so_far ++ later
  pub text : Bytes
  pub map : Map
  pub replies : MapDialogue start so_far text map
  pub within : n ≤ length told
  pub part : Bytes
  pub said : take n told ≡ before ++ (text ++ part)
  pub there : IsMapAfter map later part (drop n told) now

-- the image stands for such a map
abbrev pub HasOneMap : Spelling → Map → List Bytes → Bytes → Bytes → ℕ → Image → Type 0
HasOneMap spelling start lines before told n image = (now : Map) × KeepsOneMap start lines before told n now × StandsForMap spelling now image

-- Of a run from this map that took some input: at each moment each image that a crash may leave stands for such a map.
abbrev pub OneMapLasts : Spelling → Map → World → World → Type 0
OneMapLasts spelling start old new =
    (taken : Bytes) × (old.beside.to_take ≡ taken ++ new.beside.to_take)
    × During (HasOneMap spelling start (lines_of taken) old.beside.said new.beside.said) old new
