-- Lines that get the replies of one sorted map, whatever tables and merges there are.
use Rattle.std.specs.Prelude.{◌≡◌, ◌⊎◌, ℕ, List, [], ◌∷◌, ◌++◌, true, Some}
use Rattle.line_model.specs.Replies.{About, BadLine, Bye, Counted, Done, Explained, Memory, Reply, found, got, text_of}
use Rattle.line_model.specs.Requests.{Bad, Compact, Count, Del, Estimate, Explain, Flush, Get, Put, Quit, Range, Request, Seek, request_of}
use Rattle.map_model.specs.Slices.{count, seek, slice}
use Rattle.map_model.specs.SortedMap.{Bytes, Map, get}
use Rattle.state_model.specs.Laws.{map_behind}
use Rattle.state_model.specs.Refusals.{is_refusal}
use Rattle.state_model.specs.Steps.{pairs}

-- What a map replies to a request: a change is done, a question is answered by its pairs. An estimate and an explanation speak of
-- tables, so any number will do.
abbrev pub IsMapReply : Map → Request → Reply → Type 0
IsMapReply map (Put key value) reply = reply ≡ Done
IsMapReply map (Del key) reply = reply ≡ Done
IsMapReply map (Get key) reply = reply ≡ got (get map key)
IsMapReply map (Seek lo hi) reply = reply ≡ found (seek map lo hi)
IsMapReply map (Range lo hi n) reply = reply ≡ pairs (slice map lo (Some hi) n)
IsMapReply map (Count lo hi) reply = reply ≡ Counted (count map lo (Some hi))
IsMapReply map (Estimate lo hi) reply = (about : ℕ) × (reply ≡ About about)
IsMapReply map (Explain key) reply = (tables : ℕ) × (admitted : ℕ) × (blocks : ℕ) × (reply ≡ Explained tables admitted blocks)
IsMapReply map Flush reply = reply ≡ Done
IsMapReply map Compact reply = reply ≡ Done
IsMapReply map Quit reply = reply ≡ Bye
IsMapReply map (Bad code) reply = reply ≡ BadLine code

-- a refusal: by a limit, for room, or for lack of memory
abbrev pub IsRefusal : Reply → Type 0
IsRefusal reply = (is_refusal reply ≡ true) ⊎ (reply ≡ Memory)

-- The lines get these replies one after the other: each that of the map, or a refusal. A put or a delete that is done changes the
-- map, and nothing else does.
abbrev pub MapDialogue : Map → List Bytes → Bytes → Map → Type 0
MapDialogue map [] text last = (text ≡ []) × (last ≡ map)
MapDialogue map (line ∷ more) text last =
    (reply : Reply) × (rest : Bytes) × (text ≡ text_of reply ++ rest) × (IsMapReply map (request_of line) reply ⊎ IsRefusal reply)
    × MapDialogue (map_behind (request_of line) reply map) more rest last
