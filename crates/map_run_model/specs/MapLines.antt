-- The lines that a static map answers, and their replies: those of the store's lines that only read.
use Rattle.std.specs.Prelude.{◌≡◌, ◌⊎◌, ◌||◌, nat_le, Bool, if◌then◌else◌, ◌==◌, List, [], ◌∷◌, ◌++◌, length, Some, None, codes, bytes_eq}
use Rattle.std.specs.List.{slice_split}
use Rattle.std.specs.Option.{option_map_or}
use Rattle.key_base.specs.Limits.{max_line_bytes}
use Rattle.line_model.specs.Limits.{limit_of}
use Rattle.line_model.specs.Replies.{BadLine, Bye, Counted, End, Memory, Pairs, Reply, found, got, text_of}
use Rattle.line_model.specs.Requests.{Bad, Compact, Count, Del, Estimate, Explain, Flush, Get, Put, Quit, Range, Request, Seek, asked_by}
use Rattle.map_model.specs.Slices.{count, seek, slice}
use Rattle.map_model.specs.SortedMap.{Bytes, Map, get}

-- the verbs of these lines
abbrev pub is_map_verb : Bytes → Bool
is_map_verb verb = bytes_eq verb (codes "get") || bytes_eq verb (codes "seek") || bytes_eq verb (codes "range") || bytes_eq verb (codes "count") || bytes_eq verb (codes "quit")

-- another verb is refused before its words are counted
abbrev pub map_asked_by : List Bytes → Request
map_asked_by [] = Bad 2
map_asked_by (verb ∷ words) = if is_map_verb verb then asked_by (verb ∷ words) else Bad 2

-- what a line asks of a map
abbrev pub map_request_of : Bytes → Request
map_request_of line = if nat_le (length line) max_line_bytes then map_asked_by (slice_split (λ b. b == 32) line) else Bad 1

-- some pairs, and how many they are
abbrev pub listed : Map → Reply
listed pairs = Pairs pairs (End (length pairs))

-- the limit that a request breaks, or the answer where it breaks none
abbrev pub within_limits : Request → Reply → Reply
within_limits request answer = option_map_or (λ (limit : Reply). limit) (limit_of request) answer

-- the reply to a request; none of these lines asks for a change
abbrev pub map_reply : Map → Request → Reply
map_reply map (Get key) = within_limits (Get key) (got (get map key))
map_reply map (Seek lo hi) = within_limits (Seek lo hi) (found (seek map lo hi))
map_reply map (Range lo hi n) = within_limits (Range lo hi n) (listed (slice map lo (Some hi) n))
map_reply map (Count lo hi) = within_limits (Count lo hi) (Counted (count map lo (Some hi)))
map_reply map Quit = Bye
map_reply map (Bad code) = BadLine code
map_reply map (Put key value) = BadLine 2
map_reply map (Del key) = BadLine 2
map_reply map (Estimate lo hi) = BadLine 2
map_reply map (Explain key) = BadLine 2
map_reply map Flush = BadLine 2
map_reply map Compact = BadLine 2

-- a request that starts a walk, for which memory may be lacking
abbrev pub IsWalk : Request → Type 0
IsWalk (Seek lo hi) = Unit {0}
IsWalk (Range lo hi n) = Unit {0}
IsWalk request = ⊥

-- the map's reply; or `memory`, of a walk within its limits
abbrev pub IsReplyOf : Map → Request → Reply → Type 0
IsReplyOf map request reply = (reply ≡ map_reply map request) ⊎ ((reply ≡ Memory) × IsWalk request × (limit_of request ≡ None))

-- These lines were answered in their order with this text, each by the map, and none of them asked to end.
abbrev pub Answers : Map → List Bytes → Bytes → Type 0
Answers map [] text = text ≡ []
Answers map (line ∷ more) text =
    (reply : Reply) × (rest : Bytes) × (text ≡ text_of reply ++ rest) × IsReplyOf map (map_request_of line) reply × (map_request_of line ≡ Quit → ⊥) × Answers map more rest
