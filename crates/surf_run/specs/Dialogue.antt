-- Lines that were answered over the state of a store, one after the other, and how much they may read.
use Rattle.std.specs.Prelude.{◌≡◌, ◌+◌, ℕ, List, [], ◌∷◌, ◌++◌, length, Some, None, All}
use Rattle.line_model.specs.Replies.{Reply, text_of}
use Rattle.line_model.specs.Requests.{Compact, Count, Del, Get, Put, Range, Request, Seek, request_of}
use Rattle.map_model.specs.SortedMap.{Bytes}
use Rattle.state_model.specs.Bounds.{get_bound, seek_bound}
use Rattle.state_model.specs.Causes.{Why}
use Rattle.state_model.specs.Script.{Between, Onward, turn_of}
use Rattle.state_model.specs.State.{State}
use Rattle.state_model.specs.Steps.{Step}
use Rattle.table_model.specs.Tables.{FilterBytes}

-- the most blocks that the merge slice after a line reads
abbrev pub slice_blocks : ℕ
slice_blocks = 8

-- how many blocks the reply to a request may read: a get and a closed seek their bounds
abbrev pub reply_bound : State → Request → ℕ
reply_bound s (Get key) = get_bound s key
reply_bound s (Seek lo (Some hi)) = seek_bound s lo hi
reply_bound s request = 0

-- and the merge slice after it, which a put and a delete have
abbrev pub slice_bound : Request → ℕ
slice_bound (Put key value) = slice_blocks
slice_bound (Del key) = slice_blocks
slice_bound request = 0

abbrev pub line_bound : State → Request → ℕ
line_bound s request = reply_bound s request + slice_bound request

-- a request of which it is told how much it may read: no open seek, no range, no count and no compaction
abbrev pub IsBounded : Request → Type 0
IsBounded (Seek lo None) = ⊥
IsBounded (Range lo hi n) = ⊥
IsBounded (Count lo hi) = ⊥
IsBounded Compact = ⊥
IsBounded request = Unit {0}

abbrev pub AreBounded : List Bytes → Type 0
AreBounded lines = All (λ line. IsBounded (request_of line)) lines

-- The lines are answered in order with this text, no reply and no merge slice ends them, and after the last of them, and its
-- merge slice, is this state. As each reply has been said, with a given number of bytes said by then, the state has R. A given number of blocks
-- at most are read for the lines and their merge slices.
abbrev pub AnsweredLines : (Why → Type 0) → FilterBytes → (ℕ → State → Type 0) → ℕ → State → List Bytes → Bytes → ℕ → State → Type 0
AnsweredLines Cause filter_bytes R said s [] text most now = (text ≡ []) × (most ≡ 0) × (now ≡ s)
AnsweredLines Cause filter_bytes R said s (line ∷ more) text most now =
    (reply : Reply) × (rest : Bytes) × (later : ℕ) × (mid : State) × (next : State) × (text ≡ text_of reply ++ rest) × (most ≡ line_bound s (request_of line) + later)
    × Step Cause filter_bytes s (request_of line) reply mid × (turn_of reply ≡ Onward) × R (said + length (text_of reply)) mid
    × Between Cause filter_bytes (request_of line) mid Onward next
    × AnsweredLines Cause filter_bytes R (said + length (text_of reply)) next more rest later now
