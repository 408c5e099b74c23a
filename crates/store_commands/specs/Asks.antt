-- What a line that was read asks.
use Rattle.std.specs.Prelude.{◌≡◌, ◌<◌, ◌≤◌, ◌+◌, ◌/◌, ℕ, List, [], ◌∷◌, length, Result, Ok, Err, option_map}
use Rattle.key_base.specs.Limits.{max_line_bytes}
use Rattle.map_model.specs.SortedMap.{Bytes}
use Rattle.line_model.specs.Requests as line
use Rattle.store_commands.specs.declared.request.BadLine.{BadLine}
use Rattle.store_commands.specs.declared.request.Request.{Request}
use Rattle.store_commands.specs.declared.request.Request.TheVariants.{Put, Del, Get, Seek, Range, Count, Estimate, Explain, Flush, Compact, Quit}
use Rattle.store_commands.specs.declared.words.Words.{Words}
use Rattle.store_commands.specs.declared.words.Words.TheVariants.{Zero, One, Two, Three, More}

-- what a request is in the grammar
abbrev pub asked : Request → line.Request
asked (Put key value) = line.Put key.now value.now
asked (Del key) = line.Del key.now
asked (Get key) = line.Get key.now
asked (Seek lo hi) = line.Seek lo.now (option_map (λ bound. bound.now) hi)
asked (Range lo hi n) = line.Range lo.now hi.now n
asked (Count lo hi) = line.Count lo.now hi.now
asked (Estimate lo hi) = line.Estimate lo.now hi.now
asked (Explain key) = line.Explain key.now
asked Flush = line.Flush
asked Compact = line.Compact
asked Quit = line.Quit

-- a line that asks this, or is bad with this code, was read so
abbrev pub Asks : Result Request BadLine → line.Request → Type 0
Asks (Ok request) asks = asks ≡ asked request
Asks (Err bad) asks = asks ≡ line.Bad bad.0

-- these are the words
abbrev pub AreWords : Words → List Bytes → Type 0
AreWords Zero words = words ≡ []
AreWords (One first) words = words ≡ first.now ∷ []
AreWords (Two first second) words = words ≡ first.now ∷ second.now ∷ []
AreWords (Three first second third) words = words ≡ first.now ∷ second.now ∷ third.now ∷ []
AreWords More words = 3 < length words

-- the room for what the words of any line spell: two digits a byte
abbrev pub scratch_bytes : ℕ
scratch_bytes = max_line_bytes / 2

-- the first two of the words have together at most so many bytes
abbrev pub AreWithin : ℕ → Words → Type 0
AreWithin most Zero = Unit {0}
AreWithin most (One first) = length first.now ≤ most
AreWithin most (Two first second) = length first.now + length second.now ≤ most
AreWithin most (Three first second third) = length first.now + length second.now ≤ most
AreWithin most More = Unit {0}
