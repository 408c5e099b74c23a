-- Which replies depend on the map alone.
use Rattle.std.specs.Prelude.{◌≡◌}
use Rattle.line_model.specs.Requests.{Bad, Count, Get, Quit, Range, Request, Seek}
use Rattle.state_model.specs.State.{State}
use Rattle.state_model.specs.Steps.{answer}
use Rattle.state_model.specs.View.{state_map}
use Rattle.table_model.specs.Tables.{FilterBytes}

-- the requests that ask for pairs, and those that ask for nothing of the store
abbrev pub IsOfPairs : Request → Type 0
IsOfPairs (Get key) = Unit {0}
IsOfPairs (Seek lo hi) = Unit {0}
IsOfPairs (Range lo hi n) = Unit {0}
IsOfPairs (Count lo hi) = Unit {0}
IsOfPairs Quit = Unit {0}
IsOfPairs (Bad code) = Unit {0}
IsOfPairs request = ⊥

-- In two states with one map they are answered the same, wherever the pairs lie and whatever merge runs. A change is answered `ok`
-- or refused by its state; an estimate and an explanation speak of tables.
abbrev pub RepliesAreOfTheMap : Type 0
RepliesAreOfTheMap =
    (filter_bytes : FilterBytes) (s t : State) (request : Request) → IsOfPairs request → state_map s ≡ state_map t
    → (answer filter_bytes s request).0 ≡ (answer filter_bytes t request).0
