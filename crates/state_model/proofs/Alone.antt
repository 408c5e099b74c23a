-- After a line that is no put and no del comes no merge slice.
use Rattle.std.proofs.Common.{◌≡◌, true, false}
use Rattle.table_model.specs.Tables.{FilterBytes}
use Rattle.line_model.specs.Requests.{Request, Put, Del, Get, Seek, Range, Count, Estimate, Explain, Flush, Compact, Quit, Bad}
use Rattle.state_model.specs.State.{State}
use Rattle.state_model.specs.Causes.{Why}
use Rattle.state_model.specs.Script.{Turn, Onward, Between}
use Rattle.state_model.specs.PlayLaws.{has_slice}

pub no_slice : (Cause : Why → Type 0) (filter_bytes : FilterBytes) (request : Request) (s after : State) (turn : Turn) → has_slice request ≡ false
    → Between Cause filter_bytes request s turn after → (turn ≡ Onward) × (after ≡ s)
no_slice Cause filter_bytes (Put key value) s after turn other between = let wrong : true ≡ false = other in absurd cc
no_slice Cause filter_bytes (Del key) s after turn other between = let wrong : true ≡ false = other in absurd cc
no_slice Cause filter_bytes (Get key) s after turn other between = between
no_slice Cause filter_bytes (Seek lo hi) s after turn other between = between
no_slice Cause filter_bytes (Range lo hi n) s after turn other between = between
no_slice Cause filter_bytes (Count lo hi) s after turn other between = between
no_slice Cause filter_bytes (Estimate lo hi) s after turn other between = between
no_slice Cause filter_bytes (Explain key) s after turn other between = between
no_slice Cause filter_bytes Flush s after turn other between = between
no_slice Cause filter_bytes Compact s after turn other between = between
no_slice Cause filter_bytes Quit s after turn other between = between
no_slice Cause filter_bytes (Bad code) s after turn other between = between
