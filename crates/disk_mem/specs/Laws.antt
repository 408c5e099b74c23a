-- The laws of crashes.
use Rattle.std.specs.Prelude.{◌≡◌, ◌≤◌, ℕ, List, ◌++◌, length}
use Rattle.disk_mem.specs.Calls.{Call, Left}
use Rattle.disk_mem.specs.Choices.{Pick, AreBytePicks, crash_bytes, pending}

-- what is made by a choice is one of what a crash may leave
abbrev pub CrashIsLeft : Type 0
CrashIsLeft = (first : List ℕ) (calls : List Call) (picks : List Pick) → AreBytePicks picks → Left first calls (crash_bytes first calls picks)

-- and each one of these is made by some choice
abbrev pub EachIsOfAChoice : Type 0
EachIsOfAChoice = (first : List ℕ) (calls : List Call) (now : List ℕ) → Left first calls now → (picks : List Pick) × AreBytePicks picks × (now ≡ crash_bytes first calls picks)

-- choices past the last write are not read
abbrev pub PastTheLastAreNotRead : Type 0
PastTheLastAreNotRead = (first : List ℕ) (calls : List Call) (picks more : List Pick) → pending calls ≤ length picks → crash_bytes first calls (picks ++ more) ≡ crash_bytes first calls picks
