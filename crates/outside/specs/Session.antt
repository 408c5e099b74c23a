-- An outside in memory as contracts see it, and the clock on which its disk's calls and its says follow one another.
use Rattle.std.specs.Prelude.{◌≡◌, ◌⊎◌, ◌≤◌, ◌+◌, ◌-◌, ◌++◌, ℕ, suc, List, [], ◌∷◌, length, min, take, drop, nat_lt, if◌then◌else◌, Contains, Result, MatchResult, ⊤}
use Rattle.disk_trait.specs.World.{World}
use Rattle.disk_mem.specs.History.{History, LeftImage, disk_world, counted_on}
use Rattle.disk_mem.specs.Calls.{calls_by}
use Rattle.outside.specs.declared.mark.Mark.{Mark}

pub record Session : Type 0 where
  pub disk : History
  pub to_take : List ℕ
  pub said : List ℕ
  pub marks : List Mark  -- one for each say that was done, the latest first
  pub failing_takes : List ℕ  -- the numbers, from 0, of the takes that fail, and of the says
  pub failing_says : List ℕ
  pub takes : ℕ  -- the number of the next take, and that of the next say
  pub says : ℕ
  pub take_faults : ℕ
  pub say_faults : ℕ
  pub pace : ℕ  -- the most bytes that one take or say moves

-- ---- the clock: it counts the disk's calls and the says

-- how many says there had been by a moment: the one of a mark took place after so many calls and after the says before it
abbrev pub says_by : List Mark → ℕ → ℕ
says_by [] m = 0
says_by (mark ∷ earlier) m = if nat_lt (mark.calls + length earlier) m then suc (length earlier) else says_by earlier m

-- how many bytes they had said
abbrev pub bytes_by : List Mark → ℕ → ℕ
bytes_by [] m = 0
bytes_by (mark ∷ earlier) m = if nat_lt (mark.calls + length earlier) m then mark.said else bytes_by earlier m

abbrev pub now_of : Session → ℕ
now_of s = length s.disk.calls + length s.marks

-- how many of the disk's calls there had been by a moment
abbrev pub disk_moment : Session → ℕ → ℕ
disk_moment s m = if nat_lt m (now_of s) then m - says_by s.marks m else length s.disk.calls

-- how many bytes had been said by a moment
abbrev pub said_by_moment : Session → ℕ → ℕ
said_by_moment s m = if nat_lt m (now_of s) then bytes_by s.marks m else length s.said

abbrev pub session_world : Session → World
session_world s = record {
  seen = (disk_world s.disk).seen;
  moment = now_of s;
  leaves = λ m image. LeftImage s.disk.first (calls_by (disk_moment s m) s.disk.calls) image;
  beside = record { to_take = s.to_take; said = s.said; said_by = said_by_moment s; take_faults = s.take_faults; say_faults = s.say_faults };
}

-- ---- what every session keeps

-- no mark was set after more than n calls, nor before an earlier one
abbrev pub AreInOrder : ℕ → List Mark → Type 0
AreInOrder n [] = ⊤
AreInOrder n (mark ∷ earlier) = (mark.calls ≤ n) × AreInOrder mark.calls earlier

-- how many bytes the latest say had said
abbrev pub last_said : List Mark → ℕ
last_said [] = 0
last_said (mark ∷ earlier) = mark.said

pub record IsClock (calls said : ℕ) (marks : List Mark) : Type 0 where
  pub in_order : AreInOrder calls marks
  pub last : last_said marks ≡ said

-- ---- how takes and says end

-- new, with this disk, this input, and takes and says of these numbers to fail
abbrev pub fresh : History → List ℕ → List ℕ → List ℕ → ℕ → Session
fresh disk input takes says pace = record {
  disk = disk;
  to_take = input;
  said = [];
  marks = [];
  failing_takes = takes;
  failing_says = says;
  takes = 0;
  says = 0;
  take_faults = 0;
  say_faults = 0;
  pace = pace;
}

-- a take of at most so many bytes: as many as it may, off the start of what is left; or its number is listed
abbrev pub TakeEnds : {E : Type 0} → ℕ → Result ℕ E → Session → Session → Type 0
TakeEnds room result old new = MatchResult result
    (λ n. ¬ Contains old.failing_takes old.takes × (n ≡ min old.pace (min room (length old.to_take)))
    × (new ≡ record old { to_take = drop n old.to_take; takes = counted_on old.takes }))
    (λ _. Contains old.failing_takes old.takes × (new ≡ record old { takes = counted_on old.takes; take_faults = counted_on old.take_faults }))

-- a say without memory: it does nothing and has no number
abbrev pub StarvesSay : Session → Session → Type 0
StarvesSay old new = new ≡ record old { say_faults = counted_on old.say_faults }

-- a say of these bytes: as many as it may; or its number is listed; or it is without memory, and has none
abbrev pub SayEnds : {E : Type 0} → List ℕ → Result ℕ E → Session → Session → Type 0
SayEnds from result old new = MatchResult result
    (λ n. ¬ Contains old.failing_says old.says × (n ≡ min old.pace (length from))
    × (new ≡ record old { said = old.said ++ take n from; marks = record { calls = length old.disk.calls; said = length old.said + n } ∷ old.marks; says = counted_on old.says }))
    (λ _. (Contains old.failing_says old.says × (new ≡ record old { says = counted_on old.says; say_faults = counted_on old.say_faults }))
    ⊎ StarvesSay old new)
