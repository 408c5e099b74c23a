-- The steps of a load: puts and dels that follow from a seed, one after the other.
use Rattle.std.specs.Prelude.{ℕ, zero, suc, ◌+◌, ◌*◌, ◌/◌, ◌%◌, ◌^◌, ◌==◌, if◌then◌else◌, List, [], ◌∷◌, ◌++◌}
use Rattle.byteorder.specs.Endian.{big_bytes, little_bytes}
use Rattle.map_model.specs.SortedMap.{Bytes}
use Rattle.entry_model.specs.Entries.{Entry, put_entry, del_entry}

-- the number behind a number, of 64 bits
abbrev pub next_number : ℕ → ℕ
next_number x = (x * 6364136223846793005 + 1442695040888963407) % 2 ^ 64

-- the key of a number: its three highest bytes, the highest first
abbrev pub loaded_key : ℕ → Bytes
loaded_key x = big_bytes 3 (x / 2 ^ 40)

-- where bits 32, 33 and 34 are 0 the number deletes its key; else it puts its eight bytes, the lowest first
abbrev pub step_of : ℕ → Entry
step_of x = if (x / 2 ^ 32) % 8 == 0 then del_entry (loaded_key x) else put_entry (loaded_key x) (little_bytes 8 x)

-- the nth number behind a seed
abbrev pub number_after : ℕ → ℕ → ℕ
number_after seed zero = seed
number_after seed (suc n) = next_number (number_after seed n)

-- the first n steps of a seed
abbrev pub first_steps : ℕ → ℕ → List Entry
first_steps seed zero = []
first_steps seed (suc n) = first_steps seed n ++ step_of (number_after seed (suc n)) ∷ []
