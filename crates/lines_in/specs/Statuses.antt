-- The exit statuses of a run, each number in one place.
use Rattle.std.specs.Prelude.{ℕ}

-- all was done, and said
abbrev pub done_status : ℕ
done_status = 0

-- wrong words
abbrev pub wrong_words_status : ℕ
wrong_words_status = 2

-- the input failed
abbrev pub input_status : ℕ
input_status = 3

-- the device failed
abbrev pub device_status : ℕ
device_status = 4

-- what was read of the device is damaged
abbrev pub damaged_status : ℕ
damaged_status = 5

-- the output failed
abbrev pub output_status : ℕ
output_status = 6

-- out of memory
abbrev pub memory_status : ℕ
memory_status = 7

-- not a store, already a store, a number out of range
abbrev pub store_status : ℕ
store_status = 8

-- 2^40 bytes were taken
abbrev pub limit_status : ℕ
limit_status = 9

-- the last epoch
abbrev pub last_epoch_status : ℕ
last_epoch_status = 10

-- a check found something wrong
abbrev pub findings_status : ℕ
findings_status = 12
