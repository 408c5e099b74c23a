-- What a line asks.
use Rattle.std.specs.Prelude.{ℕ, ◌+◌, ◌-◌, ◌*◌, ◌==◌, nat_le, ◌&&◌, if◌then◌else◌, List, [], ◌∷◌, length, fold, Option, Some, None, codes, decimal, bytes_eq}
use Rattle.std.specs.List.{slice_split}
use Rattle.key_base.specs.Limits.{max_line_bytes, max_range_pairs}
use Rattle.map_model.specs.SortedMap.{Bytes}
use Rattle.line_model.specs.Lines.{bytes_in}

-- what a line asks, or the code that a bad one is answered with
pub data Request : Type 0 where
  Put : (key : Bytes) → (value : Bytes) → Request
  Del : (key : Bytes) → Request
  Get : (key : Bytes) → Request
  Seek : (lo : Bytes) → (hi : Option Bytes) → Request
  Range : (lo : Bytes) → (hi : Bytes) → (n : ℕ) → Request
  Count : (lo : Bytes) → (hi : Bytes) → Request
  Estimate : (lo : Bytes) → (hi : Bytes) → Request
  Explain : (key : Bytes) → Request
  Flush : Request
  Compact : Request
  Quit : Request
  Bad : (code : ℕ) → Request

-- the number that decimal digits spell
abbrev pub decimal_number : Bytes → ℕ
decimal_number word = fold (λ n digit. 10 * n + (digit - 48)) 0 word

-- it is no more than the pairs of a range may be, and is written in the one way
abbrev pub number_in : Bytes → Option ℕ
number_in word = if bytes_eq word (decimal (decimal_number word)) && nat_le (decimal_number word) max_range_pairs then Some (decimal_number word) else None

-- what is asked of a key, or of two, where the words are keys
abbrev pub with_one : (Bytes → Request) → Option Bytes → Request
with_one asks (Some key) = asks key
with_one asks None = Bad 4

abbrev pub with_two : (Bytes → Bytes → Request) → Option Bytes → Option Bytes → Request
with_two asks (Some lo) (Some hi) = asks lo hi
with_two asks (Some lo) None = Bad 4
with_two asks None hi = Bad 4

abbrev pub with_number : (ℕ → Request) → Option ℕ → Request
with_number asks (Some n) = asks n
with_number asks None = Bad 5

-- what stands behind a verb: no word, one, two, one or two, or two and a number

abbrev pub none_of : Request → List Bytes → Request
none_of asked [] = asked
none_of asked words = Bad 3

abbrev pub one_of : (Bytes → Request) → List Bytes → Request
one_of asks (key ∷ []) = with_one asks (bytes_in key)
one_of asks words = Bad 3

abbrev pub two_of : (Bytes → Bytes → Request) → List Bytes → Request
two_of asks (lo ∷ hi ∷ []) = with_two asks (bytes_in lo) (bytes_in hi)
two_of asks words = Bad 3

abbrev pub seek_of : List Bytes → Request
seek_of (lo ∷ []) = with_one (λ lo. Seek lo None) (bytes_in lo)
seek_of (lo ∷ hi ∷ []) = with_two (λ lo hi. Seek lo (Some hi)) (bytes_in lo) (bytes_in hi)
seek_of words = Bad 3

abbrev pub range_of : List Bytes → Request
range_of (lo ∷ hi ∷ n ∷ []) = with_two (λ lo hi. with_number (Range lo hi) (number_in n)) (bytes_in lo) (bytes_in hi)
range_of words = Bad 3

abbrev pub asked_by : List Bytes → Request
asked_by [] = Bad 2
asked_by (verb ∷ words) =
    if bytes_eq verb (codes "put") then two_of Put words
    else (if bytes_eq verb (codes "del") then one_of Del words
    else (if bytes_eq verb (codes "get") then one_of Get words
    else (if bytes_eq verb (codes "seek") then seek_of words
    else (if bytes_eq verb (codes "range") then range_of words
    else (if bytes_eq verb (codes "count") then two_of Count words
    else (if bytes_eq verb (codes "estimate") then two_of Estimate words
    else (if bytes_eq verb (codes "explain") then one_of Explain words
    else (if bytes_eq verb (codes "flush") then none_of Flush words
    else (if bytes_eq verb (codes "compact") then none_of Compact words
    else (if bytes_eq verb (codes "quit") then none_of Quit words else Bad 2))))))))))

-- a line within its limit, in words that are parted by exactly one space
abbrev pub request_of : Bytes → Request
request_of line = if nat_le (length line) max_line_bytes then asked_by (slice_split (λ b. b == 32) line) else Bad 1
