-- What a list of leaves answers of a string and of a range.
use Rattle.std.specs.Prelude.{ℕ, ◌-◌, ◌*◌, ◌^◌, ◌==◌, nat_lt, Bool, cond, not, ◌&&◌, ◌||◌, List, [], ◌++◌, length, drop, count_by, Option, Some, None}
use Rattle.std.specs.Bool.{beq}
use Rattle.std.specs.List.{common_prefix_len, list_any, position_from}
use Rattle.filter_model.specs.Strings.{is_before, bytes_eq, is_prefix, prefix_number, shortest, bits}
use Rattle.filter_model.specs.Leaves.{Leaf, hash_bits_of}

-- x fits the leaf, hash apart: it is the stub of a leaf that ends, or goes on from the stub with the leaf's real bits
abbrev pub fits : ℕ → List ℕ → Leaf → Bool
fits real_bits x l = cond l.ends (bytes_eq l.stub x) (is_prefix l.stub x && (bits real_bits (drop (length l.stub) x) == l.real))

-- x fits the leaf as a point: the hash bits are those of x too
abbrev pub fits_point : ℕ → ℕ → List ℕ → Leaf → Bool
fits_point hash_bits real_bits x l = fits real_bits x l && (hash_bits_of hash_bits x == l.hash)

-- some leaf fits x as a point
abbrev pub point : ℕ → ℕ → List Leaf → List ℕ → Bool
point hash_bits real_bits leaves x = list_any (fits_point hash_bits real_bits x) leaves

-- the least string that fits: the stub, and the real bits in bytes without the zero bytes at the end
abbrev pub begins : ℕ → Leaf → List ℕ
begins real_bits l = l.stub ++ cond l.ends [] (shortest 4 (l.real * 2 ^ (32 - real_bits)))

-- every string that fits is below lo: the stub ends and is below lo, or the bits of the stub and the real bits are
-- below the first bits of lo
abbrev pub is_past : ℕ → List ℕ → Leaf → Bool
is_past real_bits lo l =
    let stub = prefix_number (length l.stub) l.stub in
    let first = prefix_number (length l.stub) lo in
    cond l.ends (is_before l.stub lo) (nat_lt stub first || ((stub == first) && nat_lt l.real (bits real_bits (drop (length l.stub) lo))))

-- the leaf may stand for a key from lo to hi
abbrev pub meets : ℕ → List ℕ → List ℕ → Leaf → Bool
meets real_bits lo hi l = not (is_before hi (begins real_bits l)) && not (is_past real_bits lo l)

-- some leaf may
abbrev pub ranged : ℕ → List Leaf → List ℕ → List ℕ → Bool
ranged real_bits leaves lo hi = list_any (meets real_bits lo hi) leaves

-- the number of the first leaf that is not past lo
abbrev pub first : ℕ → List Leaf → List ℕ → Option ℕ
first real_bits leaves lo = position_from (λ l. not (is_past real_bits lo l)) 0 leaves

-- how many leaves may stand for a key from lo to hi
abbrev pub tally : ℕ → List Leaf → List ℕ → List ℕ → ℕ
tally real_bits leaves lo hi = count_by (meets real_bits lo hi) leaves

-- how many keys of a list lie from lo to hi
abbrev pub is_within : List ℕ → List ℕ → List ℕ → Bool
is_within lo hi k = not (is_before k lo) && not (is_before hi k)

abbrev pub true_count : List (List ℕ) → List ℕ → List ℕ → ℕ
true_count keys lo hi = count_by (is_within lo hi) keys

-- how many come before lo
abbrev pub keys_below : List (List ℕ) → List ℕ → ℕ
keys_below keys lo = count_by (λ k. is_before k lo) keys

-- ---- two lists of leaves

-- the two are one leaf, hash bits and real bits too
abbrev pub is_same : Leaf → Leaf → Bool
is_same l other = bytes_eq l.stub other.stub && (beq l.ends other.ends && ((l.hash == other.hash) && (l.real == other.real)))

-- the least number at which two lists differ: how many leaves they begin with alike, where these are not all of both
abbrev pub first_difference : List Leaf → List Leaf → Option ℕ
first_difference leaves others =
    let alike = common_prefix_len is_same leaves others in
    cond ((alike == length leaves) && (alike == length others)) None (Some alike)
