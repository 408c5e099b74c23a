-- How many bytes two byte strings begin with alike, and what that says of the order of three.
use Rattle.std.specs.Prelude.{◌≡◌, ◌<◌, ◌≤◌, ◌+◌, ◌==◌, ℕ, ◌++◌, length, take, drop}
use Rattle.std.specs.List.{common_prefix_len}
use Rattle.key_base.specs.ByteOrder.{Bytes, byte_order}

-- the length of the longest prefix that both have
abbrev pub alike : Bytes → Bytes → ℕ
alike x y = common_prefix_len (λ a b. a == b) x y

-- law: where x has more alike with y than with z, y compares with z as x does, and has as much alike with it
abbrev pub CloserDecides : Type 0
CloserDecides = (x y z : Bytes) → alike x z < alike x y → (byte_order y z ≡ byte_order x z) × (alike y z ≡ alike x z)

-- law: where y and z have n bytes alike with x, they have them alike with each other, and the rests compare as they do
abbrev pub RestsDecide : Type 0
RestsDecide = (n : ℕ) (x y z : Bytes) → n ≤ alike x y → n ≤ alike x z
    → (byte_order y z ≡ byte_order (drop n y) (drop n z)) × (alike y z ≡ n + alike (drop n y) (drop n z))

-- law: a key is what it shares with the one before, and its own rest
abbrev pub SharedAndRest : Type 0
SharedAndRest = (n : ℕ) (before key : Bytes) → n ≤ alike before key → take n before ++ drop n key ≡ key

-- law: of a key that is n bytes of the one before and a rest, the rest says how the two compare and what they have alike
abbrev pub RestComparesAsKey : Type 0
RestComparesAsKey = (n : ℕ) (before rest : Bytes) → n ≤ length before
    → (byte_order before (take n before ++ rest) ≡ byte_order (drop n before) rest) × (alike before (take n before ++ rest) ≡ n + alike (drop n before) rest)
