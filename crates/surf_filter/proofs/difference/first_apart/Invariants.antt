use Rattle.std.specs.Prelude.{◌≡◌, ◌<◌, length, take}
use Rattle.surf_filter.proofs.difference.first_apart.Given as goal

-- the leaves before are alike, and each cursor is at the next one, where it has one
abbrev pub invariant-loop-n : goal.invariant-loop-n
invariant-loop-n g l =
    (take l.n l.trie.leaves ≡ take l.n l.other.leaves)
    × (l.cursor.image ≡ l.trie) × (l.n < length l.trie.leaves → l.cursor.leaf ≡ l.n)
    × (l.others.image ≡ l.other) × (l.n < length l.other.leaves → l.others.leaf ≡ l.n)
