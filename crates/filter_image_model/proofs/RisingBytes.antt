-- Bytes that rise, as the loops over a row take them: each at the last place or behind it.
use Rattle.std.proofs.Common.{◌≡◌, ℕ, suc, ◌<◌, ◌≤◌, cond, [], ◌∷◌, ap, arith, Bool}
use Rattle.std.specs.List.{All, AllPairs}
use Rattle.std.proofs.lemmas.Bool.{ne_eqb}
use Rattle.std.proofs.lemmas.List.Elements.{All-cons, All-nil, All-tail}
use Rattle.std.proofs.lemmas.List.Kept.{AllPairs-cons}
use Rattle.filter_model.proofs.Counts.{AllPairs-tail}
use Rattle.filter_model.proofs.Pairs.{AllPairs-nil}
use Rattle.filter_model.specs.Nodes.{Branch, Node}
use Rattle.filter_model.specs.Trie.{END}
use Rattle.trie_model.specs.Letters.{order_of}

-- bytes from c on, rising
abbrev pub RisingBytes : ℕ → Node → Type 0
RisingBytes c [] = Unit {0}
RisingBytes c (b ∷ n) = (c ≤ b.0) × (b.0 < 256) × RisingBytes (suc b.0) n

abbrev pub IsByte : Branch → Type 0
IsByte b = b.0 < END

abbrev pub ComesFirst : Branch → Branch → Type 0
ComesFirst a b = order_of a.0 < order_of b.0

pub byte_order : (c : ℕ) → c < 256 → order_of c ≡ suc c
byte_order c lt = ap (λ (t : Bool). cond {A = ℕ} t 0 (suc c)) (ne_eqb c 256 (λ e. omega (arith, lt, e)))

after : (b : Branch) (n : Node) → b.0 < 256 → All IsByte n → AllPairs ComesFirst (b ∷ n) → RisingBytes (suc b.0) n
after b [] lt l r = tt
after b (d ∷ n) lt l r =
    let small : d.0 < 256 = l 0 d (omega arith) in
    let up = r 0 1 b (omega arith) (omega arith) in
    (omega (arith, up, byte_order b.0 lt, byte_order d.0 small), small, after d n small (All-tail IsByte d n l) (AllPairs-tail ComesFirst b (d ∷ n) r))

-- bytes in the letters' order rise so
pub rising_bytes : (n : Node) → All IsByte n → AllPairs ComesFirst n → RisingBytes 0 n
rising_bytes [] l r = tt
rising_bytes (b ∷ n) l r =
    let small : b.0 < 256 = l 0 b (omega arith) in
    (omega arith, small, after b n small (All-tail IsByte b n l) r)

-- and what rises so are bytes in the letters' order
pub are_bytes : (c : ℕ) (n : Node) → RisingBytes c n → All IsByte n
are_bytes c [] w = All-nil IsByte
are_bytes c (b ∷ n) w = All-cons IsByte b n w.1 (are_bytes (suc b.0) n w.2)

all_above : (c : ℕ) (a : Branch) (n : Node) → a.0 < 256 → a.0 < c → RisingBytes c n → All (ComesFirst a) n
all_above c a [] small lt w = All-nil (ComesFirst a)
all_above c a (b ∷ n) small lt w =
    All-cons (ComesFirst a) b n (omega (arith, byte_order a.0 small, byte_order b.0 w.1, w.0, lt)) (all_above (suc b.0) a n small (omega (arith, w.0, lt)) w.2)

pub in_order_of : (c : ℕ) (n : Node) → RisingBytes c n → AllPairs ComesFirst n
in_order_of c [] w = AllPairs-nil ComesFirst
in_order_of c (b ∷ n) w = AllPairs-cons ComesFirst b n (all_above (suc b.0) b n w.1 (omega arith) w.2) (in_order_of (suc b.0) n w.2)
