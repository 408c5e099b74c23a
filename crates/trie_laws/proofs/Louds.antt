-- S-LOUDS: the set bits are the places at which the nodes begin.
use Rattle.std.proofs.Common.{◌≡◌, ℕ, zero, suc, ◌+◌, ◌<◌, ◌≤◌, List, [], ◌∷◌, length, get_or, take, refl, ap, subst, sym, ◌∙◌, arith, map, Bool, true, false, cond, inl, inr, length-append}
use Rattle.std.specs.Prelude.{count_by, All}
use Rattle.std.proofs.lemmas.List.{length-map, get_or-append-add, take-take, take_all}
use Rattle.std.proofs.Math.Seq.{take-append-add}
use Rattle.std.proofs.lemmas.List.Elements.{All-head, All-tail}
use Rattle.std.proofs.lemmas.List.Sums.{sum_by-append, sum_by-cons, count_by_more_yes, sum_by-take-le}
use Rattle.std.proofs.lemmas.Bool.{cases_order, false≢true}
use Rattle.filter_model.specs.Nodes.{Branch, Node, all, first_place}
use Rattle.filter_model.specs.Image.{opening, sparse_louds}
use Rattle.bit_select.specs.Place.{IsPlaceOfOne}
use Rattle.trie_laws.specs.Louds.{IsNode}

one : Bool → ℕ
one b = cond b 1 0

-- a node opens with one set bit
opening_long : (n : Node) → length (opening n) ≡ length n
opening_long [] = refl
opening_long (b ∷ n) = ap suc (length-map n (λ (x : Branch). false))

none_set : (n : Node) → count_by (λ (b : Bool). b) (map (λ (x : Branch). false) n) ≡ 0
none_set [] = refl
none_set (b ∷ n) = sum_by-cons (λ (b : Bool). cond b 1 0) false (map (λ (x : Branch). false) n) ∙ ap (λ (k : ℕ). 0 + k) (none_set n)

pub opening_one : (n : Node) → IsNode n → count_by (λ (b : Bool). b) (opening n) ≡ 1
opening_one [] w = absurd w
opening_one (b ∷ n) w = sum_by-cons (λ (b : Bool). cond b 1 0) true (map (λ (x : Branch). false) n) ∙ ap (λ (k : ℕ). 1 + k) (none_set n)

-- node v begins at the set bit v
pub louds_first : (ns : List Node) (v : ℕ) → All IsNode ns → v < length ns → IsPlaceOfOne (sparse_louds ns) v (first_place ns v)
louds_first [] v w l = absurd (omega arith)
louds_first ([] ∷ ns) v w l = absurd (All-head IsNode [] ns w)
louds_first ((b ∷ n) ∷ ns) zero w l = record { is_set = refl; before = refl }
louds_first ((b ∷ n) ∷ ns) (suc v) w l =
    let m : Node = b ∷ n in
    let ih = louds_first ns v (All-tail IsNode m ns w) (omega arith) in
    let long = opening_long m in
    let begins : first_place (m ∷ ns) (suc v) ≡ length (opening m) + first_place ns v = length-append m (all (take v ns)) ∙ ap (λ k. k + first_place ns v) (sym long) in
    let ones = opening_one m (All-head IsNode m ns w) in
    let P : ℕ → Type 0 = λ k. IsPlaceOfOne (sparse_louds (m ∷ ns)) (suc v) k in
    subst P (sym begins) (record {
      is_set = get_or-append-add (opening m) (sparse_louds ns) (first_place ns v) false ∙ ih.is_set;
      before =
          ap (count_by (λ (b : Bool). b)) (take-append-add (opening m) (sparse_louds ns) (first_place ns v))
          ∙ sum_by-append (λ (b : Bool). cond b 1 0) (opening m) (take (first_place ns v) (sparse_louds ns))
          ∙ omega (arith, ones, ih.before);
    })

-- as many bits are set as there are nodes
pub louds_count : (ns : List Node) → All IsNode ns → count_by (λ (b : Bool). b) (sparse_louds ns) ≡ length ns
louds_count [] w = refl
louds_count (n ∷ ns) w =
    let ih = louds_count ns (All-tail IsNode n ns w) in
    let ones = opening_one n (All-head IsNode n ns w) in
    sum_by-append (λ (b : Bool). cond b 1 0) (opening n) (sparse_louds ns) ∙ omega (arith, ones, ih)

-- before a later set bit more bits are set
pub nth_below : (bits : List Bool) (i j : ℕ) → i < j → j ≤ length bits → get_or bits i false ≡ true → count_by (λ (b : Bool). b) (take i bits) < count_by (λ (b : Bool). b) (take j bits)
nth_below bits i j l m e =
    let more = count_by_more_yes (λ (b : Bool). b) bits i false (omega arith) e in
    let up = sum_by-take-le (λ (b : Bool). cond b 1 0) (take j bits) (i + 1) in
    let part = ap (count_by (λ (b : Bool). b)) (take-take (i + 1) j bits (omega arith)) in
    omega (arith, more, up, part)

-- a place that holds a set bit is within
pub set_within : (bits : List Bool) (i : ℕ) → get_or bits i false ≡ true → i < length bits
set_within [] i e = absurd (false≢true e)
set_within (b ∷ bits) zero e = omega arith
set_within (b ∷ bits) (suc i) e = omega (arith, set_within bits i e)

-- the nth set bit is one
pub nth_one : (bits : List Bool) (n i j : ℕ) → IsPlaceOfOne bits n i → IsPlaceOfOne bits n j → i ≡ j
nth_one bits n i j a b = elim (cases_order i j) [
  | inl same ↦ same
  | inr apart ↦ elim apart [
    | inl lt ↦ absurd (let h = nth_below bits i j lt (omega (arith, set_within bits j b.is_set)) a.is_set in omega (arith, a.before, b.before))
    | inr gt ↦ absurd (let h = nth_below bits j i gt (omega (arith, set_within bits i a.is_set)) b.is_set in omega (arith, a.before, b.before))
  ]
]

first_all : (ns : List Node) → first_place ns (length ns) ≡ length (all ns)
first_all ns = ap (λ (ms : List Node). length (all ms)) (take_all (length ns) ns (omega arith))

-- what `select` answers of S-LOUDS is where the node begins, and nothing exactly behind the last node
pub first_by_Some : (ns : List Node) (v p : ℕ) → All IsNode ns → v ≤ length ns → IsPlaceOfOne (sparse_louds ns) v p → p ≡ first_place ns v
first_by_Some ns v p w l h =
    let more = count_by_more_yes (λ (b : Bool). b) (sparse_louds ns) p false (set_within (sparse_louds ns) p h.is_set) h.is_set in
    let up = sum_by-take-le (λ (b : Bool). cond b 1 0) (sparse_louds ns) (p + 1) in
    let count = louds_count ns w in
    let lt : v < length ns = omega (arith, more, up, count, h.before) in
    nth_one (sparse_louds ns) v p (first_place ns v) h (louds_first ns v w lt)

pub first_by_None : (ns : List Node) (v : ℕ) → All IsNode ns → v ≤ length ns → count_by (λ (b : Bool). b) (sparse_louds ns) ≤ v → length (all ns) ≡ first_place ns v
first_by_None ns v w l h =
    let count = louds_count ns w in
    let same : v ≡ length ns = omega (arith, count) in
    rw same (sym (first_all ns))

-- each node has a branch
pub length-le-all : (ns : List Node) → All IsNode ns → length ns ≤ length (all ns)
length-le-all [] w = omega arith
length-le-all ([] ∷ ns) w = absurd (All-head IsNode [] ns w)
length-le-all ((b ∷ n) ∷ ns) w = let ih = length-le-all ns (All-tail IsNode (b ∷ n) ns w) in omega (arith, ih, length-append n (all ns))
