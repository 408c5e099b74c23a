-- Sparse nodes and the sections that spell them.
use Rattle.std.proofs.Common.{◌≡◌, ℕ, suc, ◌<◌, ◌≤◌, List, [], ◌∷◌, ◌++◌, length, refl, ap, sym, ◌∙◌, arith, map, Bool, true, false, cond, inl, inr}
use Rattle.std.specs.Prelude.{◌==◌, count_by, zip}
use Rattle.std.specs.List.{AllByRecursion}
use Rattle.std.proofs.lemmas.Bool.{cases_Bool, cases_eq, ne_eqb, eq-eqb, eqb-true}
use Rattle.std.proofs.lemmas.List.{map-append, append-nil}
use Rattle.filter_model.proofs.Counts.{count_by-cons}
use Rattle.filter_model.specs.Image.{label_of, opening, sparse_labels, sparse_children, sparse_louds}
use Rattle.filter_model.specs.Nodes.{Branch, Node, all}
use Rattle.filter_model.specs.Trie.{END}
use Rattle.trie_laws.specs.Louds.{IsNode}
use Rattle.filter_image_model.specs.Nodes.{cut_nodes, named, sparse_nodes}
use Rattle.filter_image_model.specs.Reading.{begins_clear}
use Rattle.filter_image_model.proofs.Lists.{by_recursion, length-map}

-- bytes
abbrev pub AreBytes : Node → Type 0
AreBytes n = AllByRecursion (λ (b : Branch). b.0 < 256) n

-- ---- what is written is read so

-- a branch as it is written
abbrev written : Branch → Branch
written b = (label_of b.0, b.1)

zip-written : (bs : List Branch) → zip (map (λ (b : Branch). label_of b.0) bs) (map (λ (b : Branch). b.1) bs) ≡ map written bs
zip-written [] = refl
zip-written (b ∷ bs) = ap (λ (cs : List Branch). written b ∷ cs) (zip-written bs)

cut_rest : (n : Node) (louds : List Bool) (bs : List Branch) → cut_nodes (map (λ (x : Branch). false) n ++ louds) (map written n ++ bs) ≡ (map written n ++ (cut_nodes louds bs).0, (cut_nodes louds bs).1)
cut_rest [] louds bs = refl
cut_rest (b ∷ n) louds bs = ap (λ (r : Node × List Node). (written b ∷ r.0, r.1)) (cut_rest n louds bs)

cut_all : (ns : List Node) → AllByRecursion IsNode ns → cut_nodes (sparse_louds ns) (map written (all ns)) ≡ ([], map (map written) ns)
cut_all [] w = refl
cut_all ([] ∷ ns) w = absurd w.0
cut_all ((b ∷ n) ∷ ns) w =
    let ih = cut_all ns w.1 in
    let R : Node × List Node → Node × List Node = λ r. ([], (written b ∷ r.0) ∷ r.1) in
    ap (λ (bs : List Branch). R (cut_nodes (map (λ (x : Branch). false) n ++ sparse_louds ns) bs)) (map-append written n (all ns))
    ∙ ap R (cut_rest n (sparse_louds ns) (map written (all ns)))
    ∙ ap (λ (r : Node × List Node). R (map written n ++ r.0, r.1)) ih
    ∙ ap (λ (m : Node). R (m, map (map written) ns)) (append-nil (map written n))

written-byte : (b : Branch) → b.0 < 256 → written b ≡ b
written-byte b l = ap (λ (t : Bool). (cond t 255 b.0, b.1)) (ne_eqb b.0 256 (λ e. omega (arith, l, e)))

written-bytes : (n : Node) → AreBytes n → map written n ≡ n
written-bytes [] w = refl
written-bytes (b ∷ n) w = (λ j. written-byte b w.0 j ∷ written-bytes n w.1 j)

first_named : (a : Branch) → a.0 ≤ 256 → (a.0 ≡ 255 → ⊥) → cond (label_of a.0 == 255) (END, a.1) (written a) ≡ a
first_named a l plain = elim (cases_eq a.0 256) [
  | inl end ↦
      let e : label_of a.0 ≡ 255 = ap (λ (t : Bool). cond {A = ℕ} t 255 a.0) (eq-eqb a.0 256 end) in
      ap (λ (c : ℕ). cond {A = Branch} (c == 255) (END, a.1) (c, a.1)) e ∙ (λ j. (sym end j, a.1))
  | inr byte ↦
      let e : label_of a.0 ≡ a.0 = ap (λ (t : Bool). cond {A = ℕ} t 255 a.0) (ne_eqb a.0 256 byte) in
      ap (λ (c : ℕ). cond {A = Branch} (c == 255) (END, a.1) (c, a.1)) e ∙ ap (λ (t : Bool). cond {A = Branch} t (END, a.1) (a.0, a.1)) (ne_eqb a.0 255 plain)
]

named-written : (n : Node) → IsNode n → named (map written n) ≡ n
named-written [] w = absurd w
named-written (a ∷ []) w = ap (λ (x : Branch). x ∷ []) (written-byte a w)
named-written (a ∷ b ∷ n) w =
    ap (λ (m : Node). cond (label_of a.0 == 255) (END, a.1) (written a) ∷ m) (written-bytes (b ∷ n) (by_recursion (λ (x : Branch). x.0 < 256) (b ∷ n) w.2))
    ∙ ap (λ (x : Branch). x ∷ b ∷ n) (first_named a w.0 w.1)

named-all : (ns : List Node) → AllByRecursion IsNode ns → map named (map (map written) ns) ≡ ns
named-all [] w = refl
named-all (n ∷ ns) w = (λ j. named-written n w.0 j ∷ named-all ns w.1 j)

pub sparse_again : (ns : List Node) → AllByRecursion IsNode ns → sparse_nodes (sparse_labels ns) (sparse_children ns) (sparse_louds ns) ≡ ns
sparse_again ns w =
    ap (λ (bs : List Branch). map named (cut_nodes (sparse_louds ns) bs).1) (zip-written (all ns))
    ∙ ap (λ (r : Node × List Node). map named r.1) (cut_all ns w)
    ∙ named-all ns w

-- ---- what is read is written so

-- the branches, cut, are the branches
pub cut_joins : (louds : List Bool) (bs : List Branch) → length louds ≡ length bs → (cut_nodes louds bs).0 ++ all (cut_nodes louds bs).1 ≡ bs
cut_joins [] [] e = refl
cut_joins [] (b ∷ bs) e = absurd (omega (arith, e))
cut_joins (x ∷ louds) [] e = absurd (omega (arith, e))
cut_joins (true ∷ louds) (b ∷ bs) e = ap (λ (cs : List Branch). b ∷ cs) (cut_joins louds bs (omega (arith, e)))
cut_joins (false ∷ louds) (b ∷ bs) e = ap (λ (cs : List Branch). b ∷ cs) (cut_joins louds bs (omega (arith, e)))

cut_opens : (louds : List Bool) (bs : List Branch) → length louds ≡ length bs → map (λ (x : Branch). false) (cut_nodes louds bs).0 ++ sparse_louds (cut_nodes louds bs).1 ≡ louds
cut_opens [] [] e = refl
cut_opens [] (b ∷ bs) e = absurd (omega (arith, e))
cut_opens (x ∷ louds) [] e = absurd (omega (arith, e))
cut_opens (true ∷ louds) (b ∷ bs) e = ap (λ (xs : List Bool). true ∷ xs) (cut_opens louds bs (omega (arith, e)))
cut_opens (false ∷ louds) (b ∷ bs) e = ap (λ (xs : List Bool). false ∷ xs) (cut_opens louds bs (omega (arith, e)))

cut_counts : (louds : List Bool) (bs : List Branch) → length louds ≡ length bs → length (cut_nodes louds bs).1 ≡ count_by (λ b. b) louds
cut_counts [] [] e = refl
cut_counts [] (b ∷ bs) e = absurd (omega (arith, e))
cut_counts (x ∷ louds) [] e = absurd (omega (arith, e))
cut_counts (true ∷ louds) (b ∷ bs) e = ap suc (cut_counts louds bs (omega (arith, e))) ∙ sym (count_by-cons (λ (x : Bool). x) true louds ∙ omega arith)
cut_counts (false ∷ louds) (b ∷ bs) e = cut_counts louds bs (omega (arith, e)) ∙ sym (count_by-cons (λ (x : Bool). x) false louds ∙ omega arith)

pub cut_none : (louds : List Bool) (bs : List Branch) → begins_clear louds ≡ false → (cut_nodes louds bs).0 ≡ []
cut_none [] bs e = refl
cut_none (true ∷ louds) [] e = refl
cut_none (true ∷ louds) (b ∷ bs) e = refl
cut_none (false ∷ louds) bs e = absurd cc

-- a name changes neither the label, nor the child's bit, nor where the node begins
label_named : (b : Branch) → b.0 < 256 → label_of (cond (b.0 == 255) (END, b.1) b).0 ≡ label_of b.0
label_named b l = elim (cases_Bool (b.0 == 255)) [
  | inl end ↦
      ap (λ (t : Bool). label_of (cond {A = Branch} t (END, b.1) b).0) end ∙ sym (eqb-true b.0 255 end) ∙ sym (ap (λ (t : Bool). cond {A = ℕ} t 255 b.0) (ne_eqb b.0 256 (λ e. omega (arith, l, e))))
  | inr other ↦ ap (λ (t : Bool). label_of (cond {A = Branch} t (END, b.1) b).0) other
]

child_named : (t : Bool) (b : Branch) → (cond {A = Branch} t (END, b.1) b).1 ≡ b.1
child_named true b = refl
child_named false b = refl

abbrev labels : Node → List ℕ
labels n = map (λ (b : Branch). label_of b.0) n

abbrev children : Node → List Bool
children n = map (λ (b : Branch). b.1) n

named_labels : (n : Node) → AreBytes n → labels (named n) ≡ labels n
named_labels [] w = refl
named_labels (b ∷ []) w = refl
named_labels (b ∷ c ∷ n) w = ap (λ (x : ℕ). x ∷ labels (c ∷ n)) (label_named b w.0)

named_children : (n : Node) → children (named n) ≡ children n
named_children [] = refl
named_children (b ∷ []) = refl
named_children (b ∷ c ∷ n) = ap (λ (x : Bool). x ∷ children (c ∷ n)) (child_named (b.0 == 255) b)

named_opening : (n : Node) → opening (named n) ≡ opening n
named_opening [] = refl
named_opening (b ∷ []) = refl
named_opening (b ∷ c ∷ n) = refl

all_labels : (ns : List Node) → AllByRecursion AreBytes ns → sparse_labels (map named ns) ≡ sparse_labels ns
all_labels [] w = refl
all_labels (n ∷ ns) w =
    map-append (λ (b : Branch). label_of b.0) (named n) (all (map named ns))
    ∙ (λ j. named_labels n w.0 j ++ all_labels ns w.1 j)
    ∙ sym (map-append (λ (b : Branch). label_of b.0) n (all ns))

all_children : (ns : List Node) → sparse_children (map named ns) ≡ sparse_children ns
all_children [] = refl
all_children (n ∷ ns) =
    map-append (λ (b : Branch). b.1) (named n) (all (map named ns))
    ∙ (λ j. named_children n j ++ all_children ns j)
    ∙ sym (map-append (λ (b : Branch). b.1) n (all ns))

all_louds : (ns : List Node) → sparse_louds (map named ns) ≡ sparse_louds ns
all_louds [] = refl
all_louds (n ∷ ns) = (λ j. named_opening n j ++ all_louds ns j)

bytes_split : (n m : Node) → AreBytes (n ++ m) → AreBytes n × AreBytes m
bytes_split [] m w = (tt, w)
bytes_split (b ∷ n) m w = let r = bytes_split n m w.1 in ((w.0, r.0), r.1)

pub bytes_each : (ns : List Node) → AreBytes (all ns) → AllByRecursion AreBytes ns
bytes_each [] w = tt
bytes_each (n ∷ ns) w = let r = bytes_split n (all ns) w in (r.0, bytes_each ns r.1)

-- branches of bytes, by their labels and their children's bits
pub zip_bytes : (ls : List ℕ) (cs : List Bool) → AllByRecursion (λ c. c < 256) ls → AreBytes (zip ls cs)
zip_bytes [] cs w = tt
zip_bytes (l ∷ ls) [] w = tt
zip_bytes (l ∷ ls) (c ∷ cs) w = (w.0, zip_bytes ls cs w.1)

zip_labels : (ls : List ℕ) (cs : List Bool) → length ls ≡ length cs → AllByRecursion (λ c. c < 256) ls → labels (zip ls cs) ≡ ls
zip_labels [] cs e w = refl
zip_labels (l ∷ ls) [] e w = absurd (omega (arith, e))
zip_labels (l ∷ ls) (c ∷ cs) e w =
    (λ j. ap (λ (t : Bool). cond {A = ℕ} t 255 l) (ne_eqb l 256 (λ x. omega (arith, w.0, x))) j ∷ zip_labels ls cs (omega (arith, e)) w.1 j)

zip_children : (ls : List ℕ) (cs : List Bool) → length ls ≡ length cs → children (zip ls cs) ≡ cs
zip_children [] [] e = refl
zip_children [] (c ∷ cs) e = absurd (omega (arith, e))
zip_children (l ∷ ls) [] e = absurd (omega (arith, e))
zip_children (l ∷ ls) (c ∷ cs) e = ap (λ (xs : List Bool). c ∷ xs) (zip_children ls cs (omega (arith, e)))

pub length-zip : (ls : List ℕ) (cs : List Bool) → length ls ≡ length cs → length (zip ls cs) ≡ length ls
length-zip [] cs e = refl
length-zip (l ∷ ls) [] e = absurd (omega (arith, e))
length-zip (l ∷ ls) (c ∷ cs) e = omega (arith, length-zip ls cs (omega (arith, e)))

-- the three sections are those of the nodes that are read
pub record SpellsSparse (ls : List ℕ) (cs louds : List Bool) (ns : List Node) : Type 0 where
  pub labels_are : sparse_labels ns ≡ ls
  pub children_are : sparse_children ns ≡ cs
  pub louds_are : sparse_louds ns ≡ louds
  pub count : length ns ≡ count_by (λ b. b) louds

pub sparse_back : (ls : List ℕ) (cs louds : List Bool) → length ls ≡ length cs → length ls ≡ length louds → AllByRecursion (λ c. c < 256) ls
    → begins_clear louds ≡ false → SpellsSparse ls cs louds (sparse_nodes ls cs louds)
sparse_back ls cs louds e f w first =
    let bs = zip ls cs in
    let long : length louds ≡ length bs = omega (arith, f, length-zip ls cs e) in
    let ns = (cut_nodes louds bs).1 in
    let joins : all ns ≡ bs = ap (λ (n : Node). n ++ all ns) (sym (cut_none louds bs first)) ∙ cut_joins louds bs long in
    let opens : sparse_louds ns ≡ louds = ap (λ (n : Node). map (λ (x : Branch). false) n ++ sparse_louds ns) (sym (cut_none louds bs first)) ∙ cut_opens louds bs long in
    let bytes = bytes_each ns (rw joins (zip_bytes ls cs w)) in
    record {
      labels_are = all_labels ns bytes ∙ ap labels joins ∙ zip_labels ls cs e w;
      children_are = all_children ns ∙ ap children joins ∙ zip_children ls cs e;
      louds_are = all_louds ns ∙ opens;
      count = length-map named ns ∙ cut_counts louds bs long;
    }
