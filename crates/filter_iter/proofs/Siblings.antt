-- Branches by their spots: what stands at a place of a node, and behind it.
use Rattle.std.proofs.Common.{◌≡◌, ℕ, ◌+◌, ◌-◌, ◌<◌, ◌≤◌, Bool, true, false, cond, Option, Some, List, [], ◌∷◌, ◌++◌, length, get_or, refl, ap, subst, sym, ◌∙◌, arith, inl, inr, MatchOption}
use Rattle.std.specs.Prelude.{◌&&◌, ◌==◌, not}
use Rattle.std.proofs.lemmas.Bool.{cases_eq, cases_lt, eq-eqb, eqb-true, false≢true, ne_eqb}
use Rattle.std.proofs.lemmas.List.{length-append}
use Rattle.filter_iter.specs.LeafPlace.{BeginsNode, IsFirstBranch, below_place}
use Rattle.filter_iter.specs.CursorPath.{HasBranch, IsLeadAt, LeadGoesTo, leaves_to}
use Rattle.filter_iter.specs.declared.parts.Branch.{Branch}
use Rattle.filter_iter.specs.declared.parts.Lead.{Lead}
use Rattle.filter_iter.specs.declared.parts.Lead.TheVariants as lead
use Rattle.filter_iter.specs.declared.parts.Spot.{Spot}
use Rattle.filter_image_model.proofs.Sizes.{some_height}
use Rattle.filter_model.specs.Image.{label_of}
use Rattle.filter_model.specs.Leaves.{Filter, Leaf}
use Rattle.filter_model.specs.Nodes.{Branch as NodeBranch, IsBranch, Node, all, at, first_place, trie_of}
use Rattle.filter_model.specs.Trie.{END, height, nodes, places}
use Rattle.filter_model.specs.Valid.{IsLeafList}
use Rattle.filter_trie.proofs.Down.{place_is}
use Rattle.filter_trie.proofs.Finding.{branches_lead}
use Rattle.filter_trie.proofs.Halves.{begins_next, stands}
use Rattle.filter_trie.proofs.KeyOrder.{leaves_are_counted}
use Rattle.filter_trie.proofs.Parts.{joined, length-nodes}
use Rattle.filter_trie.specs.Laws.{CountsAt, IsPlaceAt}
use Rattle.filter_trie.specs.Parts.{lower, upper}
use Rattle.filter_trie.specs.Places.{branch_number}
use Rattle.filter_trie.specs.Walks.{IsSlotAt}
use Rattle.filter_trie.specs.declared.place.Place.TheVariants as in_half
use Rattle.louds_dense.proofs.Ranks.{node_within}
use Rattle.trie_laws.proofs.Forms.{order-byte, order_small, trie_nodes_have_form}
use Rattle.trie_laws.proofs.Found.{branch_is_found}
use Rattle.trie_laws.proofs.Joining.{halves_join}
use Rattle.trie_laws.proofs.Places.{length-trie_of}
use Rattle.trie_laws.specs.Halves.{second_half}
use Rattle.trie_laws.specs.Nodes.{IsTrieNode}
use Rattle.trie_levels.proofs.Totals.{valid_lists_have_tries}
use Rattle.trie_levels.specs.Tries.{HasTrie}
use Rattle.trie_model.specs.Halves.{Half, HasNode, begin_of, branch_place, byte_at, whole}
use Rattle.trie_model.specs.Letters.{order_of}
use Rattle.trie_model.specs.Rests.{first_leaf}

-- ---- the branches of one node

module _ (hash_bits real_bits : ℕ) (ls : List Leaf) (valid : IsLeafList hash_bits real_bits ls) (v : ℕ) (l : v < length (nodes ls)) where
  abbrev ns : List Node
  ns = trie_of ls

  abbrev h : Half
  h = whole ns

  abbrev p : List ℕ
  p = get_or (nodes ls) v []

  abbrev n : Node
  n = get_or (trie_of ls) v []

  has : HasTrie ls
  has = valid_lists_have_tries hash_bits real_bits ls valid

  high : 0 < height ls
  high = some_height hash_bits real_bits ls valid

  in_list : v < length (trie_of ls)
  in_list = omega (arith, l, length-trie_of ls)

  form : IsTrieNode n
  form = trie_nodes_have_form ls has v [] in_list

  counts : CountsAt ls v
  counts = leaves_are_counted hash_bits real_bits ls v valid l

  ends : first_place ns (v + 1) ≡ first_place ns v + length n
  ends = begins_next ns v in_list

  -- the branch at a place, by its string
  placed : (c m : ℕ) → IsBranch ns v c m → IsPlaceAt ls m (p ++ c ∷ [])
  placed c m b = let a = place_is ls high v c m l b in record { within = a.0; is = a.1 }

  -- and by its number in the node
  letter_of : (c m : ℕ) → IsBranch ns v c m → (get_or n (m - first_place ns v) (0, false)).0 ≡ c
  letter_of c m b =
      let j = m - first_place ns v in
      let e : first_place ns v + j ≡ m = omega (arith, b.0) in
      ap (λ (x : NodeBranch). x.0) (sym (stands ns v in_list j (omega (arith, b.0, b.1, ends)))) ∙ ap (λ (k : ℕ). (at ns k).0) e ∙ b.2

  letter_small : (c m : ℕ) → IsBranch ns v c m → c ≤ 256
  letter_small c m b = omega (arith, letter_of c m b, form.letters (m - first_place ns v) (0, false) (omega (arith, b.0, b.1, ends)))

  -- behind the first one are bytes
  byte_behind : (c m : ℕ) → first_place ns v < m → IsBranch ns v c m → c < 256
  byte_behind c m up b =
      let j = m - first_place ns v in
      let rises = form.rising 0 j (0, false) (omega (arith, up)) (omega (arith, b.0, b.1, ends)) in
      (order_small c (letter_small c m b) (omega (arith, rises, ap order_of (letter_of c m b)))).0

  byte_is : (c m : ℕ) → IsBranch ns v c m → c < 256 → byte_at h m ≡ c
  byte_is c m b small = ap label_of b.2 ∙ ap (λ (t : Bool). cond t 255 c) (ne_eqb c 256 (λ x. omega (arith, x, small)))

  lead_by : (c m : ℕ) → IsBranch ns v c m → (x : Lead) → IsLeadAt h m x → LeadGoesTo ls (p ++ c ∷ []) x
  lead_by c m b (lead.Node w) e = (branches_lead ls m (p ++ c ∷ []) has (placed c m b)).child w e
  lead_by c m b (lead.Leaf s) e = subst (λ (k : ℕ). IsSlotAt ls k (p ++ c ∷ [])) (sym e.1) ((branches_lead ls m (p ++ c ∷ []) has (placed c m b)).leaf e.0)

  at_place : (c m : ℕ) → IsBranch ns v c m → (b : Branch) → b.letter ≡ c → IsLeadAt h m b.lead → HasBranch ls p b
  at_place c m f b e i =
      record { letter = omega (arith, e, letter_small c m f); leads = subst (λ (x : ℕ). LeadGoesTo ls (p ++ x ∷ []) b.lead) (sym e) (lead_by c m f b.lead i) }

  -- ---- the one behind

  behind : (c m : ℕ) → IsBranch ns v c m → m + 1 < first_place ns (v + 1) → IsBranch ns v (at ns (m + 1)).0 (m + 1)
  behind c m f up = (omega (arith, f.0), up, refl)

  behind_is : (c m : ℕ) → IsBranch ns v c m → m + 1 < first_place ns (v + 1) → (k : ℕ) → k ≡ byte_at h (m + 1) → k ≡ (at ns (m + 1)).0
  behind_is c m f up k e =
      let g = behind c m f up in
      e ∙ byte_is (at ns (m + 1)).0 (m + 1) g (byte_behind (at ns (m + 1)).0 (m + 1) (omega (arith, f.0)) g)

  next_stands : (c m : ℕ) → IsBranch ns v c m → m + 1 < first_place ns (v + 1) → (k : ℕ) → k ≡ byte_at h (m + 1) → IsBranch ns v k (m + 1)
  next_stands c m f up k e = let g = behind c m f up in (g.0, g.1, sym (behind_is c m f up k e))

  next_behind : (c m : ℕ) → IsBranch ns v c m → m + 1 < first_place ns (v + 1) → (b : Branch) → b.letter ≡ byte_at h (m + 1) → IsLeadAt h (m + 1) b.lead
      → HasBranch ls p b × (b.letter < END) × (first_leaf ls (p ++ b.letter ∷ []) ≡ leaves_to ls (p ++ c ∷ []))
  next_behind c m f up b e i =
      let d = (at ns (m + 1)).0 in
      let g = behind c m f up in
      let letter = behind_is c m f up b.letter e in (
        at_place d (m + 1) g b letter i,
        omega (arith, letter, byte_behind d (m + 1) (omega (arith, f.0)) g),
        ap (λ (x : ℕ). first_leaf ls (p ++ x ∷ [])) letter ∙ ap (first_leaf ls) (sym (placed d (m + 1) g).is) ∙ counts.next m f.0 up ∙ ap (leaves_to ls) (placed c m f).is,
      )

  -- the number behind, as it is computed
  pub next_at_number : (c m k : ℕ) → k ≡ m + 1 → IsBranch ns v c m → k < first_place ns (v + 1) → (b : Branch) → b.letter ≡ byte_at h k → IsLeadAt h k b.lead
      → HasBranch ls p b × (b.letter < END) × (first_leaf ls (p ++ b.letter ∷ []) ≡ leaves_to ls (p ++ c ∷ []))
  next_at_number c m k e f =
      subst (λ (x : ℕ). x < first_place ns (v + 1) → (b : Branch) → b.letter ≡ byte_at h x → IsLeadAt h x b.lead → HasBranch ls p b × (b.letter < END) × (first_leaf ls (p ++ b.letter ∷ []) ≡ leaves_to ls (p ++ c ∷ []))) (sym e)
      (next_behind c m f)

  pub stands_at_number : (c m k : ℕ) → k ≡ m + 1 → IsBranch ns v c m → k < first_place ns (v + 1) → (d : ℕ) → d ≡ byte_at h k → IsBranch ns v d k
  stands_at_number c m k e f = subst (λ (x : ℕ). x < first_place ns (v + 1) → (d : ℕ) → d ≡ byte_at h x → IsBranch ns v d x) (sym e) (next_stands c m f)

  pub none_behind : (c m : ℕ) → IsBranch ns v c m → first_place ns (v + 1) ≤ m + 1 → leaves_to ls p ≡ leaves_to ls (p ++ c ∷ [])
  none_behind c m f up = sym (counts.last m (omega (arith, f.1, up))) ∙ ap (leaves_to ls) (placed c m f).is

  -- ---- the first one

  first_label : (alone : Bool) → ((length n ≡ 1 → alone ≡ true) × (alone ≡ true → length n ≡ 1)) → (d : ℕ) → (get_or n 0 (0, false)).0 ≡ d → d ≤ 256 → cond (label_of d == 255 && not alone) END (label_of d) ≡ d
  first_label alone one d is small = elim (cases_eq d 256) [
    | inl end ↦ ended alone one end
    | inr other ↦
        let byte : d < 256 = omega (arith, small, other) in
        let label : label_of d ≡ d = ap (λ (t : Bool). cond t 255 d) (ne_eqb d 256 other) in
        ap (λ (k : ℕ). cond (k == 255 && not alone) END k) label ∙ plain alone one byte
  ]
    where
      ended : (alone : Bool) → ((length n ≡ 1 → alone ≡ true) × (alone ≡ true → length n ≡ 1)) → d ≡ 256 → cond (label_of d == 255 && not alone) END (label_of d) ≡ d
      ended true one e = absurd (omega (arith, e, is, form.end_is_not_alone (one.1 refl) 0 (0, false) form.filled))
      ended false one e = ap (λ (k : ℕ). cond (label_of k == 255 && true) END (label_of k)) e ∙ sym e

      plain : (alone : Bool) → ((length n ≡ 1 → alone ≡ true) × (alone ≡ true → length n ≡ 1)) → d < 256 → cond (d == 255 && not alone) END d ≡ d
      plain true one byte = elim (cases_eq d 255) [
        | inl last ↦ ap (λ (t : Bool). cond (t && false) END d) (eq-eqb d 255 last)
        | inr less ↦ ap (λ (t : Bool). cond (t && false) END d) (ne_eqb d 255 less)
      ]
      plain false one byte = elim (cases_eq d 255) [
        | inl last ↦ absurd (second one last)
        | inr less ↦ ap (λ (t : Bool). cond (t && true) END d) (ne_eqb d 255 less)
      ]
        where
          two : ((length n ≡ 1 → false ≡ true) × (false ≡ true → length n ≡ 1)) → 1 < length n
          two one = elim (cases_eq (length n) 1) [
            | inl same ↦ absurd (let e : false ≡ true = one.0 same in cc)
            | inr more ↦ omega (arith, more, form.filled)
          ]

          second : ((length n ≡ 1 → false ≡ true) × (false ≡ true → length n ≡ 1)) → d ≡ 255 → ⊥
          second one last =
              let m = two one in
              let rises = form.rising 0 1 (0, false) (omega arith) m in
              let small = form.letters 1 (0, false) m in
              let next = order_small (get_or n 1 (0, false)).0 small (omega (arith, rises)) in
              let here : order_of (get_or n 0 (0, false)).0 ≡ 256 = ap order_of (is ∙ last) ∙ order-byte 255 (omega arith) in
              omega (arith, rises, next.0, next.1, here)

  starts : (m : ℕ) → m ≡ first_place ns v → IsBranch ns v (at ns m).0 m
  starts m e = (omega (arith, e), omega (arith, e, ends, form.filled), refl)

  own_letter : (m : ℕ) → m ≡ first_place ns v → (get_or n 0 (0, false)).0 ≡ (at ns m).0
  own_letter m e =
      let nought : m - first_place ns v ≡ 0 = omega (arith, e) in
      ap (λ (k : ℕ). (get_or n k (0, false)).0) (sym nought) ∙ letter_of (at ns m).0 m (starts m e)

  first_letter_is : (m : ℕ) → m ≡ first_place ns v → (alone : Bool) → ((m + 1 ≡ first_place ns (v + 1) → alone ≡ true) × (alone ≡ true → m + 1 ≡ first_place ns (v + 1)))
      → cond (byte_at h m == 255 && not alone) END (byte_at h m) ≡ (at ns m).0
  first_letter_is m e alone one = first_label alone ((λ k. one.0 (omega (arith, e, ends, k))), (λ t. omega (arith, e, ends, one.1 t))) (at ns m).0 (own_letter m e) (letter_small (at ns m).0 m (starts m e))

  pub some_branch : first_place ns v < first_place ns (v + 1)
  some_branch = omega (arith, ends, form.filled)

  pub first_letter_at : (m place end b : ℕ) → m ≡ first_place ns v → m ≡ b + place → b + end ≡ first_place ns (v + 1) → (label : ℕ) → label ≡ byte_at h m → cond (label == 255 && not (place + 1 == end)) END label ≡ (at ns m).0
  first_letter_at m place end b e f g label is =
      ap (λ (x : ℕ). cond (x == 255 && not (place + 1 == end)) END x) is
      ∙ first_letter_is m e (place + 1 == end) ((λ k. eq-eqb (place + 1) end (omega (arith, k, f, g))), (λ t. omega (arith, eqb-true (place + 1) end t, f, g)))

  pub first_stands : (m : ℕ) → m ≡ first_place ns v → (k : ℕ) → k ≡ (at ns m).0 → IsBranch ns v k m
  first_stands m e k is = let s = starts m e in (s.0, s.1, sym is)

  pub first_at : (m : ℕ) → m ≡ first_place ns v → (b : Branch) → b.letter ≡ (at ns m).0 → IsLeadAt h m b.lead → IsFirstBranch ls v b
  first_at m e b letter i =
      let f = starts m e in
      record {
        branch = at_place (at ns m).0 m f b letter i;
        first = ap (λ (x : ℕ). first_leaf ls (p ++ x ∷ [])) letter ∙ ap (first_leaf ls) (sym (placed (at ns m).0 m f).is) ∙ ap (λ (k : ℕ). first_leaf ls (get_or (places ls) k [])) e ∙ counts.first;
      }

-- ---- places of the sparse half among all

pub not_dense : (v k : ℕ) → (v < k → false ≡ true) → k ≤ v
not_dense v k f = elim (cases_lt v k) [ inl less ↦ absurd (false≢true (f less)) | inr more ↦ more ]

-- a node of the sparse half begins as far behind the dense half as its number says
pub begins_at : (i : Filter) (v : ℕ) → length (upper i.cutoff i.leaves) ≤ v → branch_number i (in_half.Sparse (begin_of (second_half (upper i.cutoff i.leaves) (lower i.cutoff i.leaves)) v)) ≡ first_place (trie_of i.leaves) v
begins_at i v from =
    let ds = upper i.cutoff i.leaves in
    let ss = lower i.cutoff i.leaves in
    let e : length ds + (v - length ds) ≡ v = omega (arith, from) in
    sym ((halves_join ds ss).1.begins (v - length ds)) ∙ ap (first_place (ds ++ ss)) e ∙ ap (λ (ns : List Node). first_place ns v) (joined i)

pub in_sparse : (i : Filter) (v : ℕ) → length (upper i.cutoff i.leaves) ≤ v → v < length (nodes i.leaves) → HasNode (second_half (upper i.cutoff i.leaves) (lower i.cutoff i.leaves)) v
in_sparse i v from to = (from, omega (arith, to, length-nodes i, length-append (upper i.cutoff i.leaves) (lower i.cutoff i.leaves)))

pub begin_within : (i : Filter) (v : ℕ) → length (upper i.cutoff i.leaves) ≤ v → v < length (nodes i.leaves) → (p : ℕ) → p ≡ begin_of (second_half (upper i.cutoff i.leaves) (lower i.cutoff i.leaves)) v → p ≤ length (all (lower i.cutoff i.leaves))
begin_within i v from to p e =
    let ds = upper i.cutoff i.leaves in
    let ss = lower i.cutoff i.leaves in
    omega (arith, e, node_within ss (v - length ds) (omega (arith, from, to, length-nodes i, length-append ds ss)))

pub node_begins : (hash_bits real_bits : ℕ) (i : Filter) (v : ℕ) → IsLeafList hash_bits real_bits i.leaves → length (upper i.cutoff i.leaves) ≤ v → v < length (nodes i.leaves) → (s : Spot)
    → s.place ≡ begin_of (second_half (upper i.cutoff i.leaves) (lower i.cutoff i.leaves)) v → s.end ≡ begin_of (second_half (upper i.cutoff i.leaves) (lower i.cutoff i.leaves)) (v + 1) → s.below ≡ below_place i s.place → BeginsNode i v s
node_begins hash_bits real_bits i v valid from to s e f below =
    let ds = upper i.cutoff i.leaves in
    let ss = lower i.cutoff i.leaves in
    let begin : length (all ds) + s.place ≡ first_place (trie_of i.leaves) v = ap (λ (k : ℕ). length (all ds) + k) e ∙ begins_at i v from in
    let end : length (all ds) + s.end ≡ first_place (trie_of i.leaves) (v + 1) = ap (λ (k : ℕ). length (all ds) + k) f ∙ begins_at i (v + 1) (omega (arith, from)) in
    record {
      sparse = from;
      begin = begin;
      end = end;
      spot = record {
        taken = omega (arith, begin, end, some_branch hash_bits real_bits i.leaves valid v to);
        within = omega (arith, f, node_within ss (v + 1 - length ds) (omega (arith, from, to, length-nodes i, length-append ds ss)));
        below = below;
      };
    }

-- a branch that is found is one
pub found_branch : (ls : List Leaf) (v c m : ℕ) → v < length (nodes ls) → Some m ≡ branch_place (whole (trie_of ls)) v c → IsBranch (trie_of ls) v c m
found_branch ls v c m l e =
    let zero_less : v - 0 ≡ v = omega arith in
    subst (λ (x : ℕ). IsBranch (trie_of ls) x c m) zero_less
    (subst (λ (q : Option ℕ). MatchOption q ((k : ℕ) → IsBranch (trie_of ls) (v - 0) c k → ⊥) (IsBranch (trie_of ls) (v - 0) c)) (sym e) (branch_is_found (whole (trie_of ls)) v c (omega arith, omega (arith, l, length-trie_of ls))))
