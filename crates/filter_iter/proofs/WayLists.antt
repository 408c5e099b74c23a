-- Ways, pass by pass.
use Rattle.std.proofs.Common.{◌≡◌, ℕ, ◌<◌, ◌≤◌, Option, List, [], ◌∷◌, ◌++◌, length, get_or, take, refl, ap, subst, sym, ◌∙◌, arith, inl, inr}
use Rattle.std.proofs.Math.ListN.{get_or-append}
use Rattle.std.proofs.lemmas.Bool.{cases_lt}
use Rattle.std.proofs.lemmas.List.{get_or_push, length-append, length-map, take-append-le, take_at}
use Rattle.filter_image_model.proofs.Sizes.{some_height}
use Rattle.filter_iter.specs.CursorPath.{HasBranch, IsPassAt, IsWay, LeadGoesTo, letters_of}
use Rattle.filter_iter.specs.declared.parts.Branch.{Branch}
use Rattle.filter_iter.specs.declared.parts.Pass.{Pass}
use Rattle.filter_iter.specs.declared.parts.Spot.{Spot}
use Rattle.filter_model.specs.Leaves.{Leaf}
use Rattle.filter_model.specs.Trie.{END, height, is_node, nodes}
use Rattle.filter_model.specs.Valid.{IsLeafList}
use Rattle.filter_trie.proofs.Down.{node_passes}
use Rattle.filter_trie.specs.Walks.{IsNodeAt}
use Rattle.trie_laws.proofs.NodeLists.{height_above}

pub letters-push : (way : List Pass) (x : Pass) → letters_of (way ++ x ∷ []) ≡ letters_of way ++ x.letter ∷ []
letters-push [] x = refl
letters-push (y ∷ way) x = λ j. y.letter ∷ letters-push way x j

pub length-letters : (way : List Pass) → length (letters_of way) ≡ length way
length-letters way = length-map way (λ (p : Pass). p.letter)

-- the letters before a pass do not see what comes behind it
taken : (way : List Pass) (x : Pass) (i : ℕ) → i ≤ length way → take i (letters_of (way ++ x ∷ [])) ≡ take i (letters_of way)
taken way x i l = ap (λ (q : List ℕ). take i q) (letters-push way x) ∙ take-append-le i (letters_of way) (x.letter ∷ []) (omega (arith, l, length-letters way))

all_taken : (way : List Pass) (x : Pass) → take (length way) (letters_of (way ++ x ∷ [])) ≡ letters_of way
all_taken way x = ap (λ (q : List ℕ). take (length way) q) (letters-push way x) ∙ take_at (letters_of way) (x.letter ∷ []) (length way) (length-letters way)

pub way-push : (ls : List Leaf) (way : List Pass) (x : Pass) → IsWay ls way → IsPassAt ls (letters_of way) x → IsWay ls (way ++ x ∷ [])
way-push ls way x w a i d l = elim (cases_lt i (length way)) [
  | inl before ↦
      subst (λ (q : List ℕ). IsPassAt ls q (get_or (way ++ x ∷ []) i d)) (sym (taken way x i (omega (arith, before))))
      (subst (IsPassAt ls (take i (letters_of way))) (sym (get_or-append way (x ∷ []) d i before)) (w i d before))
  | inr behind ↦
      let is : length way ≡ i = omega (arith, behind, l, length-append way (x ∷ [])) in
      subst (λ (q : List ℕ). IsPassAt ls q (get_or (way ++ x ∷ []) i d)) (sym (all_taken way x) ∙ ap (λ (k : ℕ). take k (letters_of (way ++ x ∷ []))) is)
      (subst (IsPassAt ls (letters_of way)) (sym (get_or_push way x d i is)) a)
]

-- no pass
pub no_way : (ls : List Leaf) → IsWay ls []
no_way ls i d l = absurd (omega (arith, l))

-- a way, and a pass behind it
pub record IsPopped (ls : List Leaf) (old new : List Pass) (x : Pass) : Type 0 where
  pub way : IsWay ls new
  pub pass : IsPassAt ls (letters_of new) x
  pub letters : letters_of old ≡ get_or (nodes ls) x.node [] ++ x.letter ∷ []

pub popped : (ls : List Leaf) (old new : List Pass) (x : Pass) → old ≡ new ++ x ∷ [] → IsWay ls old → IsPopped ls old new x
popped ls old new x e w =
    let v = subst (IsWay ls) e w in
    let pass : IsPassAt ls (letters_of new) x = last v in
    record {
      way = λ i d l.
          subst (λ (q : List ℕ). IsPassAt ls q (get_or new i d)) (taken new x i (omega (arith, l)))
          (subst (IsPassAt ls (take i (letters_of (new ++ x ∷ [])))) (get_or-append new (x ∷ []) d i l) (v i d (omega (arith, l, length-append new (x ∷ [])))));
      pass = pass;
      letters = ap letters_of e ∙ letters-push new x ∙ ap (λ (q : List ℕ). q ++ x.letter ∷ []) (sym pass.node.is);
    }
  where
    last : IsWay ls (new ++ x ∷ []) → IsPassAt ls (letters_of new) x
    last v =
        subst (λ (q : List ℕ). IsPassAt ls q x) (all_taken new x)
        (subst (IsPassAt ls (take (length new) (letters_of (new ++ x ∷ [])))) (get_or_push new x x (length new) refl) (v (length new) x (omega (arith, length-append new (x ∷ [])))))

-- a way that goes on by a letter
pub way_on : (ls : List Leaf) (way next : List Pass) (v c : ℕ) (s : Option Spot) → IsWay ls way → IsNodeAt ls v (letters_of way) → c ≤ END → next ≡ way ++ record { node = v; letter = c; spot = s } ∷ [] → IsWay ls next × (letters_of next ≡ get_or (nodes ls) v [] ++ c ∷ [])
way_on ls way next v c s w a small e =
    let x : Pass = record { node = v; letter = c; spot = s } in (
      subst (IsWay ls) (sym e) (way-push ls way x w (record { node = a; letter = small })),
      ap letters_of e ∙ letters-push way x ∙ ap (λ (q : List ℕ). q ++ c ∷ []) (sym a.is),
    )

-- a way that goes on by a branch of the node that it leads to
pub record IsPushed (ls : List Leaf) (v : ℕ) (b : Branch) (next : List Pass) : Type 0 where
  pub way : IsWay ls next
  pub letters : letters_of next ≡ get_or (nodes ls) v [] ++ b.letter ∷ []
  pub leads : LeadGoesTo ls (letters_of next) b.lead

pub pushed : (ls : List Leaf) (way next : List Pass) (v : ℕ) (b : Branch) (s : Option Spot) → IsWay ls way → IsNodeAt ls v (letters_of way) → HasBranch ls (get_or (nodes ls) v []) b
    → next ≡ way ++ record { node = v; letter = b.letter; spot = s } ∷ [] → IsPushed ls v b next
pushed ls way next v b s w a has e =
    let x : Pass = record { node = v; letter = b.letter; spot = s } in
    let letters : letters_of next ≡ get_or (nodes ls) v [] ++ b.letter ∷ [] = ap letters_of e ∙ letters-push way x ∙ ap (λ (q : List ℕ). q ++ b.letter ∷ []) (sym a.is) in
    record {
      way = subst (IsWay ls) (sym e) (way-push ls way x w (record { node = a; letter = has.letter }));
      letters = letters;
      leads = subst (λ (q : List ℕ). LeadGoesTo ls q b.lead) (sym letters) has.leads;
    }

-- a node is above the last level
pub node_low : (hash_bits real_bits : ℕ) (ls : List Leaf) (v : ℕ) (p : List ℕ) → IsLeafList hash_bits real_bits ls → IsNodeAt ls v p → length p < height ls
node_low hash_bits real_bits ls v p valid a = height_above ls p (ap (is_node ls) (sym a.is) ∙ node_passes ls (some_height hash_bits real_bits ls valid) v a.within)

-- a way to a node has fewer passes than the trie has levels
pub way_low : (hash_bits real_bits : ℕ) (ls : List Leaf) (v : ℕ) (way : List Pass) → IsLeafList hash_bits real_bits ls → IsNodeAt ls v (letters_of way) → length way < height ls
way_low hash_bits real_bits ls v way valid a = omega (arith, node_low hash_bits real_bits ls v (letters_of way) valid a, length-letters way)
