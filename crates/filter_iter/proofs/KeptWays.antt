-- Down by a bound, keeping the way.
use Rattle.std.proofs.Common.{◌≡◌, ℕ, ◌+◌, Bool, true, false, List, [], ◌∷◌, ◌++◌, take, refl, subst, sym, ◌∙◌, arith}
use Rattle.std.specs.Prelude.{not}
use Rattle.std.proofs.lemmas.Bool.{true≢false}
use Rattle.std.proofs.lemmas.List.{take-append-le}
use Rattle.filter_iter.proofs.ByNumber.{none_below}
use Rattle.filter_iter.proofs.Standing.{one_below}
use Rattle.filter_iter.specs.Borders.{LeadsOn}
use Rattle.filter_iter.specs.CursorPath.{letters_of, leaves_to}
use Rattle.filter_iter.specs.declared.parts.Border.{Border}
use Rattle.filter_iter.specs.declared.parts.Pass.{Pass}
use Rattle.filter_model.specs.Leaves.{Leaf}
use Rattle.filter_model.specs.Trie.{END, is_reached}
use Rattle.filter_model.specs.Valid.{IsLeafList}
use Rattle.filter_trie.specs.Walks.{IsNodeAt, IsSlotAt}
use Rattle.trie_model.specs.Rests.{first_leaf}

-- what a test by `!` says where it fails
pub is_so : (b : Bool) → not b ≡ false → b ≡ true
is_so true e = refl
is_so false e = absurd (true≢false e)

-- the way leads to the border's node
pub node_at : (ls : List Leaf) (x : List ℕ) (d : ℕ) (b : Border) (way : List Pass) → LeadsOn ls x d b → letters_of way ≡ take d (x ++ END ∷ []) → IsNodeAt ls b.node (letters_of way)
node_at ls x d b way on is = subst (IsNodeAt ls b.node) (sym (is ∙ take-append-le d x (END ∷ []) on.read)) on.node

module _ (hash_bits real_bits : ℕ) (ls : List Leaf) (valid : IsLeafList hash_bits real_bits ls) (q : List ℕ) where
  -- the letters lead nowhere
  pub behind_none : is_reached ls q ≡ false → leaves_to ls q ≡ first_leaf ls q
  behind_none off = omega (arith, none_below ls q off)

  -- or to one leaf
  pub behind_one : (slot : ℕ) → IsSlotAt ls slot q → leaves_to ls q ≡ first_leaf ls q + 1
  behind_one slot a = omega (arith, one_below hash_bits real_bits ls valid slot q a)
