-- Ways to leaves, by the leaves' numbers.
use Rattle.std.proofs.Common.{◌≡◌, ℕ, ◌+◌, true, List, [], ◌∷◌, ◌++◌, get_or, map, refl, ap, sym, ◌∙◌, arith}
use Rattle.std.specs.Prelude.{◌&&◌}
use Rattle.std.proofs.lemmas.Bool.{eq-eqb}
use Rattle.std.proofs.lemmas.List.{length-map}
use Rattle.filter_image_model.proofs.GroupWords.{Sorted}
use Rattle.filter_image_model.proofs.Paths.{fine_paths}
use Rattle.filter_iter.proofs.Counts.{all_below_root}
use Rattle.filter_iter.proofs.Cutting.{room}
use Rattle.filter_iter.proofs.Groups.{reached_number}
use Rattle.filter_iter.specs.CursorPath.{IsWay, IsWayTo, letters_of, leaves_to}
use Rattle.filter_iter.specs.declared.parts.Pass.{Pass}
use Rattle.filter_model.specs.Leaves.{Leaf}
use Rattle.filter_model.specs.Strings.{is_prefix}
use Rattle.filter_model.specs.Trie.{END, height, path}
use Rattle.filter_model.specs.Valid.{IsLeafList}
use Rattle.filter_trie.proofs.KeyOrder.{slots_are_leaves}
use Rattle.filter_trie.specs.Walks.{IsSlotAt}
use Rattle.trie_model.specs.Rests.{first_leaf, leaves_below}

begins_longer : (q r : List ℕ) → is_prefix q (q ++ r) ≡ true
begins_longer [] r = refl
begins_longer (a ∷ q) r = λ j. eq-eqb a a refl j && begins_longer q r j

module _ (hash_bits real_bits : ℕ) (ls : List Leaf) (valid : IsLeafList hash_bits real_bits ls) where
  sorted : Sorted (map path ls)
  sorted = (fine_paths hash_bits real_bits ls valid (height ls) (omega arith)).sorted

  pub one_below : (slot : ℕ) (q : List ℕ) → IsSlotAt ls slot q → leaves_below ls q ≡ 1
  one_below slot q a = ap (leaves_below ls) (sym a.is) ∙ (slots_are_leaves hash_bits real_bits ls slot valid a.within).count

  -- as many leaves come before as its number says
  pub number_is : (n slot : ℕ) (way : List Pass) → IsWayTo ls n slot way → first_leaf ls (letters_of way) ≡ n
  number_is n slot way to =
      let q = letters_of way in
      reached_number q (map path ls) n sorted (omega (arith, to.within, length-map ls path)) (ap (λ (y : List ℕ). is_prefix y (q ++ END ∷ [])) to.path_is ∙ begins_longer q (END ∷ []))

  pub behind_is : (n slot : ℕ) (way : List Pass) → IsWayTo ls n slot way → leaves_to ls (letters_of way) ≡ n + 1
  behind_is n slot way to = omega (arith, number_is n slot way to, one_below slot (letters_of way) to.slot_is)

  pub way_to : (n slot : ℕ) (way : List Pass) → IsWay ls way → IsSlotAt ls slot (letters_of way) → first_leaf ls (letters_of way) ≡ n → IsWayTo ls n slot way
  way_to n slot way w a e =
      let q = letters_of way in
      let one = slots_are_leaves hash_bits real_bits ls slot valid a.within in
      record {
        within = omega (arith, e, one_below slot q a, room ls [] q, all_below_root ls);
        nodes = w;
        path_is = ap (λ (k : ℕ). get_or (map path ls) k []) (sym e ∙ ap (first_leaf ls) (sym a.is)) ∙ one.path_is ∙ a.is;
        slot_is = a;
      }

  pub way_to_last : (n slot : ℕ) (way : List Pass) → IsWay ls way → IsSlotAt ls slot (letters_of way) → leaves_to ls (letters_of way) ≡ n + 1 → IsWayTo ls n slot way
  way_to_last n slot way w a e = way_to n slot way w a (omega (arith, e, one_below slot (letters_of way) a))
