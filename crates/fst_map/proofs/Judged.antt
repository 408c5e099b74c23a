-- Which rule of a body is the first that is broken, by the order in which its parts are judged.
use Rattle.std.proofs.Common.{◌≡◌, ◌==◌, ◌+◌, ℕ, Bool, length, refl, sym, ap, ◌∙◌}
use Rattle.std.specs.Prelude.{Option, Some, None, not, drop}
use Rattle.std.specs.Option.{option_map, option_or}
use Rattle.std.proofs.lemmas.Bool.{eq-eqb, ne_eqb}
use Rattle.byte_fields.specs.Faults.{Fault, fault, refuse}
use Rattle.byte_fields.specs.Spelling.{IsBytes}
use Rattle.byte_fields.proofs.FaultLemmas.{none_of, not_true, passed}
use Rattle.byte_fields.proofs.NumberLemmas.{IsBytes-drop, IsBytes-take}
use Rattle.filter_image_model.proofs.ImageRead.{whole_read_again}
use Rattle.filter_image_model.proofs.ImageTrie.{trie_read}
use Rattle.filter_image_model.proofs.Validity.{whole_keys_are_a_kind, whole_was_written_so}
use Rattle.filter_image_model.specs.Header.{leaf_count_in}
use Rattle.filter_image_model.specs.Kinds.{of_whole_keys}
use Rattle.filter_image_model.specs.Laws.{IsWholeImage, whole_list}
use Rattle.filter_image_model.specs.Reading.{image_in, whole_fault}
use Rattle.filter_model.specs.Leaves.{Filter}
use Rattle.fst_map.specs.Opened.{IsCause, IsFaultOf, IsFirstFault, IsOfImage}
use Rattle.fst_map.specs.declared.error.FstError.{FstError}
use Rattle.fst_map.specs.declared.error.FstError.TheVariants as error
use Rattle.map_file_model.proofs.ReadAgain.{body_again}
use Rattle.map_file_model.specs.Maps.{Bytes}
use Rattle.map_file_model.specs.Reading.{body_fault, fault_behind, head_fault, image_length_in, image_part, pair_count_in, short_fault, trie_fault}
use Rattle.map_parts.specs.Parts.{front_rules, rest_rules, seen}
use Rattle.map_parts.specs.declared.fault.MapFault.{MapFault}

-- ---- the parts in their order

or_assoc : (a b c : Option Fault) → option_or a (option_or b c) ≡ option_or (option_or a b) c
or_assoc None b c = refl
or_assoc (Some f) b c = refl

pub by_parts : (bytes : Bytes) → body_fault bytes ≡ option_or (front_rules bytes) (option_or (trie_fault bytes) (rest_rules bytes))
unfolding body_fault
by_parts bytes = or_assoc (short_fault bytes) (head_fault bytes) (option_or (trie_fault bytes) (rest_rules bytes))

none_and_some : {f : Fault} {o : Option Fault} → o ≡ None → o ≡ Some f → ⊥
none_and_some {f} none some = let wrong : None ≡ Some f = sym none ∙ some in cc

first_fault : (bytes : Bytes) (f : MapFault) → body_fault bytes ≡ Some (seen f) → IsFirstFault bytes f
first_fault bytes f is = record { no_body = λ cutoff pairs body. none_and_some (body_again cutoff pairs bytes body).no_fault is; first = is }

pub front_broken : (bytes : Bytes) (f : MapFault) → Some (seen f) ≡ front_rules bytes → IsFirstFault bytes f
front_broken bytes f is =
    first_fault bytes f (by_parts bytes ∙ ap (λ (o : Option Fault). option_or o (option_or (trie_fault bytes) (rest_rules bytes))) (sym is))

behind_front : (bytes : Bytes) → None ≡ front_rules bytes → body_fault bytes ≡ option_or (trie_fault bytes) (rest_rules bytes)
behind_front bytes none = by_parts bytes ∙ ap (λ (o : Option Fault). option_or o (option_or (trie_fault bytes) (rest_rules bytes))) (sym none)

pub trie_broken : (bytes : Bytes) (e : FstError) → None ≡ front_rules bytes → IsFaultOf (trie_fault bytes) e → IsCause bytes e
trie_broken bytes error.Memory none is = tt
trie_broken bytes (error.Fault f) none is =
    first_fault bytes f (behind_front bytes none ∙ ap (λ (o : Option Fault). option_or o (rest_rules bytes)) is)

behind_trie : (bytes : Bytes) → None ≡ front_rules bytes → trie_fault bytes ≡ None → body_fault bytes ≡ rest_rules bytes
behind_trie bytes none kept = behind_front bytes none ∙ ap (λ (o : Option Fault). option_or o (rest_rules bytes)) kept

pub rest_broken : (bytes : Bytes) (f : MapFault) → None ≡ front_rules bytes → trie_fault bytes ≡ None → Some (seen f) ≡ rest_rules bytes → IsFirstFault bytes f
rest_broken bytes f none kept is = first_fault bytes f (behind_trie bytes none kept ∙ sym is)

pub none_broken : (bytes : Bytes) → None ≡ front_rules bytes → trie_fault bytes ≡ None → None ≡ rest_rules bytes → body_fault bytes ≡ None
none_broken bytes none kept rest = behind_trie bytes none kept ∙ sym rest

-- ---- the trie

pub image_broken : (bytes : Bytes) (place rule : ℕ) → whole_fault (image_part bytes) ≡ Some (fault place rule) → trie_fault bytes ≡ Some (fault (24 + place) 5)
unfolding trie_fault
image_broken bytes place rule is =
    ap (λ (o : Option Fault). option_or (option_map (fault_behind 24 5) o) (refuse (not (leaf_count_in (image_part bytes) == pair_count_in bytes)) 8 6 None)) is

module _ (bytes : Bytes) (h : IsBytes bytes) (trie : Filter) (is : IsWholeImage trie.cutoff trie.leaves (image_part bytes)) (list : trie ≡ whole_list trie.cutoff trie.leaves) where
  abbrev part : Bytes
  part = image_part bytes

  part_bytes : IsBytes (image_part bytes)
  unfolding image_part
  part_bytes = IsBytes-take (image_length_in bytes) (drop 24 bytes) (IsBytes-drop 24 bytes h)

  again : (whole_fault part ≡ None) × (image_in part ≡ whole_list trie.cutoff trie.leaves)
  again = whole_read_again trie.cutoff trie.leaves part is

  pub of_image : IsOfImage bytes trie
  of_image = record {
    leaves_are = ap (λ (i : Filter). i.leaves) (sym again.1 ∙ (whole_was_written_so part part_bytes again.0).0);
    no_bits = ap (λ (i : Filter). i.real_bits) list;
  }

  leaf_count : leaf_count_in part ≡ length trie.leaves
  leaf_count = sym (trie_read of_whole_keys part whole_keys_are_a_kind part_bytes again.0).count ∙ ap length (sym of_image.leaves_are)

  pub trie_kept : length trie.leaves ≡ pair_count_in bytes → trie_fault bytes ≡ None
  unfolding trie_fault
  trie_kept same =
      none_of (option_map (fault_behind 24 5) (whole_fault part)) _ (ap (option_map (fault_behind 24 5)) again.0)
      (passed (not (leaf_count_in part == pair_count_in bytes)) 8 6 None (not_true _ (eq-eqb (leaf_count_in part) (pair_count_in bytes) (leaf_count ∙ same))) refl)

  pub count_broken : (length trie.leaves ≡ pair_count_in bytes → ⊥) → trie_fault bytes ≡ Some (fault 8 6)
  unfolding trie_fault
  count_broken other =
      ap (λ (o : Option Fault). option_or (option_map (fault_behind 24 5) o) (refuse (not (leaf_count_in part == pair_count_in bytes)) 8 6 None)) again.0
      ∙ ap (λ (t : Bool). refuse (not t) 8 6 None) (ne_eqb (leaf_count_in part) (pair_count_in bytes) (λ e. other (sym leaf_count ∙ e)))
