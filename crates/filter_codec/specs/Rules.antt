-- The rules on nodes and on leaves that end, by the numbers that the code has.
use Rattle.std.specs.Prelude.{ℕ, suc, ◌+◌, ◌*◌, ◌/◌, ◌==◌, ◌&&◌, ◌||◌, nat_lt, Bool, true, cond, not, List, [], ◌∷◌, ◌++◌, length, slice_index_or, Option, None}
use Rattle.std.specs.Option.{option_or}
use Rattle.std.specs.Int.{div_ceil}
use Rattle.byte_fields.specs.Faults.{Fault, refuse}
use Rattle.filter_codec.specs.Tree.{counts_rule}
use Rattle.filter_image_model.specs.Kinds.{leaves_beside, leaves_under}
use Rattle.filter_image_model.specs.Reading.{is_no_root, nodes_fault, slot_letters}
use Rattle.filter_model.specs.Nodes.{Node}
use Rattle.filter_model.specs.Trie.{END}
use Rattle.suffix_bits.specs.Slots.{SuffixArray}

-- where the labels stand behind so many dense nodes
abbrev pub labels_place : ℕ → ℕ
labels_place dense = 40 + 64 * dense + div_ceil dense 8

-- the rule on nodes, by the numbers of leaves by which the root and a node are judged
abbrev pub shape_rule : ℕ → ℕ → ℕ → List Node → List Node → Option Fault
shape_rule height under beside dense sparse =
    refuse (is_no_root height under (dense ++ sparse)) 40 9
    (option_or (nodes_fault (λ n. 32) beside 40 dense)
    (nodes_fault length beside (labels_place (length dense)) sparse))

-- each label is below the next
abbrev pub rise : List ℕ → Bool
rise [] = true
rise (a ∷ []) = true
rise (a ∷ b ∷ labels) = nat_lt a b && rise (b ∷ labels)

-- no trie of so many leaves has a sparse node with these labels, where its first branch leads to a node or does not
abbrev pub is_wrong : ℕ → Bool → List ℕ → Bool
is_wrong leaves leads_on [] = true
is_wrong leaves leads_on (a ∷ []) = not leads_on && nat_lt 1 leaves
is_wrong leaves leads_on (a ∷ b ∷ labels) = cond (a == 255) (leads_on || not (rise (b ∷ labels))) (not (rise (a ∷ b ∷ labels)))

-- the real bits of a slot
abbrev pub real_in_slot : SuffixArray → ℕ → ℕ
real_in_slot array slot = (slice_index_or array.slots slot (0, 0)).1

-- the rule on leaves that end, by their letters from a slot on, where the suffixes begin at a place
abbrev pub ends_rule : ℕ → SuffixArray → ℕ → List ℕ → Option Fault
ends_rule place array slot [] = None
ends_rule place array slot (c ∷ cs) =
    refuse ((c == END) && not (real_in_slot array slot == 0)) (place + slot * (array.hash_bits + array.real_bits) / 8) 10
    (ends_rule place array (suc slot) cs)

-- the rules 8 to 10 of nodes and suffixes, where a leaf may be alone in its node, or may not
abbrev pub nodes_rule : Bool → ℕ → ℕ → ℕ → ℕ → SuffixArray → List Node → List Node → Option Fault
nodes_rule alone height cutoff leaves place array dense sparse =
    option_or (counts_rule height cutoff (length dense) leaves (dense ++ sparse))
    (option_or (shape_rule height (leaves_under alone leaves) (leaves_beside alone leaves) dense sparse)
    (ends_rule place array 0 (slot_letters (dense ++ sparse))))
