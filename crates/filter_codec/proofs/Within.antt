-- The place of a fault is one of the bytes, or just behind the last.
use Rattle.std.proofs.Common.{◌≡◌, ℕ, suc, ◌+◌, ◌*◌, ◌/◌, ◌≤◌, ◌∙◌, refl, sym, ap, subst, arith, length, length-append, Bool, true, false, List, [], ◌∷◌, ◌++◌, min}
use Rattle.std.specs.Prelude.{◌==◌, ◌||◌, nat_lt, not, filter, Option, Some, None, position, zip}
use Rattle.std.specs.Int.{div_ceil}
use Rattle.std.specs.Option.{option_map, option_or}
use Rattle.std.proofs.Math.Nat.{mul-le-mul_right}
use Rattle.std.proofs.lemmas.Bool.{ltb-false, ltb-true}
use Rattle.std.proofs.lemmas.List.Sums.{length-filter}
use Rattle.std.proofs.lemmas.List.{length-map}
use Rattle.std.proofs.lemmas.List.Quantifiers.{position-Some}
use Rattle.std.proofs.lemmas.Slice.Zip.{length-zip}
use Rattle.bit_words.proofs.Packing.{length-unpacked}
use Rattle.byte_fields.specs.Faults.{Fault, fault, refuse}
use Rattle.byte_fields.specs.Spelling.{IsBytes}
use Rattle.filter_codec.proofs.Numbers.{ends_there}
use Rattle.filter_codec.specs.Judging.{header_in, image_end, numbers_rule}
use Rattle.filter_image_model.proofs.Headers.{header_again, header_kept, widths_kept}
use Rattle.filter_image_model.proofs.ImageTrie.{counts_kept}
use Rattle.filter_image_model.proofs.Sections.{place_after-le}
use Rattle.filter_image_model.proofs.Written.{dense_count, sparse_spelled, whole_length}
use Rattle.filter_image_model.specs.Header.{Bytes, cutoff_in, dense_count_in, end_place, hash_bits_in, height_in, label_count_in, leaf_count_in, place_after, real_bits_in, section, section_bits, section_place, suffix_bits_in}
use Rattle.filter_image_model.specs.Kinds.{IsKind, Kind, leaves_beside}
use Rattle.filter_image_model.specs.Levels.{leaf_count_of}
use Rattle.filter_image_model.specs.Nodes.{dense_in, sparse_in}
use Rattle.filter_image_model.specs.Reading.{bytes_fault, counts_fault, ends_fault, fault_by, has_padding, image_head_fault, is_no_node, is_stray, length_fault, louds_fault, nodes_fault, nodes_rules, padding_fault, shape_fault, slot_letters, stray_fault}
use Rattle.filter_image_model.specs.Sections.{KeepsBytes}
use Rattle.filter_model.specs.Nodes.{Branch, Node, all}
use Rattle.key_base.specs.Limits.{max_hash_bits, max_key_bytes, max_real_bits}

-- a fault at a place up to n, or none
abbrev pub Within : ℕ → Option Fault → Type 0
Within n None = Unit {0}
Within n (Some f) = f.place ≤ n

refused : (n : ℕ) (bad : Bool) (place rule : ℕ) (later : Option Fault) → (bad ≡ true → place ≤ n) → (bad ≡ false → Within n later) → Within n (refuse bad place rule later)
refused n true place rule later here behind = here refl
refused n false place rule later here behind = behind refl

either : (n : ℕ) (a b : Option Fault) → Within n a → (a ≡ None → Within n b) → Within n (option_or a b)
either n None b here behind = behind refl
either n (Some f) b here behind = here

-- ---- the header and the length

bytes_within : (rule place : ℕ) (want : List ℕ) (bytes : Bytes) (n : ℕ) → place + length want ≤ n → Within n (bytes_fault rule place want bytes)
bytes_within rule place [] bytes n le = tt
bytes_within rule place (x ∷ want) bytes n le = refused n _ place rule (bytes_fault rule (suc place) want bytes) (λ _. omega (arith, le)) (λ _. bytes_within rule (suc place) want bytes n (omega (arith, le)))

numbers_within : (bytes : Bytes) → 40 ≤ length bytes → Within (length bytes) (numbers_rule bytes)
numbers_within bytes long =
    let n = length bytes in
    let leaves : Option Fault = refuse (leaf_count_in bytes == 0) 12 4 None in
    let cutoff : Option Fault = refuse (nat_lt (height_in bytes) (cutoff_in bytes)) 8 4 leaves in
    refused n ((height_in bytes == 0) || nat_lt max_key_bytes (height_in bytes)) 10 4 cutoff (λ _. omega (arith, long)) (λ _.
    refused n (nat_lt (height_in bytes) (cutoff_in bytes)) 8 4 leaves (λ _. omega (arith, long)) (λ _. refused n (leaf_count_in bytes == 0) 12 4 None (λ _. omega (arith, long)) (λ _. tt)))

widths_within : (h r : ℕ) (bytes : Bytes) → 40 ≤ length bytes
    → Within (length bytes) (refuse (nat_lt h (hash_bits_in bytes)) 5 3 (refuse (nat_lt r (real_bits_in bytes)) 6 3 (option_or (bytes_fault 3 7 (0 ∷ []) bytes) (numbers_rule bytes))))
widths_within h r bytes long =
    let n = length bytes in
    let zero_byte : Option Fault = option_or (bytes_fault 3 7 (0 ∷ []) bytes) (numbers_rule bytes) in
    refused n (nat_lt h (hash_bits_in bytes)) 5 3 (refuse (nat_lt r (real_bits_in bytes)) 6 3 zero_byte) (λ _. omega (arith, long)) (λ _.
    refused n (nat_lt r (real_bits_in bytes)) 6 3 zero_byte (λ _. omega (arith, long)) (λ _.
    either n (bytes_fault 3 7 (0 ∷ []) bytes) (numbers_rule bytes) (bytes_within 3 7 (0 ∷ []) bytes n (omega (arith, long))) (λ _. numbers_within bytes long)))

head_within : (h r : ℕ) (bytes : Bytes) → Within (length bytes) (image_head_fault h r bytes)
unfolding image_head_fault
head_within h r bytes =
    let n = length bytes in
    let widths : Option Fault = refuse (nat_lt h (hash_bits_in bytes)) 5 3 (refuse (nat_lt r (real_bits_in bytes)) 6 3 (option_or (bytes_fault 3 7 (0 ∷ []) bytes) (numbers_rule bytes))) in
    refused n (nat_lt n 40) n 1 (option_or (bytes_fault 2 0 (83 ∷ 85 ∷ 82 ∷ 70 ∷ 1 ∷ []) bytes) widths) (λ _. omega arith) (λ e.
    let long = ltb-false n 40 e in
    either n (bytes_fault 2 0 (83 ∷ 85 ∷ 82 ∷ 70 ∷ 1 ∷ []) bytes) widths (bytes_within 2 0 (83 ∷ 85 ∷ 82 ∷ 70 ∷ 1 ∷ []) bytes n (omega (arith, long))) (λ _. widths_within h r bytes (omega (arith, long))))

length_within : (bytes : Bytes) → Within (length bytes) (length_fault bytes)
unfolding length_fault
length_within bytes =
    let n = length bytes in
    refused n (nat_lt n (end_place bytes)) n 1 _ (λ _. omega arith) (λ _. refused n (nat_lt (end_place bytes) n) (end_place bytes) 5 None (λ e. let less = ltb-true (end_place bytes) n e in omega (arith, less)) (λ _. tt))

-- ---- the sections

padding_within : (place : ℕ) (widths : List ℕ) (bytes : Bytes) (n : ℕ) → place_after place widths ≤ n → Within n (padding_fault place widths bytes)
padding_within place [] bytes n le = tt
padding_within place (bits ∷ more) bytes n le =
    refused n (has_padding place bits bytes) (place + bits / 8) 6 _ (λ _. omega (arith, place_after-le (place + div_ceil bits 8) more, le)) (λ _. padding_within (place + div_ceil bits 8) more bytes n le)

-- the places of the sections
record AreIn (bytes : Bytes) : Type 0 where
  strays : section_place 1 bytes + 32 * dense_count_in bytes ≤ length bytes
  rows : 40 + 32 * dense_count_in bytes ≤ length bytes
  labels : section_place 3 bytes + label_count_in bytes ≤ length bytes
  suffixes : section_place 6 bytes + div_ceil (leaf_count_in bytes * suffix_bits_in bytes) 8 ≤ length bytes

module _ (d l w n : ℕ) (e : 40 + 64 * d + div_ceil d 8 + l + 2 * div_ceil l 8 + div_ceil w 8 ≡ n) where
  to_strays : 40 + div_ceil (256 * d) 8 + 32 * d ≤ n
  to_strays = omega (arith, e)

  to_rows : 40 + 32 * d ≤ n
  to_rows = omega (arith, e)

  to_labels : 40 + div_ceil (256 * d) 8 + div_ceil (256 * d) 8 + div_ceil d 8 + l ≤ n
  to_labels = omega (arith, e)

  to_suffixes : 40 + div_ceil (256 * d) 8 + div_ceil (256 * d) 8 + div_ceil d 8 + div_ceil (8 * l) 8 + div_ceil l 8 + div_ceil l 8 + div_ceil w 8 ≤ n
  to_suffixes = omega (arith, e)

sections_in : (bytes : Bytes) → end_place bytes ≡ length bytes → AreIn bytes
unfolding section_place section_bits
sections_in bytes whole =
    let d = dense_count_in bytes in
    let l = label_count_in bytes in
    let w = leaf_count_in bytes * suffix_bits_in bytes in
    let n = length bytes in
    let e : image_end (header_in bytes) ≡ length bytes = sym (ends_there bytes) ∙ whole in
    record { strays = to_strays d l w n e; rows = to_rows d l w n e; labels = to_labels d l w n e; suffixes = to_suffixes d l w n e }

smaller : (n m : ℕ) → min n m ≤ n
smaller n m = omega arith

length_0 : (bytes : Bytes) → length (section 0 bytes) ≡ 256 * dense_count_in bytes
unfolding section section_bits
length_0 bytes = length-unpacked 8 _ _

abbrev pairs_of : Bytes → List (Bool × Bool)
pairs_of bytes = zip (section 0 bytes) (section 1 bytes)

stray_at : (bytes : Bytes) → end_place bytes ≡ length bytes → (o : Option ℕ) → position is_stray (pairs_of bytes) ≡ o
    → Within (length bytes) (option_map (λ i. fault (section_place 1 bytes + i / 8) 7) o)
stray_at bytes whole None e = tt
stray_at bytes whole (Some k) e =
    let f = position-Some is_stray (pairs_of bytes) k (false, false) e in
    omega (arith, f.0, length-zip (section 0 bytes) (section 1 bytes), smaller (length (section 0 bytes)) (length (section 1 bytes)), length_0 bytes, (sections_in bytes whole).strays)

stray_within : (bytes : Bytes) → end_place bytes ≡ length bytes → Within (length bytes) (stray_fault bytes)
unfolding stray_fault
stray_within bytes whole = stray_at bytes whole (position is_stray (pairs_of bytes)) refl

louds_within : (bytes : Bytes) (n : ℕ) → 40 ≤ n → Within n (louds_fault bytes)
unfolding louds_fault
louds_within bytes n long = refused n _ 8 8 None (λ _. omega (arith, long)) (λ _. tt)

padding_by : (bytes : Bytes) → end_place bytes ≡ length bytes → Within (length bytes) (padding_fault 40 (section_bits bytes) bytes)
unfolding section_place section_bits
padding_by bytes whole = padding_within 40 (section_bits bytes) bytes (length bytes) (subst (λ n. n ≤ length bytes) (sym whole) (le-refl (length bytes)))
  where
    le-refl : (n : ℕ) → n ≤ n
    le-refl n = omega arith

length_4 : (bytes : Bytes) → length (section 4 bytes) ≡ label_count_in bytes
unfolding section section_bits
length_4 bytes = length-unpacked 8 _ _

label_count : (bytes : Bytes) → KeepsBytes bytes → length (all (sparse_in bytes)) ≡ label_count_in bytes
label_count bytes k = sym (length-map (all (sparse_in bytes)) (λ (b : Branch). b.1)) ∙ ap length (sparse_spelled bytes k).children_are ∙ length_4 bytes

-- ---- nodes

total : (Node → ℕ) → List Node → ℕ
total width [] = 0
total width (n ∷ ns) = width n + total width ns

nodes_within : (width : Node → ℕ) (leaves place n : ℕ) (ns : List Node) → place + total width ns ≤ n → Within n (nodes_fault width leaves place ns)
unfolding total
nodes_within width leaves place n [] le = tt
nodes_within width leaves place n (m ∷ ns) le =
    refused n (is_no_node leaves m) place 9 _ (λ _. omega (arith, le)) (λ _. nodes_within width leaves (place + width m) n ns (omega (arith, le)))

rows : (ns : List Node) → total (λ n. 32) ns ≡ 32 * length ns
unfolding total
rows [] = omega arith
rows (n ∷ ns) = omega (arith, rows ns)

branches : (ns : List Node) → total length ns ≡ length (all ns)
unfolding total
branches [] = refl
branches (n ∷ ns) = omega (arith, branches ns, length-append n (all ns))

shape_within : (alone : Bool) (bytes : Bytes) → 40 ≤ length bytes → end_place bytes ≡ length bytes → length (all (sparse_in bytes)) ≡ label_count_in bytes → Within (length bytes) (shape_fault alone bytes (dense_in bytes) (sparse_in bytes))
unfolding shape_fault
shape_within alone bytes long whole labels =
    let n = length bytes in
    let at = sections_in bytes whole in
    let L = leaves_beside alone (leaf_count_in bytes) in
    refused n _ 40 9 _ (λ _. long) (λ _.
    either n (nodes_fault (λ n. 32) L 40 (dense_in bytes)) _ (nodes_within (λ n. 32) L 40 n (dense_in bytes) (omega (arith, rows (dense_in bytes), dense_count bytes, at.rows))) (λ _.
    nodes_within length L (section_place 3 bytes) n (sparse_in bytes) (omega (arith, branches (sparse_in bytes), labels, at.labels))))

-- ---- suffixes

less_bits : (a b w : ℕ) → a ≤ b → a * w ≤ b * w
less_bits a b w le = mul-le-mul_right w le

ends_within : (bytes : Bytes) (slot n : ℕ) (cs : List ℕ) → section_place 6 bytes + (slot + length cs) * suffix_bits_in bytes / 8 ≤ n → Within n (ends_fault bytes slot cs)
unfolding ends_fault
ends_within bytes slot n [] le = tt
ends_within bytes slot n (c ∷ cs) le =
    let w = suffix_bits_in bytes in
    let up : slot * w ≤ (slot + length (c ∷ cs)) * w = less_bits slot (slot + length (c ∷ cs)) w (omega arith) in
    let same : (suc slot + length cs) * w ≡ (slot + length (c ∷ cs)) * w = ap (λ k. k * w) (omega arith) in
    refused n _ (section_place 6 bytes + slot * w / 8) 10 _ (λ _. omega (arith, up, le)) (λ _. ends_within bytes (suc slot) n cs (omega (arith, same, le)))

letters_are : (ns : List Node) → length (slot_letters ns) ≡ leaf_count_of ns
letters_are ns =
    length-map (filter (λ (b : Branch). not b.1) (all ns)) (λ (b : Branch). b.0) ∙ length-filter (λ (b : Branch). not b.1) (all ns)

counts_within : (bytes : Bytes) (n : ℕ) → 40 ≤ n → Within n (counts_fault bytes (dense_in bytes ++ sparse_in bytes))
unfolding counts_fault
counts_within bytes n long = refused n _ 8 8 None (λ _. omega (arith, long)) (λ _. tt)

nodes_rules_within : (alone : Bool) (bytes : Bytes) → 40 ≤ length bytes → end_place bytes ≡ length bytes → length (all (sparse_in bytes)) ≡ label_count_in bytes
    → Within (length bytes) (nodes_rules alone bytes (dense_in bytes) (sparse_in bytes))
unfolding nodes_rules
nodes_rules_within alone bytes long whole labels =
    let n = length bytes in
    let ns = dense_in bytes ++ sparse_in bytes in
    either n (counts_fault bytes ns) _ (counts_within bytes n long) (λ counts.
    either n (shape_fault alone bytes (dense_in bytes) (sparse_in bytes)) _ (shape_within alone bytes long whole labels) (λ _.
    let count : length (slot_letters ns) ≡ leaf_count_in bytes = letters_are ns ∙ (counts_kept bytes counts).leaves in
    ends_within bytes 0 n (slot_letters ns) (omega (arith, (sections_in bytes whole).suffixes, ap (λ k. k * suffix_bits_in bytes) (ap (λ k. 0 + k) count ∙ zero_plus (leaf_count_in bytes))))))
  where
    zero_plus : (k : ℕ) → 0 + k ≡ k
    zero_plus k = omega arith

-- the rules that follow, where a leaf may be alone in its node, or may not
abbrev pub from_louds : Bool → Bytes → Option Fault
from_louds alone bytes = option_or (louds_fault bytes) (nodes_rules alone bytes (dense_in bytes) (sparse_in bytes))

abbrev pub from_strays : Bool → Bytes → Option Fault
from_strays alone bytes = option_or (stray_fault bytes) (from_louds alone bytes)

abbrev pub from_padding : Bool → Bytes → Option Fault
from_padding alone bytes = option_or (padding_fault 40 (section_bits bytes) bytes) (from_strays alone bytes)

abbrev pub from_length : Bool → Bytes → Option Fault
from_length alone bytes = option_or (length_fault bytes) (from_padding alone bytes)

-- a header that breaks no rule of a kind breaks none of any trie
pub any_trie : (k : Kind) (bytes : Bytes) → IsKind k → image_head_fault k.hash_bits k.real_bits bytes ≡ None → image_head_fault max_hash_bits max_real_bits bytes ≡ None
any_trie k bytes kind e =
    let widths = widths_kept k.hash_bits k.real_bits bytes e in
    header_again k.hash_bits k.real_bits max_hash_bits max_real_bits bytes e (omega (arith, widths.0, kind.hash_width)) (omega (arith, widths.1, kind.real_width))

-- **the place of the first fault**
pub place_within : (k : Kind) (bytes : Bytes) → IsKind k → IsBytes bytes → Within (length bytes) (fault_by k bytes)
unfolding fault_by
place_within k bytes kind are =
    let n = length bytes in
    let a = k.alone in
    either n (image_head_fault k.hash_bits k.real_bits bytes) (from_length a bytes) (head_within k.hash_bits k.real_bits bytes) (λ first.
    let head = any_trie k bytes kind first in
    let long = (header_kept bytes head).long in
    either n (length_fault bytes) (from_padding a bytes) (length_within bytes) (λ lengths.
    let whole = whole_length bytes lengths in
    either n (padding_fault 40 (section_bits bytes) bytes) (from_strays a bytes) (padding_by bytes whole) (λ padding.
    either n (stray_fault bytes) (from_louds a bytes) (stray_within bytes whole) (λ strays.
    either n (louds_fault bytes) (nodes_rules a bytes (dense_in bytes) (sparse_in bytes)) (louds_within bytes n long) (λ louds.
    nodes_rules_within a bytes long whole (label_count bytes (record { bytes_are = are; header = head; lengths = lengths; padding = padding; strays = strays; louds = louds })))))))
