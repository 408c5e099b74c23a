-- How many bytes a body has.
use Rattle.std.proofs.Common.{◌≡◌, ◌≤◌, ◌+◌, ◌*◌, ◌^◌, ℕ, List, ◌++◌, length, sym, ◌∙◌, arith, length-append}
use Rattle.std.specs.Int.{div_ceil}
use Rattle.std.specs.List.{concat}
use Rattle.byteorder.specs.Endian.{little_bytes}
use Rattle.byte_fields.specs.Sums.{fnv_of}
use Rattle.byte_fields.proofs.NumberLemmas.{length-little_bytes}
use Rattle.filter_api.specs.Spellings.{MayBeTrie}
use Rattle.filter_image_model.specs.Laws.{whole_list}
use Rattle.filter_model.specs.Image.{image}
use Rattle.filter_model.specs.Nodes.{all}
use Rattle.filter_trie.proofs.ImageSizes.{HasSections, has_sections, image_long}
use Rattle.filter_trie.specs.Parts.{lower, upper}
use Rattle.map_file_model.specs.Body.{body_head, body_of, front_of, offsets_of, slotted_values, words}
use Rattle.map_file_model.specs.Maps.{Bytes, Map, keys_of}
use Rattle.map_file_model.proofs.Words.{length-ends, length-words}
use Rattle.map_writer.specs.Plans.{IsPlanOf, bytes_by}
use Rattle.map_writer.specs.declared.plan.Plan.{Plan}
use Rattle.whole_keys.proofs.Listed.{keys_are_leaf_list}
use Rattle.whole_keys.specs.Whole.{whole_leaves}

pub may_be_trie : (keys : List Bytes) (plan : Plan) → IsPlanOf keys plan → MayBeTrie 0 0 plan.cutoff (whole_leaves keys)
may_be_trie keys plan p = record { hash_width = omega arith; real_width = omega arith; cutoff_in = p.planned.cutoff_in; valid = keys_are_leaf_list keys p.keys_are }

-- how many dense nodes and sparse labels a plan has
pub record HasSizes (keys : List Bytes) (plan : Plan) (dense labels : ℕ) : Type 0 where
  pub exact : length (image 0 0 plan.cutoff (whole_leaves keys)) ≡ bytes_by dense labels
  pub few_dense : dense ≤ 2 ^ 42
  pub few_labels : labels ≤ 2 ^ 42

no_bits : (n : ℕ) → div_ceil (n * (0 + 0)) 8 ≡ 0
no_bits n = omega arith

pub has_sizes : (keys : List Bytes) (plan : Plan) (dense labels : ℕ) → IsPlanOf keys plan
    → dense ≡ length (upper plan.cutoff (whole_leaves keys)) → labels ≡ length (all (lower plan.cutoff (whole_leaves keys))) → HasSizes keys plan dense labels
has_sizes keys plan dense labels p d l =
    let i = whole_list plan.cutoff (whole_leaves keys) in
    let has : HasSections i = has_sections i (may_be_trie keys plan p) in
    let long = image_long i has in
    record {
      exact =
          long ∙ (λ j. 40 + 64 * sym d j + div_ceil (sym d j) 8 + sym l j + 2 * div_ceil (sym l j) 8 + no_bits (length (whole_leaves keys)) j) ∙ plus_none (40 + 64 * dense + div_ceil dense 8 + labels + 2 * div_ceil labels 8);
      few_dense = omega (arith, d, has.few_dense);
      few_labels = omega (arith, l, has.few_labels);
    }
  where
    plus_none : (n : ℕ) → n + 0 ≡ n
    plus_none n = omega arith

-- the frame, the image and the values
front_long : (n : ℕ) (img : Bytes) (values : List Bytes) → length (front_of n img values) ≡ 24 + length img + 8 * (length values + 1) + length (concat values)
front_long n img values =
    omega (
      arith,
      length-append (body_head n (length img)) (img ++ (words (offsets_of values) ++ concat values)),
      length-append img (words (offsets_of values) ++ concat values),
      length-append (words (offsets_of values)) (concat values),
      length-words (offsets_of values),
      length-ends 0 values,
    )

pub body_long : (c : ℕ) (pairs : Map) → length (body_of c pairs) ≡ 24 + length (image 0 0 c (whole_leaves (keys_of pairs))) + 8 * (length (slotted_values pairs) + 2) + length (concat (slotted_values pairs))
unfolding body_of
body_long c pairs =
    let front = front_of (length pairs) (image 0 0 c (whole_leaves (keys_of pairs))) (slotted_values pairs) in
    omega (
      arith,
      length-append front (little_bytes 8 (fnv_of front)),
      front_long (length pairs) (image 0 0 c (whole_leaves (keys_of pairs))) (slotted_values pairs),
      length-little_bytes 8 (fnv_of front),
    )
