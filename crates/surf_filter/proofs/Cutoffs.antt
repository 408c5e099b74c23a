-- The rule's cutoff is at most the height, so the filter of keys may stand.
use Rattle.std.proofs.Common.{◌≡◌, ℕ, zero, suc, ◌≤◌, Bool, true, false, cond, List, length, arith, refl}
use Rattle.filter_api.specs.Spellings.{MayStand}
use Rattle.filter_model.specs.Keys.{IsKeyList}
use Rattle.filter_model.specs.Leaves.{Leaf, leaves_of}
use Rattle.filter_model.specs.Trie.{cutoff_from, cutoff_of, height, level_labels, level_nodes, may_be_dense}
use Rattle.filter_model.proofs.Validity.{leaves_are_listed, leaves_are_valid}
use Rattle.filter_trie.proofs.Whole.{tall_nodes}
use Rattle.key_base.specs.Limits.{max_hash_bits, max_real_bits}
use Rattle.surf_filter.specs.Cutoffs.{rule_cutoff}
use Rattle.trie_levels.proofs.Totals.{valid_lists_have_tries}
use Rattle.trie_levels.specs.Spans.{AreSpans, spans_of}
use Rattle.trie_levels.specs.declared.spans.Span.{Span}

lower : (b : Bool) (m k : ℕ) → k ≤ m → cond b (suc m) k ≤ suc m
lower true m k h = omega arith
lower false m k h = omega (arith, h)

cutoff_low : (n ratio : ℕ) (nodes labels : List ℕ) → cutoff_from n ratio nodes labels ≤ n
cutoff_low zero ratio nodes labels = omega arith
cutoff_low (suc n) ratio nodes labels = lower (may_be_dense ratio nodes labels (suc n)) n (cutoff_from n ratio nodes labels) (cutoff_low n ratio nodes labels)

-- of the counts of a trie's levels
pub counted_low : (ratio : ℕ) (ls : List Leaf) (nodes labels : List ℕ) → nodes ≡ level_nodes ls → cutoff_of ratio nodes labels ≤ height ls
counted_low ratio ls nodes labels e = omega (arith, cutoff_low (length nodes) ratio nodes labels, tall_nodes ls nodes e)

-- the spans of a key list's leaves
pub are_spans : (hash_bits real_bits : ℕ) (keys : List (List ℕ)) (spans : List Span) → real_bits ≤ max_real_bits → IsKeyList keys → spans ≡ spans_of (leaves_of hash_bits real_bits keys)
    → AreSpans (leaves_of hash_bits real_bits keys) spans
are_spans hash_bits real_bits keys spans width list e = record {
  trie = valid_lists_have_tries hash_bits real_bits (leaves_of hash_bits real_bits keys) (leaves_are_listed hash_bits real_bits keys width list);
  are = e;
}

-- the leaves of keys with the rule's cutoff
pub built_stands : (hash_bits real_bits ratio : ℕ) (keys : List (List ℕ)) → hash_bits ≤ max_hash_bits → real_bits ≤ max_real_bits → IsKeyList keys
    → MayStand hash_bits real_bits (rule_cutoff ratio (leaves_of hash_bits real_bits keys)) (leaves_of hash_bits real_bits keys)
built_stands hash_bits real_bits ratio keys hash real list =
    let ls = leaves_of hash_bits real_bits keys in
    record {
      hash_width = hash;
      real_width = real;
      cutoff_in = counted_low ratio ls (level_nodes ls) (level_labels ls) refl;
      valid = leaves_are_valid hash_bits real_bits keys real list;
    }
