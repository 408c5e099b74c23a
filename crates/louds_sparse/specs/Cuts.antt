-- The labels of one node, in the label section of a half.
use Rattle.std.specs.Prelude.{◌≡◌, ℕ, ◌+◌, ◌<◌, ◌≤◌, ◌==◌, cond, List, slice_index}
use Rattle.filter_model.specs.Image.{has_letter}
use Rattle.filter_model.specs.Trie.{END}
use Rattle.trie_model.specs.Halves.{Half, begin_of, node_at, places_in}

-- node v's bytes stand from `start` on and before `end`, behind END where the node has it
pub record StandBytes (h : Half) (v start end : ℕ) : Type 0 where
  pub from : start ≡ begin_of h v + cond (has_letter (node_at h v) END) 1 0
  pub to : end ≡ begin_of h (v + 1)
  pub order : start ≤ end
  pub within : end ≤ places_in h

-- node v's labels that may be this byte stand from `start` on and before `end`: behind END where the byte is written as END is
pub record AreSearched (h : Half) (v byte start end : ℕ) : Type 0 where
  pub from : start ≡ begin_of h v + cond (byte == 255) (cond (has_letter (node_at h v) END) 1 0) 0
  pub to : end ≡ begin_of h (v + 1)
  pub order : start ≤ end
  pub within : end ≤ places_in h

-- from `start` on and before `end`, the labels at places below `place` are below the byte, and the one there is not
pub record IsCut (labels : List ℕ) (start end byte place : ℕ) : Type 0 where
  pub from : start ≤ place
  pub to : place ≤ end
  pub below : (k : ℕ) → start ≤ k → k < place → slice_index labels k < byte
  pub above : place < end → byte ≤ slice_index labels place
