-- A half of a trie: some of its nodes in level order, and counts of what stands before them. Nodes and slots are numbered
-- over the whole trie, and places within the half: a place is the number of a branch among all branches of the half.
use Rattle.std.specs.Prelude.{ℕ, ◌+◌, ◌-◌, ◌<◌, ◌≤◌, cond, List, [], length, get_or, Option, Some, None}
use Rattle.std.specs.Option.{option_map}
use Rattle.filter_model.specs.Image.{label_of}
use Rattle.filter_model.specs.Nodes.{Node, all, at, children_before, first_place, leaves_before}
use Rattle.filter_model.specs.Trie.{END}
use Rattle.trie_model.specs.Branching.{branch_at, next_at, prev_at}
use Rattle.trie_model.specs.declared.parts.Before.{Before}

pub record Half : Type 0 where
  pub before : Before
  pub nodes : List Node

-- all of a trie
abbrev pub whole : List Node → Half
whole ns = record { before = record { nodes = 0; children = 0; slots = 0 }; nodes = ns }

-- v is one of its nodes, and p one of its places
abbrev pub HasNode : Half → ℕ → Type 0
HasNode h v = (h.before.nodes ≤ v) × (v < h.before.nodes + length h.nodes)

abbrev pub places_in : Half → ℕ
places_in h = length (all h.nodes)

-- node v, and the place at which it begins
abbrev pub node_at : Half → ℕ → Node
node_at h v = get_or h.nodes (v - h.before.nodes) []

abbrev pub begin_of : Half → ℕ → ℕ
begin_of h v = first_place h.nodes (v - h.before.nodes)

-- the place of node v's branch by the letter c, of its first by a byte from c on, and of its last by a byte below c
abbrev pub branch_place : Half → ℕ → ℕ → Option ℕ
branch_place h v c = option_map (λ i. begin_of h v + i) (branch_at (node_at h v) c)

abbrev pub next_place : Half → ℕ → ℕ → Option ℕ
next_place h v c = option_map (λ i. begin_of h v + i) (next_at (node_at h v) c)

abbrev pub prev_place : Half → ℕ → ℕ → Option ℕ
prev_place h v c = option_map (λ i. begin_of h v + i) (prev_at (node_at h v) c)

-- the byte of a branch, FF for END
abbrev pub byte_at : Half → ℕ → ℕ
byte_at h p = label_of (at h.nodes p).0

-- the first node whose branch stands at place p or later, and the number of all nodes where there is none
abbrev pub first_below : Half → ℕ → ℕ
first_below h p = h.before.children + children_before h.nodes p + 1

-- the node that the branch at place p leads to
abbrev pub child_at : Half → ℕ → Option ℕ
child_at h p = cond (at h.nodes p).1 (Some (first_below h p)) None

-- how many leaves stand before place p: the slot of the leaf there
abbrev pub slot_at : Half → ℕ → ℕ
slot_at h p = h.before.slots + leaves_before h.nodes p

-- the slot of node v's END
abbrev pub end_slot : Half → ℕ → Option ℕ
end_slot h v = option_map (slot_at h) (branch_place h v END)
