-- What is known before a body is written.
use Rattle.std.specs.Prelude.{ℕ, ◌+◌, ◌*◌, List}
use Rattle.std.specs.Int.{div_ceil}
use Rattle.filter_model.specs.Keys.{IsKeyList}
use Rattle.filter_model.specs.Trie.{cutoff_of, level_labels, level_nodes}
use Rattle.map_file_model.specs.Maps.{Bytes}
use Rattle.map_writer.specs.declared.plan.Plan.{Plan}
use Rattle.trie_build.specs.Building.{IsPlanned}
use Rattle.whole_keys.specs.Whole.{whole_leaves}

-- how many levels of the trie of whole keys are dense by the rule
abbrev pub whole_cutoff : ℕ → List Bytes → ℕ
whole_cutoff ratio keys = cutoff_of ratio (level_nodes (whole_leaves keys)) (level_labels (whole_leaves keys))

-- the plan is that of a list of keys
pub record IsPlanOf (keys : List Bytes) (plan : Plan) : Type 0 where
  pub keys_are : IsKeyList keys
  pub planned : IsPlanned keys (whole_leaves keys) plan.spans.items plan.levels plan.cutoff

-- the bytes of an image of whole keys, by its dense nodes and its sparse labels
abbrev pub bytes_by : ℕ → ℕ → ℕ
bytes_by dense labels = 40 + 64 * dense + div_ceil dense 8 + labels + 2 * div_ceil labels 8
