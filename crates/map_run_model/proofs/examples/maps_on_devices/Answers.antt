use Rattle.std.proofs.Common.{◌≡◌, ◌∙◌, refl, sym, ap, subst, ℕ}
use Rattle.disk_trait.specs.Image.{Shows}
use Rattle.filter_model.specs.Examples.{a_ab_sparse}
use Rattle.filter_model.specs.Trie.{branches, height, is_node, is_reached, letters, level, level_labels, level_nodes, nodes, nodes_to, path, places}
use Rattle.map_file_model.specs.Body.{body_of}
use Rattle.map_file_model.specs.ExampleBodies.{a_and_ab, a_and_ab_body}
use Rattle.map_file_model.specs.Reading.{body_fault, short_fault}
use Rattle.map_model.specs.SortedMap.{Bytes}
use Rattle.map_run_model.specs.ExampleImages.{a_and_ab_image}
use Rattle.map_run_model.specs.Files.{built_body, built_cutoff}
use Rattle.map_run_model.proofs.examples.maps_on_devices.Goals as goal

no_dense_level : built_cutoff a_and_ab ≡ 0
unfolding branches height is_node is_reached letters level level_labels level_nodes nodes nodes_to path places
no_dense_level = refl

shown : Shows 8 a_and_ab_body a_and_ab_image
unfolding a_and_ab_body a_ab_sparse
shown = refl

pub returns-clause-built : goal.returns-clause-built
returns-clause-built c = ap (λ (n : ℕ). body_of n a_and_ab) no_dense_level ∙ c.a_body_of_two_keys.ensures.sparse

pub returns-clause-there : goal.returns-clause-there
returns-clause-there c =
    let built : built_body a_and_ab ≡ a_and_ab_body = ap (λ (n : ℕ). body_of n a_and_ab) no_dense_level ∙ c.a_body_of_two_keys.ensures.sparse in
    record { gate = refl; body = subst (λ (b : Bytes). Shows 8 b a_and_ab_image) (sym built) shown }

pub returns-clause-read : goal.returns-clause-read
unfolding a_and_ab_body a_ab_sparse
returns-clause-read c = refl

pub returns-clause-too_long : goal.returns-clause-too_long
returns-clause-too_long c = refl

pub returns-clause-too_long_is_rule_1 : goal.returns-clause-too_long_is_rule_1
unfolding body_fault short_fault
returns-clause-too_long_is_rule_1 c = refl
