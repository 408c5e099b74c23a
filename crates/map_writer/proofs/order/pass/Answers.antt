use Rattle.std.proofs.Common.{rules, ◌+◌, nat_lt}
use Rattle.std.proofs.lemmas.Fn.{filter_same}
use Rattle.trie_levels.specs.declared.spans.Span.{Span}
use Rattle.map_writer.proofs.order.pass.Goals as goal

pub returns : goal.returns
returns c = filter_same _ (λ (s : Span). nat_lt (c.args.level + 1) s.len) _ (λ x b f' k. search rules) _ _ c.retain.ensures.filtered
