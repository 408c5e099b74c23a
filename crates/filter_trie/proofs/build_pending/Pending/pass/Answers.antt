use Rattle.std.proofs.Common.{rules, ◌≡◌, ◌+◌, ◌∙◌, ap, arith, nat_lt}
use Rattle.std.proofs.lemmas.Fn.{filter_same}
use Rattle.std.specs.Prelude.{filter}
use Rattle.filter_trie.proofs.Levels.{keys_short}
use Rattle.filter_trie.proofs.PassedSuffixes.{longer_still}
use Rattle.trie_levels.specs.declared.spans.Span.{Span}
use Rattle.filter_trie.proofs.build_pending.Pending.pass.Goals as goal

pub overflow_add-last : goal.overflow_add-last
overflow_add-last c = omega (arith, keys_short c.args.keys.now c.requires.keys, c.requires.below)

kept : (c : goal.After-retain) → c.retain.new.self.items ≡ filter (λ (s : Span). nat_lt (c.args.level + 1) s.len) c.args.self.now.spans.items
kept c = filter_same _ (λ (s : Span). nat_lt (c.args.level + 1) s.len) _ (λ x b f' k. search rules) _ _ c.retain.ensures.filtered

pub returns-clause-pending : goal.returns-clause-pending
returns-clause-pending c = record {
  spans_are = kept c ∙ ap (filter (λ (s : Span). nat_lt (c.args.level + 1) s.len)) c.requires.pending.spans_are ∙ longer_still c.args.keys.now c.args.level;
  suffixes_are = c.add_suffixes.ensures;
  hash_width = c.requires.pending.hash_width;
  real_width = c.requires.pending.real_width;
}
