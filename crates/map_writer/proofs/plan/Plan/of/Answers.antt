use Rattle.std.proofs.Common.{◌∙◌, arith}
use Rattle.filter_model.specs.Trie.{cutoff_of}
use Rattle.map_file_model.proofs.Slotted.{tries}
use Rattle.map_writer.proofs.Tries.{are_cut, counted_low}
use Rattle.trie_levels.specs.Spans.{AreSpans}
use Rattle.whole_keys.specs.Whole.{whole_leaves}
use Rattle.map_writer.proofs.plan.Plan.of.Goals as goal

pub plan_spans-requires : goal.plan_spans-requires
plan_spans-requires c = (whole_leaves c.args.keys.now, record { trie = tries c.args.keys.now c.requires; are = c.as_slice.ensures.value ∙ c.in_ok-spans.ensures })

pub returns-clause-plan : goal.returns-clause-plan
returns-clause-plan c =
    let ls = whole_leaves c.args.keys.now in
    let are : AreSpans ls c.as_slice.result.now = record { trie = tries c.args.keys.now c.requires; are = c.as_slice.ensures.value ∙ c.in_ok-spans.ensures } in
    record {
      keys_are = c.requires;
      planned = record {
        cut = are_cut c.args.keys.now c.requires;
        spans_are = c.in_ok-spans.ensures;
        nodes_are = c.in_ok-levels.ensures.nodes ls are;
        labels_are = c.in_ok-levels.ensures.labels ls are;
        cutoff_in = omega (arith, c.cutoff-cutoff.ensures, counted_low c.args.ratio ls c.in_ok-levels.levels.nodes c.in_ok-levels.levels.labels (c.in_ok-levels.ensures.nodes ls are));
      };
    }

pub returns-clause-cutoff : goal.returns-clause-cutoff
returns-clause-cutoff c =
    let ls = whole_leaves c.args.keys.now in
    let are : AreSpans ls c.as_slice.result.now = record { trie = tries c.args.keys.now c.requires; are = c.as_slice.ensures.value ∙ c.in_ok-spans.ensures } in
    c.cutoff-cutoff.ensures ∙ (λ i. cutoff_of c.args.ratio (c.in_ok-levels.ensures.nodes ls are i) (c.in_ok-levels.ensures.labels ls are i))
