use Rattle.std.proofs.Common.{◌≡◌, refl, sym, ap, ◌∙◌}
use Rattle.std.specs.Prelude.{Some, None}
use Rattle.block_model.specs.Formats.{Old, format_in}
use Rattle.block_model.proofs.EntriesJudged.{header_broken}
use Rattle.block_model.proofs.EitherFormat.{old_as_before}
use Rattle.block_format.specs.Reading.{seen}
use Rattle.block_format.specs.Walking.{format_of}
use Rattle.block_format.proofs.JudgedBlocks.{block_broken, block_ends}
use Rattle.block_format.proofs.judged.judge_any.Goals as goal

pub returns-in-Err-clause-broken : goal.returns-in-Err-clause-broken
returns-in-Err-clause-broken c =
    header_broken c.args.bytes.now (format_in c.args.bytes.now) refl (seen c.in-Err.fault) c.in-Err.ensures.broken

pub returns-in-Err-old-clause-broken : goal.returns-in-Err-old-clause-broken
returns-in-Err-old-clause-broken c =
    let old : format_in c.args.bytes.now ≡ Old = sym c.in-Ok.ensures.format ∙ ap format_of c.in-Old.is in
    (old_as_before c.args.bytes.now old).0 ∙ (rw c.in-Err-old.is at c.judge_old-sum.ensures.broken)

pub returns-in-Ok-old-clause-sound : goal.returns-in-Ok-old-clause-sound
returns-in-Ok-old-clause-sound c =
    let old : format_in c.args.bytes.now ≡ Old = sym c.in-Ok.ensures.format ∙ ap format_of c.in-Old.is in
    let h = c.in-Ok.ensures in
    record {
      whole = (old_as_before c.args.bytes.now old).0 ∙ (rw c.in-Ok-old.is at c.judge_old-sum.ensures.whole);
      format = h.format;
      used = h.used;
      count = h.count;
      from = h.from;
      many = h.many;
      within = h.within.0;
      inside = h.within.1;
    }

pub returns-in-Err-judged-clause-broken : goal.returns-in-Err-judged-clause-broken
returns-in-Err-judged-clause-broken c =
    let head = c.in-Ok.head in
    let h = c.in-Ok.ensures in
    block_broken c.args.bytes.now (format_of head.format) head.used head.count head.from h.format h.used h.count h.from h.within.0 h.kept
    (seen c.in-Err-judged.fault) (rw c.in-Err-judged.is at c.judge_entries-sum.ensures.broken)

pub returns-in-Err-check_padding-clause-broken : goal.returns-in-Err-check_padding-clause-broken
returns-in-Err-check_padding-clause-broken c =
    let head = c.in-Ok.head in
    let h = c.in-Ok.ensures in
    block_ends c.args.bytes.now (format_of head.format) head.used head.count head.from h.format h.used h.count h.from h.within.0 h.kept
    (Some (seen c.in-Err-check_padding.fault)) (rw c.in-Ok-judged.is at c.judge_entries-sum.ensures.kept) c.in-Err-check_padding.ensures.broken

pub returns-in-Ok-check_padding-clause-sound : goal.returns-in-Ok-check_padding-clause-sound
returns-in-Ok-check_padding-clause-sound c =
    let head = c.in-Ok.head in
    let h = c.in-Ok.ensures in
    record {
      whole = block_ends c.args.bytes.now (format_of head.format) head.used head.count head.from h.format h.used h.count h.from h.within.0 h.kept
          None (rw c.in-Ok-judged.is at c.judge_entries-sum.ensures.kept) c.in-Ok-check_padding.ensures.whole;
      format = h.format;
      used = h.used;
      count = h.count;
      from = h.from;
      many = h.many;
      within = h.within.0;
      inside = h.within.1;
    }
