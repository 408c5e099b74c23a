use Rattle.std.proofs.Common.{◌≡◌, ◌*◌, ◌∙◌, inl, inr, sym}
use Rattle.std.specs.Prelude.{IsTrue}
use Rattle.block_model.specs.Pages.{page_bytes}
use Rattle.lines_in.proofs.EndCauses.{line_say, line_write, lines_on}
use Rattle.lines_in.proofs.Footprint.{within_on, within_say, within_write}
use Rattle.surf_run.specs.Kind.{filter_kind}
use Rattle.surf_run.specs.Resetting.{bad_number}
use Rattle.surf_run.proofs.LoadEnds.{line_causes}
use Rattle.surf_run.proofs.NewNumbersSet.{done, of_reset, refused, refused_at_eight, refused_at_ten, refused_causes, refused_statuses}
use Rattle.surf_run.proofs.resetting.reset_store.Goals as goal

pub returns-in-Ok-clause-ends : goal.returns-in-Ok-clause-ends
returns-in-Ok-clause-ends g c s first tells output opened there tied =
    let a = c.args.out.now in
    let m = c.set_numbers-set.new.out in
    done (filter_kind g.F.RangeFilter.spelling g.F.RangeFilter.built_cutoff) c.args.numbers s c.args.store c.set_numbers-set.new.store (g.W.Disk.world first) (g.W.Disk.world a) (g.W.Disk.world m) (g.W.Disk.world c.say_done.new.out)
    opened (g.met.W.Outside.said_now first) (g.met.W.Outside.said_now a) (g.met.W.Outside.said_now m) there tied (g.W.Disk.world a).seen.held (g.met.W.Disk.current a tells) c.set_numbers-set.ensures.moves c.say_done.ensures.moves
    tt (c.in-Ok.ensures.resets s tells tied) c.in-Ok.ensures.refused.in_range c.consistency_law.ensures.slot c.say_done.result (c.say_done.ensures.said output) (c.say_done.ensures.prefix output) c.say_done.ensures.ends

pub returns-in-Ok-clause-at_eight : goal.returns-in-Ok-clause-at_eight
returns-in-Ok-clause-at_eight g c eight = absurd (elim c.say_done.ensures.ends [ inl zero ↦ let f : 0 ≡ 8 = sym zero ∙ eight in cc | inr six ↦ let f : 6 ≡ 8 = sym six.0 ∙ eight in cc ])

pub returns-in-Ok-clause-at_ten : goal.returns-in-Ok-clause-at_ten
returns-in-Ok-clause-at_ten g c ten = absurd (elim c.say_done.ensures.ends [ inl zero ↦ let f : 0 ≡ 10 = sym zero ∙ ten in cc | inr six ↦ let f : 6 ≡ 10 = sym six.0 ∙ ten in cc ])

pub returns-in-Ok-clause-causes : goal.returns-in-Ok-clause-causes
returns-in-Ok-clause-causes g c =
    let a = g.W.Disk.world c.args.out.now in
    let m = g.W.Disk.world c.set_numbers-set.new.out in
    line_causes c.say_done.result a m (g.W.Disk.world c.say_done.new.out) (line_write 0 (page_bytes * c.args.store.manifest.version.pages) a m c.set_numbers-set.ensures.moves).counts c.say_done.ensures.ends

pub returns-in-Ok-clause-statuses : goal.returns-in-Ok-clause-statuses
returns-in-Ok-clause-statuses g c = elim c.say_done.ensures.ends [ inl zero ↦ inl (inl zero) | inr six ↦ inr (inr six.0) ]

pub returns-in-Ok-clause-moves : goal.returns-in-Ok-clause-moves
returns-in-Ok-clause-moves g c =
    let a = g.W.Disk.world c.args.out.now in
    let m = g.W.Disk.world c.set_numbers-set.new.out in
    let b = g.W.Disk.world c.say_done.new.out in
    lines_on a m b (line_write 0 (page_bytes * c.args.store.manifest.version.pages) a m c.set_numbers-set.ensures.moves) (line_say m b c.say_done.ensures.moves)

pub say_refused-requires : goal.say_refused-requires
say_refused-requires g c =
    let v = c.args.store.manifest.version in
    of_reset (bad_number c.args.numbers v.pages) v.epoch (g.W.Disk.world c.args.out.now) (g.W.Disk.world c.set_numbers-set.new.out) c.in-Err.why c.in-Err.ensures.refused

pub returns-clause-ends : goal.returns-clause-ends
returns-clause-ends g c s first tells output opened there tied =
    let a = c.args.out.now in
    let m = c.set_numbers-set.new.out in
    refused (filter_kind g.F.RangeFilter.spelling g.F.RangeFilter.built_cutoff) c.args.numbers s c.args.store c.set_numbers-set.new.store (g.W.Disk.world first) (g.W.Disk.world a) (g.W.Disk.world m) (g.W.Disk.world c.say_refused.new.out)
    opened (g.met.W.Outside.said_now first) (g.met.W.Outside.said_now a) (g.met.W.Outside.said_now m) there tied (g.W.Disk.world a).seen.held (g.met.W.Disk.current a tells) c.set_numbers-set.ensures.moves c.say_refused.ensures.moves
    c.in-Err.why (c.in-Err.ensures.resets s tells tied) c.in-Err.ensures.refused c.say_refused.result (c.say_refused.ensures.said output) (c.say_refused.ensures.prefix output) c.say_refused.ensures.ends

pub returns-clause-at_eight : goal.returns-clause-at_eight
returns-clause-at_eight g c eight =
    let a = g.W.Disk.world c.args.out.now in
    let m = g.W.Disk.world c.set_numbers-set.new.out in
    let v = c.args.store.manifest.version in
    refused_at_eight (bad_number c.args.numbers v.pages) v.epoch a m (g.W.Disk.world c.say_refused.new.out) c.in-Err.why c.in-Err.ensures.refused (line_write 0 (page_bytes * v.pages) a m c.set_numbers-set.ensures.moves).counts
    c.say_refused.ensures.moves c.say_refused.result c.say_refused.ensures.ends (IsTrue g.W.Outside.tells_output) c.say_refused.ensures.said c.set_numbers-set.ensures.moves.beside eight

pub returns-clause-at_ten : goal.returns-clause-at_ten
returns-clause-at_ten g c ten =
    let a = g.W.Disk.world c.args.out.now in
    let m = g.W.Disk.world c.set_numbers-set.new.out in
    let v = c.args.store.manifest.version in
    refused_at_ten (bad_number c.args.numbers v.pages) v.epoch a m (g.W.Disk.world c.say_refused.new.out) c.in-Err.why c.in-Err.ensures.refused (line_write 0 (page_bytes * v.pages) a m c.set_numbers-set.ensures.moves).counts
    c.say_refused.ensures.moves c.say_refused.result c.say_refused.ensures.ends ten

pub returns-clause-causes : goal.returns-clause-causes
returns-clause-causes g c =
    let a = g.W.Disk.world c.args.out.now in
    let m = g.W.Disk.world c.set_numbers-set.new.out in
    let v = c.args.store.manifest.version in
    refused_causes (bad_number c.args.numbers v.pages) v.epoch a m (g.W.Disk.world c.say_refused.new.out) c.in-Err.why c.in-Err.ensures.refused (line_write 0 (page_bytes * v.pages) a m c.set_numbers-set.ensures.moves).counts
    c.say_refused.ensures.moves c.say_refused.result c.say_refused.ensures.ends

pub returns-clause-statuses : goal.returns-clause-statuses
returns-clause-statuses g c =
    let a = g.W.Disk.world c.args.out.now in
    let m = g.W.Disk.world c.set_numbers-set.new.out in
    let v = c.args.store.manifest.version in
    refused_statuses (bad_number c.args.numbers v.pages) v.epoch a m (g.W.Disk.world c.say_refused.new.out) c.in-Err.why c.in-Err.ensures.refused (line_write 0 (page_bytes * v.pages) a m c.set_numbers-set.ensures.moves).counts
    c.say_refused.ensures.moves c.say_refused.result c.say_refused.ensures.ends

pub returns-clause-moves : goal.returns-clause-moves
returns-clause-moves g c =
    let a = g.W.Disk.world c.args.out.now in
    let m = g.W.Disk.world c.set_numbers-set.new.out in
    let b = g.W.Disk.world c.say_refused.new.out in
    lines_on a m b (line_write 0 (page_bytes * c.args.store.manifest.version.pages) a m c.set_numbers-set.ensures.moves) (line_say m b c.say_refused.ensures.moves)

-- ---- where it writes

pub returns-in-Ok-clause-within : goal.returns-in-Ok-clause-within
returns-in-Ok-clause-within g c =
    let n = page_bytes * c.args.store.manifest.version.pages in
    let a = g.W.Disk.world c.args.out.now in
    let m = g.W.Disk.world c.set_numbers-set.new.out in
    let b = g.W.Disk.world c.say_done.new.out in
    within_on n a m b (within_write n a m c.set_numbers-set.ensures.moves) (within_say n m b c.say_done.ensures.moves)

pub returns-clause-within : goal.returns-clause-within
returns-clause-within g c =
    let n = page_bytes * c.args.store.manifest.version.pages in
    let a = g.W.Disk.world c.args.out.now in
    let m = g.W.Disk.world c.set_numbers-set.new.out in
    let b = g.W.Disk.world c.say_refused.new.out in
    within_on n a m b (within_write n a m c.set_numbers-set.ensures.moves) (within_say n m b c.say_refused.ensures.moves)
