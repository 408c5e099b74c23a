use Rattle.std.proofs.Common.{◌*◌}
use Rattle.block_model.specs.Pages.{page_bytes}
use Rattle.lines_in.proofs.EndCauses.{line_read, line_say, lines_on}
use Rattle.lines_in.proofs.Footprint.{within_on, within_say, within_still}
use Rattle.surf_run.specs.Kind.{filter_kind}
use Rattle.surf_run.proofs.LoadEnds.{line_causes, line_statuses, load_summed, load_unsummed, sum_causes, sum_opening, sum_shown, sum_statuses}
use Rattle.surf_run.proofs.loading.end_load.Goals as goal

pub returns-in-Ok-clause-ends : goal.returns-in-Ok-clause-ends
returns-in-Ok-clause-ends g c start seed first tells output far =
    load_summed (filter_kind g.F.RangeFilter.spelling g.F.RangeFilter.built_cutoff) start seed c.args.count c.args.refused c.args.store.now (g.W.Disk.world first) (g.W.Disk.world c.args.out.now)
    (g.W.Disk.world c.summarise.new.out) (g.W.Disk.world c.say_summary.new.out) far c.summarise.ensures.moves (g.met.W.Outside.said_now c.args.out.now) (g.met.W.Outside.said_now c.summarise.new.out) c.say_summary.ensures.moves
    c.say_summary.result c.in-Ok.summary (c.in-Ok.ensures.answer far.now tells far.tied) (c.say_summary.ensures.said output) (c.say_summary.ensures.prefix output) c.say_summary.ensures.ends

pub returns-in-Ok-clause-causes : goal.returns-in-Ok-clause-causes
returns-in-Ok-clause-causes g c =
    let a = g.W.Disk.world c.args.out.now in
    let mid = g.W.Disk.world c.summarise.new.out in
    line_causes c.say_summary.result a mid (g.W.Disk.world c.say_summary.new.out) (line_read c.summarise.ensures.moves.0 a mid c.summarise.ensures.moves.1).counts c.say_summary.ensures.ends

pub returns-in-Ok-clause-statuses : goal.returns-in-Ok-clause-statuses
returns-in-Ok-clause-statuses g c =
    let a = g.W.Disk.world c.args.out.now in
    let mid = g.W.Disk.world c.summarise.new.out in
    line_statuses c.say_summary.result a mid (g.W.Disk.world c.say_summary.new.out) (line_read c.summarise.ensures.moves.0 a mid c.summarise.ensures.moves.1).counts c.say_summary.ensures.ends

pub returns-in-Ok-clause-moves : goal.returns-in-Ok-clause-moves
returns-in-Ok-clause-moves g c =
    let a = g.W.Disk.world c.args.out.now in
    let mid = g.W.Disk.world c.summarise.new.out in
    let b = g.W.Disk.world c.say_summary.new.out in
    lines_on a mid b (line_read c.summarise.ensures.moves.0 a mid c.summarise.ensures.moves.1) (line_say mid b c.say_summary.ensures.moves)

pub say_why-requires : goal.say_why-requires
say_why-requires g c = sum_opening c.in-Err.why (g.W.Disk.world c.args.out.now) (g.W.Disk.world c.summarise.new.out) c.in-Err.ensures.refused

pub returns-in-Err-clause-ends : goal.returns-in-Err-clause-ends
returns-in-Err-clause-ends g c start seed first tells output far =
    let mid = g.W.Disk.world c.summarise.new.out in
    load_unsummed (filter_kind g.F.RangeFilter.spelling g.F.RangeFilter.built_cutoff) start seed c.args.count c.args.refused c.args.store.now (g.W.Disk.world first) (g.W.Disk.world c.args.out.now)
    mid (g.W.Disk.world c.say_why.new.out) far c.summarise.ensures.moves (g.met.W.Outside.said_now c.args.out.now) (g.met.W.Outside.said_now c.summarise.new.out) c.say_why.ensures.moves
    c.say_why.result c.in-Err.why (sum_opening c.in-Err.why (g.W.Disk.world c.args.out.now) mid c.in-Err.ensures.refused) c.in-Err.ensures.refused (c.in-Err.ensures.undamaged far.now tells far.tied) (c.in-Err.ensures.only_if_read far.now tells far.tied)
    (c.say_why.ensures.said output) (c.say_why.ensures.prefix output) c.say_why.ensures.ends

pub returns-in-Err-clause-shown : goal.returns-in-Err-clause-shown
returns-in-Err-clause-shown g c tells output five =
    sum_shown c.in-Err.why c.args.store.now.tables c.say_why.result (g.W.Disk.world c.args.out.now) (g.W.Disk.world c.summarise.new.out) (g.W.Disk.world c.say_why.new.out) (c.in-Err.ensures.shown tells)
    c.summarise.ensures.moves.1.held c.say_why.ensures.moves (c.say_why.ensures.said output) c.say_why.ensures.ends five

pub returns-in-Err-clause-causes : goal.returns-in-Err-clause-causes
returns-in-Err-clause-causes g c =
    let a = g.W.Disk.world c.args.out.now in
    let mid = g.W.Disk.world c.summarise.new.out in
    sum_causes c.in-Err.why c.say_why.result a mid (g.W.Disk.world c.say_why.new.out) c.in-Err.ensures.refused (line_read c.summarise.ensures.moves.0 a mid c.summarise.ensures.moves.1).counts c.say_why.ensures.moves
    c.say_why.ensures.ends

pub returns-in-Err-clause-statuses : goal.returns-in-Err-clause-statuses
returns-in-Err-clause-statuses g c =
    let a = g.W.Disk.world c.args.out.now in
    let mid = g.W.Disk.world c.summarise.new.out in
    sum_statuses c.in-Err.why c.say_why.result a mid (g.W.Disk.world c.say_why.new.out) c.in-Err.ensures.refused (line_read c.summarise.ensures.moves.0 a mid c.summarise.ensures.moves.1).counts c.say_why.ensures.moves
    c.say_why.ensures.ends

pub returns-in-Err-clause-moves : goal.returns-in-Err-clause-moves
returns-in-Err-clause-moves g c =
    let a = g.W.Disk.world c.args.out.now in
    let mid = g.W.Disk.world c.summarise.new.out in
    let b = g.W.Disk.world c.say_why.new.out in
    lines_on a mid b (line_read c.summarise.ensures.moves.0 a mid c.summarise.ensures.moves.1) (line_say mid b c.say_why.ensures.moves)

-- ---- where it writes

pub returns-in-Ok-clause-within : goal.returns-in-Ok-clause-within
returns-in-Ok-clause-within g c =
    let pages = page_bytes * c.args.store.now.manifest.version.pages in
    let a = g.W.Disk.world c.args.out.now in
    let mid = g.W.Disk.world c.summarise.new.out in
    let b = g.W.Disk.world c.say_summary.new.out in
    within_on pages a mid b (within_still pages a mid c.summarise.ensures.moves.1.held c.summarise.ensures.moves.1.time) (within_say pages mid b c.say_summary.ensures.moves)

pub returns-in-Err-clause-within : goal.returns-in-Err-clause-within
returns-in-Err-clause-within g c =
    let pages = page_bytes * c.args.store.now.manifest.version.pages in
    let a = g.W.Disk.world c.args.out.now in
    let mid = g.W.Disk.world c.summarise.new.out in
    let b = g.W.Disk.world c.say_why.new.out in
    within_on pages a mid b (within_still pages a mid c.summarise.ensures.moves.1.held c.summarise.ensures.moves.1.time) (within_say pages mid b c.say_why.ensures.moves)
