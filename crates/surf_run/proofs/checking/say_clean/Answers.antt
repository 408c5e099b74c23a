use Rattle.std.proofs.Common.{◌≡◌, ◌∙◌, ap, subst}
use Rattle.map_model.specs.SortedMap.{Bytes}
use Rattle.store_check.specs.Summaries.{HasSummaryCause, IsUndamaged}
use Rattle.store_check.specs.declared.summary.SummaryError.{SummaryError}
use Rattle.surf_run.proofs.Checked.{SaysLast, again_clean, again_damaged, again_device, again_memory, again_no_store}
use Rattle.surf_run.proofs.checking.say_clean.Goals as goal

pub returns-in-Ok : goal.returns-in-Ok
returns-in-Ok g c first changes heard all =
    let f = g.F.RangeFilter in
    let mid = g.W.Disk.world c.summary.new.disk in
    let new = g.W.Disk.world c.say_last.new.out in
    let said = c.say_last.ensures in
    again_clean f.spelling f.first_fault g.met.F.RangeFilter.spells_one g.W.Disk.tells g.W.Outside.tells_output (g.W.Disk.world first) (g.W.Disk.world c.args.out.now) mid new changes heard c.in-Ok.ensures.moves
    c.in-Ok.has c.say_last.result
    (subst (λ (t : Bytes). SaysLast g.W.Outside.tells_output 0 t c.say_last.result mid new) (c.as_slice.ensures.value ∙ c.clean_line-line.ensures) (record { whole = said.said; prefix = said.prefix; ends = said.ends; moves = said.moves }))
    all c.in-Ok.ensures.summary

pub returns-in-Err-Memory : goal.returns-in-Err-Memory
returns-in-Err-Memory g c first changes heard all =
    let f = g.F.RangeFilter in
    let said = c.say_cut_off.ensures in
    again_memory f.spelling f.first_fault g.met.F.RangeFilter.spells_one g.W.Disk.tells g.W.Outside.tells_output (g.W.Disk.world first) (g.W.Disk.world c.args.out.now) (g.W.Disk.world c.summary.new.disk)
    (g.W.Disk.world c.say_cut_off.new.out) changes heard c.in-Err-Memory.ensures.moves c.say_cut_off.result (record { whole = said.said; prefix = said.prefix; ends = said.ends; moves = said.moves })

pub returns-in-Err-Device : goal.returns-in-Err-Device
returns-in-Err-Device g c first changes heard all =
    let f = g.F.RangeFilter in
    let old = g.W.Disk.world c.args.out.now in
    let mid = g.W.Disk.world c.summary.new.disk in
    let said = c.say_cut_off-in-Err-Device.ensures in
    again_device f.spelling f.first_fault g.met.F.RangeFilter.spells_one g.W.Disk.tells g.W.Outside.tells_output (g.W.Disk.world first) old mid (g.W.Disk.world c.say_cut_off-in-Err-Device.new.out) changes heard
    c.in-Err-Device.ensures.moves c.in-Err-Device.cause c.say_cut_off-in-Err-Device.result (record { whole = said.said; prefix = said.prefix; ends = said.ends; moves = said.moves })
    (subst (λ (why : SummaryError). HasSummaryCause old mid why) c.in-Err-Device.field-0-is c.in-Err-Device.ensures.cause)

pub returns-in-Err-NotAStore : goal.returns-in-Err-NotAStore
returns-in-Err-NotAStore g c first changes heard all =
    let f = g.F.RangeFilter in
    let said = c.say_cut_off-in-Err-NotAStore.ensures in
    again_no_store f.spelling f.first_fault g.met.F.RangeFilter.spells_one g.W.Disk.tells g.W.Outside.tells_output (g.W.Disk.world first) (g.W.Disk.world c.args.out.now) (g.W.Disk.world c.summary.new.disk)
    (g.W.Disk.world c.say_cut_off-in-Err-NotAStore.new.out) changes heard c.in-Err-NotAStore.ensures.moves all
    (λ s told is. subst IsUndamaged c.in-Err-NotAStore.field-0-is (c.in-Err-NotAStore.ensures.summary s told is)) c.say_cut_off-in-Err-NotAStore.result
    (record { whole = said.said; prefix = said.prefix; ends = said.ends; moves = said.moves })

pub returns-in-Err-Damaged : goal.returns-in-Err-Damaged
returns-in-Err-Damaged g c first changes heard all =
    let f = g.F.RangeFilter in
    again_damaged f.spelling f.first_fault g.met.F.RangeFilter.spells_one g.W.Disk.tells g.W.Outside.tells_output (g.W.Disk.world first) (g.W.Disk.world c.args.out.now) (g.W.Disk.world c.summary.new.disk)
    (g.W.Disk.world c.say_one.new.out) changes heard c.in-Err-Damaged.ensures.moves all
    (λ s told is. subst IsUndamaged c.in-Err-Damaged.field-0-is (c.in-Err-Damaged.ensures.summary s told is)) c.say_one.result c.say_one.ensures.ends c.say_one.ensures.moves
