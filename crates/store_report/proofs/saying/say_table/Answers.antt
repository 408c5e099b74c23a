use Rattle.std.proofs.Common.{◌≡◌, ◌∙◌, ◌++◌, List, ℕ, ap, subst}
use Rattle.disk_trait.proofs.Calls.{on_ok_one}
use Rattle.block_model.specs.Places.{pages_of}
use Rattle.filter_api.specs.Ranges.{row_settings}
use Rattle.outside.specs.Streams.{SaysPrefix}
use Rattle.store_report.specs.Texts.{keys_text, table_head}
use Rattle.store_report.proofs.Parts.{prefix_of_more, prefix_on, said_on}
use Rattle.store_report.proofs.saying.say_table.Goals as goal

pub returns-in_err-say_all-clause-prefix : goal.returns-in_err-say_all-clause-prefix
returns-in_err-say_all-clause-prefix g c tells =
    let row = c.args.row.now in
    let head = table_head row.level row.first_page (pages_of row) row.entries (row_settings row) in
    let is : c.as_slice.result.now ≡ head = c.as_slice.ensures.value ∙ c.head_of-head.ensures in
    let old = (g.W.Disk.world c.args.out.now).beside.said in
    let new = (g.W.Disk.world c.say_all.new.out).beside.said in
    prefix_of_more head (keys_text c.args.least.now c.args.greatest.now) old new (subst (λ (t : List ℕ). SaysPrefix t old new) is (c.in_err-say_all.ensures.prefix tells))

pub returns-clause-said : goal.returns-clause-said
returns-clause-said g c tells =
    let row = c.args.row.now in
    let head = table_head row.level row.first_page (pages_of row) row.entries (row_settings row) in
    let is : c.as_slice.result.now ≡ head = c.as_slice.ensures.value ∙ c.head_of-head.ensures in
    let old = (g.W.Disk.world c.args.out.now).beside.said in
    on_ok_one _ _ c.say_keys.result
    (λ said. said_on head (keys_text c.args.least.now c.args.greatest.now) old _ _ (c.in_ok-say_all.ensures.said tells ∙ ap (λ (t : List ℕ). old ++ t) is) said)
    (c.say_keys.ensures.said tells)

pub returns-clause-prefix : goal.returns-clause-prefix
returns-clause-prefix g c tells =
    let row = c.args.row.now in
    let head = table_head row.level row.first_page (pages_of row) row.entries (row_settings row) in
    let is : c.as_slice.result.now ≡ head = c.as_slice.ensures.value ∙ c.head_of-head.ensures in
    let old = (g.W.Disk.world c.args.out.now).beside.said in
    prefix_on head (keys_text c.args.least.now c.args.greatest.now) old _ _ (c.in_ok-say_all.ensures.said tells ∙ ap (λ (t : List ℕ). old ++ t) is) (c.say_keys.ensures.prefix tells)
