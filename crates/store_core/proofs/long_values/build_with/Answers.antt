use Rattle.std.proofs.Common.{◌≡◌, ◌∙◌, ◌++◌, ◌∷◌, ◌≤◌, [], List, length, refl, sym, ap, subst, arith}
use Rattle.std.specs.Prelude.{IfOk}
use Rattle.block_model.specs.Order.{Follow, is_any}
use Rattle.entry_model.specs.Entries.{Entry, keys_of, put_entry}
use Rattle.filter_api.specs.declared.settings.Settings.{Settings}
use Rattle.store_core.specs.Flushing.{entries_above}
use Rattle.store_core.proofs.LongValues.{all_follow, below_follow, between_is, between_sound}
use Rattle.table_file.specs.Building.{Built}
use Rattle.store_core.proofs.long_values.build_with.Goals as goal

pub add-requires-clause-sound : goal.add-requires-clause-sound
add-requires-clause-sound g c = between_sound c.args.memory.now.entries (put_entry c.args.key.now c.args.value.now) c.requires.rises c.requires.table

pub add-requires-clause-rising : goal.add-requires-clause-rising
add-requires-clause-rising g c =
    let e = put_entry c.args.key.now c.args.value.now in
    subst (λ (es : List Entry). Follow is_any (keys_of (es ++ e ∷ []))) (sym (ap (λ (b : Built). b.entries) c.in_ok-add_below.ensures))
    (below_follow c.args.memory.now.entries e c.requires.rises c.requires.table)

pub add_above-requires-clause-rising : goal.add_above-requires-clause-rising
add_above-requires-clause-rising g c =
    let key = c.args.key.now in
    let entries = c.args.memory.now.entries in
    let e = put_entry key c.args.value.now in
    let below = ap (λ (b : Built). b.entries) c.in_ok-add_below.ensures in
    let added = ap (λ (b : Built). b.entries) c.in_ok-add.ensures.added ∙ ap (λ (es : List Entry). es ++ e ∷ []) below in
    subst (λ (es : List Entry). Follow is_any (keys_of (es ++ entries_above entries key))) (sym added) (all_follow entries e c.requires.rises c.requires.table)

pub returns : goal.returns
returns g c =
    let key = c.args.key.now in
    let entries = c.args.memory.now.entries in
    let e = put_entry key c.args.value.now in
    let below = ap (λ (b : Built). b.entries) c.in_ok-add_below.ensures in
    let added = ap (λ (b : Built). b.entries) c.in_ok-add.ensures.added ∙ ap (λ (es : List Entry). es ++ e ∷ []) below in
    let all = ap (λ (b : Built). b.entries) c.in_ok-add_above.ensures ∙ ap (λ (es : List Entry). es ++ entries_above entries key) added ∙ between_is entries e c.requires.rises in
    let settings = ap (λ (b : Built). b.settings) c.in_ok-add_above.ensures ∙ ap (λ (b : Built). b.settings) c.in_ok-add.ensures.added ∙ ap (λ (b : Built). b.settings) c.in_ok-add_below.ensures
    ∙ ap (λ (b : Built). b.settings) c.new-builder.ensures in
    let none = ap (λ (b : Built). b.ranges) c.in_ok-add_above.ensures ∙ ap (λ (b : Built). b.ranges) c.in_ok-add.ensures.added ∙ ap (λ (b : Built). b.ranges) c.in_ok-add_below.ensures
    ∙ ap (λ (b : Built). b.ranges) c.new-builder.ensures in
    subst (λ (b : Built). IfOk c.finish.result (λ parts. parts ≡ b)) (λ i. record { settings = settings i; entries = all i; ranges = none i }) c.finish.ensures
