use Rattle.std.proofs.Common.{◌≡◌, ◌∙◌, true, false, sym, ap, subst}
use Rattle.std.specs.Option.{option_map}
use Rattle.entry_model.specs.Entries.{entry_of}
use Rattle.key_base.specs.ByteOrder.{is_before}
use Rattle.merge_rows.specs.Choosing.{IsHeadAbove, head_in}
use Rattle.merge_rows.specs.Leads.{key_at_hand}
use Rattle.table_file.specs.Walks.{first_of}
use Rattle.merge_rows.proofs.Keys.{before_of}
use Rattle.merge_rows.proofs.Least.{first_memory, first_table, head_here, none_found, none_from, nows, walks_from_key}
use Rattle.merge_rows.proofs.choosing.Source.first.Goals as goal

pub returns-then-is_before_key-clause-least : goal.returns-then-is_before_key-clause-least
returns-then-is_before_key-clause-least c =
    let walks = c.args.walks.now in
    let at = c.in-Some-Some.at in
    let key = c.in-Some-Some.key.now in
    let other = key_at_hand (head_in walks at) in
    let here = head_here walks at c.index-walks-at.result c.index-walks-at.result c.in-Some-Some.ensures'.there c.index-walks-at.is in
    let before : is_before other key ≡ true = sym (c.if-is_before_key.ensures ∙ ap (λ h. is_before (key_at_hand h) key) here) in
    first_table (first_of c.args.memory.now) walks at other c.in-Some-Some.ensures'.least
    (subst (IsHeadAbove other) c.in-Some-Some.ensures.now (before_of other key before))

pub returns-else-is_before_key-clause-least : goal.returns-else-is_before_key-clause-least
returns-else-is_before_key-clause-least c =
    let walks = c.args.walks.now in
    let at = c.in-Some-Some.at in
    let key = c.in-Some-Some.key.now in
    let other = key_at_hand (head_in walks at) in
    let here = head_here walks at c.index-walks-at.result c.index-walks-at.result c.in-Some-Some.ensures'.there c.index-walks-at.is in
    let not_so : is_before other key ≡ false = sym (c.if-is_before_key.ensures ∙ ap (λ h. is_before (key_at_hand h) key) here) in
    first_memory (entry_of key (option_map (λ v. v.now) c.in-Some-Some.field-0-1-0)) (first_of c.args.memory.now) walks c.in-Some-Some.ensures.now
    (walks_from_key key walks at other c.in-Some-Some.ensures'.least not_so)

pub returns-in-Some-None-clause-least : goal.returns-in-Some-None-clause-least
returns-in-Some-None-clause-least c =
    let head = entry_of c.in-Some-None.field-0-0.0.now (option_map (λ v. v.now) c.in-Some-None.field-0-0.1) in
    first_memory head (first_of c.args.memory.now) c.args.walks.now c.in-Some-None.ensures.now
    (none_from head.key (nows c.args.walks.now) (none_found c.args.walks.now c.in-Some-None.ensures'.least))

pub returns-in-None-Some-clause-least : goal.returns-in-None-Some-clause-least
returns-in-None-Some-clause-least c =
    let key = key_at_hand (head_in c.args.walks.now c.in-None-Some.at) in
    first_table (first_of c.args.memory.now) c.args.walks.now c.in-None-Some.at key c.in-None-Some.ensures'.least (subst (IsHeadAbove key) c.in-None-Some.ensures.now tt)

pub returns-in-None-None-clause-least : goal.returns-in-None-None-clause-least
returns-in-None-None-clause-least c = (sym c.in-None-None.ensures.now, none_found c.args.walks.now c.in-None-None.ensures'.least)
