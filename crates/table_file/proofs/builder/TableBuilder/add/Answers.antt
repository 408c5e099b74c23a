use Rattle.std.proofs.Common.{rules, ◌≡◌, ◌∙◌, ◌++◌, ◌∷◌, [], Bool, List, cond, false, true, length, sym, ap, subst, arith, append_assoc, length-append}
use Rattle.std.specs.Option.{option_map}
use Rattle.entry_model.specs.Entries.{Entry, entry_of, keys_of}
use Rattle.block_model.specs.Formats.{Prefixed}
use Rattle.block_model.specs.Block.{IsBlock, block_bytes}
use Rattle.block_model.specs.Laws.{joined}
use Rattle.block_model.specs.Order.{Follow, is_any}
use Rattle.block_model.specs.Pages.{last_key}
use Rattle.block_format.specs.Building.{takes}
use Rattle.table_file.specs.BlockRows.{rows_seen, unsummed_row_of}
use Rattle.table_file.specs.Building.{Built, closed_in, entries_with}
use Rattle.table_file.proofs.Builders.{are_more, built_behind, built_in_place, bytes_long, open_is, some_open}
use Rattle.table_file.proofs.Keys.{last_before}
use Rattle.table_file.proofs.builder.TableBuilder.add.Goals as goal

-- ---- the next block is begun

pub get-last-requires : goal.get-last-requires
get-last-requires c =
    omega (arith, c.len-others.ensures, ap length c.in_ok-push_key.ensures.added, length-append c.self.inside.keys (c.args.key.now ∷ []))

pub close_block-requires-clause-sound : goal.close_block-requires-clause-sound
close_block-requires-clause-sound c =
    let t = c.self.inside in
    let e = entry_of c.args.key.now (option_map (λ v. v.now) c.args.value) in
    let unadded : c.add.new.self ≡ t.«open» = c.in-Ok-false.ensures.added ∙ ap (λ (b : Bool). cond b (t.«open» ++ e ∷ []) t.«open») c.in-Ok-false.field-0-test in
    let full : takes t.«open» e ≡ false = sym c.in-Ok-false.ensures.room ∙ c.in-Ok-false.field-0-test in
    subst (IsBlock Prefixed) (sym unadded) (open_is _ t.blocks.items (rows_seen t.rows.items) t.«open» t.keys c.self.invariant.2 (some_open t.«open» e full))

pub close_block-requires-clause-last : goal.close_block-requires-clause-last
close_block-requires-clause-last c =
    let t = c.self.inside in
    let e = entry_of c.args.key.now (option_map (λ v. v.now) c.args.value) in
    let unadded : c.add.new.self ≡ t.«open» = c.in-Ok-false.ensures.added ∙ ap (λ (b : Bool). cond b (t.«open» ++ e ∷ []) t.«open») c.in-Ok-false.field-0-test in
    let full : takes t.«open» e ≡ false = sym c.in-Ok-false.ensures.room ∙ c.in-Ok-false.field-0-test in
    c.get-last.ensures
    ∙ last_before (joined (closed_in (rows_seen t.rows.items) t.blocks.items)) t.«open» t.keys c.push_key.new.keys c.args.key.now c.len-others.result (some_open t.«open» e full) c.self.invariant.2.keys_are
    c.len-others.ensures c.in_ok-push_key.ensures.added
    ∙ ap last_key (sym unadded)

pub close_block-requires-clause-whole : goal.close_block-requires-clause-whole
close_block-requires-clause-whole c =
    let t = c.self.inside in
    bytes_long _ t.blocks.items (rows_seen t.rows.items) t.«open» t.keys c.self.invariant.2

-- ---- the entry is added

pub invariant_of-self-in-Ok-true : goal.invariant_of-self-in-Ok-true
invariant_of-self-in-Ok-true c =
    let t = c.self.inside in
    let e = entry_of c.args.key.now (option_map (λ v. v.now) c.args.value) in
    let entries : entries_with (closed_in (rows_seen t.rows.items) t.blocks.items) t.«open» ≡ c.args.self.now.entries = ap (λ (b : Built). b.entries) c.self.view_is in
    let few = c.is_full.ensures c.if-is_full.false in
    let is = are_more _ e c.self.invariant.2.sound c.requires.sound (omega (arith, few, ap length entries)) in
    let rises = subst (λ (es : List Entry). Follow is_any (keys_of (es ++ e ∷ []))) (sym entries) c.requires.rising in
    let added : c.add.new.self ≡ t.«open» ++ e ∷ [] = c.in-Ok-true.ensures.added ∙ ap (λ (b : Bool). cond b (t.«open» ++ e ∷ []) t.«open») c.in-Ok-true.field-0-test in
    let room : takes t.«open» e ≡ true = sym c.in-Ok-true.ensures.room ∙ c.in-Ok-true.field-0-test in
    let built = built_in_place _ t.blocks.items (rows_seen t.rows.items) t.«open» t.keys c.self.invariant.2 e is rises room c.add.new.self c.push_key.new.keys added c.in_ok-push_key.ensures.added in
    (c.self.invariant.0, c.self.invariant.1, built.0, c.self.invariant.3, c.self.invariant.4)

pub returns-in-Ok-true-clause-added : goal.returns-in-Ok-true-clause-added
returns-in-Ok-true-clause-added c =
    let t = c.self.inside in
    let e = entry_of c.args.key.now (option_map (λ v. v.now) c.args.value) in
    let entries : entries_with (closed_in (rows_seen t.rows.items) t.blocks.items) t.«open» ≡ c.args.self.now.entries = ap (λ (b : Built). b.entries) c.self.view_is in
    let added : c.add.new.self ≡ t.«open» ++ e ∷ [] = c.in-Ok-true.ensures.added ∙ ap (λ (b : Bool). cond b (t.«open» ++ e ∷ []) t.«open») c.in-Ok-true.field-0-test in
    let all = ap (λ (o : List Entry). entries_with (closed_in (rows_seen t.rows.items) t.blocks.items) o) added
    ∙ sym (append_assoc (joined (closed_in (rows_seen t.rows.items) t.blocks.items)) t.«open» (e ∷ []))
    ∙ ap (λ (es : List Entry). es ++ e ∷ []) entries in
    (λ i. record { settings = (c.self.view_is i).settings; entries = all i; ranges = (c.self.view_is i).ranges })

pub invariant_of-self-in-Ok : goal.invariant_of-self-in-Ok
invariant_of-self-in-Ok c =
    let t = c.self.inside in
    let e = entry_of c.args.key.now (option_map (λ v. v.now) c.args.value) in
    let entries : entries_with (closed_in (rows_seen t.rows.items) t.blocks.items) t.«open» ≡ c.args.self.now.entries = ap (λ (b : Built). b.entries) c.self.view_is in
    let few = c.is_full.ensures c.if-is_full.false in
    let is = are_more _ e c.self.invariant.2.sound c.requires.sound (omega (arith, few, ap length entries)) in
    let rises = subst (λ (es : List Entry). Follow is_any (keys_of (es ++ e ∷ []))) (sym entries) c.requires.rising in
    let unadded : c.add.new.self ≡ t.«open» = c.in-Ok-false.ensures.added ∙ ap (λ (b : Bool). cond b (t.«open» ++ e ∷ []) t.«open») c.in-Ok-false.field-0-test in
    let full : takes t.«open» e ≡ false = sym c.in-Ok-false.ensures.room ∙ c.in-Ok-false.field-0-test in
    let built = built_behind _ t.blocks.items (rows_seen t.rows.items) t.«open» t.keys c.self.invariant.2 e is rises full
    c.close_block.new.blocks.items (rows_seen c.close_block.new.rows.items) c.swap.new.x c.push_key.new.keys
    (c.in-Ok.ensures.written ∙ ap (λ (o : List Entry). t.blocks.items ++ block_bytes o) unadded)
    (c.in-Ok.ensures.kept ∙ ap (λ (o : List Entry). rows_seen t.rows.items ++ unsummed_row_of o ∷ []) unadded) (c.swap.ensures.x_after ∙ c.in_default.ensures.begun) c.in_ok-push_key.ensures.added in
    (c.self.invariant.0, c.in-Ok.ensures.stand, built.0, c.swap.ensures.y_after ∙ c.in-Ok.ensures.emptied, c.self.invariant.4)

pub returns-in-Ok-clause-added : goal.returns-in-Ok-clause-added
returns-in-Ok-clause-added c =
    let t = c.self.inside in
    let e = entry_of c.args.key.now (option_map (λ v. v.now) c.args.value) in
    let entries : entries_with (closed_in (rows_seen t.rows.items) t.blocks.items) t.«open» ≡ c.args.self.now.entries = ap (λ (b : Built). b.entries) c.self.view_is in
    let few = c.is_full.ensures c.if-is_full.false in
    let is = are_more _ e c.self.invariant.2.sound c.requires.sound (omega (arith, few, ap length entries)) in
    let rises = subst (λ (es : List Entry). Follow is_any (keys_of (es ++ e ∷ []))) (sym entries) c.requires.rising in
    let unadded : c.add.new.self ≡ t.«open» = c.in-Ok-false.ensures.added ∙ ap (λ (b : Bool). cond b (t.«open» ++ e ∷ []) t.«open») c.in-Ok-false.field-0-test in
    let full : takes t.«open» e ≡ false = sym c.in-Ok-false.ensures.room ∙ c.in-Ok-false.field-0-test in
    let begun : c.begin.new.spare ≡ e ∷ [] = search rules in
    let built = built_behind _ t.blocks.items (rows_seen t.rows.items) t.«open» t.keys c.self.invariant.2 e is rises full
    c.close_block.new.blocks.items (rows_seen c.close_block.new.rows.items) c.swap.new.x c.push_key.new.keys
    (c.in-Ok.ensures.written ∙ ap (λ (o : List Entry). t.blocks.items ++ block_bytes o) unadded)
    (c.in-Ok.ensures.kept ∙ ap (λ (o : List Entry). rows_seen t.rows.items ++ unsummed_row_of o ∷ []) unadded) (c.swap.ensures.x_after ∙ begun) c.in_ok-push_key.ensures.added in
    let all = built.1 ∙ ap (λ (es : List Entry). es ++ e ∷ []) entries in
    (λ i. record { settings = (c.self.view_is i).settings; entries = all i; ranges = (c.self.view_is i).ranges })
