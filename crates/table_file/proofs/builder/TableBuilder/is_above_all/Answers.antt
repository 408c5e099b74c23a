use Rattle.std.proofs.Common.{◌≡◌, ◌<◌, ◌∙◌, ◌++◌, ◌∷◌, List, [], length, true, sym, ap, subst, arith}
use Rattle.std.specs.Ordering.{is_lt}
use Rattle.std.proofs.lemmas.Bool.{eqb-true}
use Rattle.std.proofs.lemmas.List.{length-map}
use Rattle.map_model.specs.SortedMap.{Bytes, byte_order}
use Rattle.entry_model.specs.Entries.{Entry, entry_of, keys_of}
use Rattle.key_base.specs.ByteOrder.{is_before}
use Rattle.block_model.specs.Order.{Follow, is_any}
use Rattle.block_model.specs.Pages.{last_key}
use Rattle.block_model.proofs.LastBlocks.{positive}
use Rattle.table_file.specs.BlockRows.{rows_seen}
use Rattle.table_file.specs.Building.{Built, closed_in, entries_with}
use Rattle.table_file.proofs.Builders.{follow_alone, follow_last, follow_push}
use Rattle.table_file.proofs.builder.TableBuilder.is_above_all.Goals as goal

pub returns-then-is_empty-clause-above : goal.returns-then-is_empty-clause-above
returns-then-is_empty-clause-above c value said =
    let t = c.self.inside in
    let e = entry_of c.args.key.now value in
    let all = entries_with (closed_in (rows_seen t.rows.items) t.blocks.items) t.«open» in
    let empty : length t.keys ≡ 0 = eqb-true (length t.keys) 0 (sym c.is_empty.ensures ∙ c.if-is_empty.true) in
    let none : length all ≡ 0 = omega (arith, empty, ap length c.self.invariant.2.keys_are, length-map all (λ (x : Entry). x.key)) in
    subst (λ (es : List Entry). Follow is_any (keys_of (es ++ e ∷ []))) (ap (λ (b : Built). b.entries) c.self.view_is) (follow_alone all e none)

pub last_of-requires : goal.last_of-requires
last_of-requires c = positive (length c.self.inside.keys) (sym c.if-is_empty.false ∙ c.is_empty.ensures)

pub returns-clause-above : goal.returns-clause-above
returns-clause-above c value said =
    let t = c.self.inside in
    let key = c.args.key.now in
    let e = entry_of key value in
    let all = entries_with (closed_in (rows_seen t.rows.items) t.blocks.items) t.«open» in
    let filled : 0 < length t.keys = positive (length t.keys) (sym c.if-is_empty.false ∙ c.is_empty.ensures) in
    let some : 0 < length all = omega (arith, filled, ap length c.self.invariant.2.keys_are, length-map all (λ (x : Entry). x.key)) in
    let last : c.last_of.result.now ≡ last_key all = c.last_of.ensures [] all some c.self.invariant.2.keys_are in
    let above : is_before (last_key all) key ≡ true =
    ap (λ (k : Bytes). is_lt (byte_order k key)) (sym last) ∙ sym (ap is_lt c.compare.ensures) ∙ sym c.is_lt.ensures ∙ said in
    subst (λ (es : List Entry). Follow is_any (keys_of (es ++ e ∷ []))) (ap (λ (b : Built). b.entries) c.self.view_is)
    (follow_push is_any all e (omega (arith, some)) c.self.invariant.2.rising above)

pub returns-clause-all : goal.returns-clause-all
returns-clause-all c value rises =
    let t = c.self.inside in
    let key = c.args.key.now in
    let e = entry_of key value in
    let all = entries_with (closed_in (rows_seen t.rows.items) t.blocks.items) t.«open» in
    let filled : 0 < length t.keys = positive (length t.keys) (sym c.if-is_empty.false ∙ c.is_empty.ensures) in
    let some : 0 < length all = omega (arith, filled, ap length c.self.invariant.2.keys_are, length-map all (λ (x : Entry). x.key)) in
    let last : c.last_of.result.now ≡ last_key all = c.last_of.ensures [] all some c.self.invariant.2.keys_are in
    let above = follow_last is_any all e (omega (arith, some)) (subst (λ (es : List Entry). Follow is_any (keys_of (es ++ e ∷ []))) (sym (ap (λ (b : Built). b.entries) c.self.view_is)) rises) in
    c.is_lt.ensures ∙ ap is_lt c.compare.ensures ∙ ap (λ (k : Bytes). is_lt (byte_order k key)) last ∙ above
