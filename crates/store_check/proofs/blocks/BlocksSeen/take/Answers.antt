use Rattle.std.proofs.Common.{◌≡◌, ◌*◌, ◌++◌, ℕ, List, length, refl, sym, ap, ◌∙◌, arith}
use Rattle.std.specs.Prelude.{Some, None}
use Rattle.byte_fields.specs.declared.parts.Part.TheVariants as part
use Rattle.entry_model.specs.Entries.{Entry, keys_of}
use Rattle.block_model.specs.BlockReading.{block_in}
use Rattle.block_model.specs.Formats.{format_in}
use Rattle.block_model.specs.Pages.{last_key}
use Rattle.block_model.specs.Places.{byte_of_page}
use Rattle.image_model.specs.Findings.{Behind, WrongKeys, finding, has_its_keys}
use Rattle.table_file.specs.Search.{row_at}
use Rattle.store_check.specs.Befores.{before_of}
use Rattle.store_check.specs.Places.{page_of}
use Rattle.store_check.proofs.Judged.{judged_sound, none_wrong, one_wrong}
use Rattle.store_check.proofs.Risen.{last_read, many_added, right_read, risen_after, sound_block}
use Rattle.store_check.proofs.blocks.BlocksSeen.take.Goals as goal

pub has_its_keys-right-requires : goal.has_its_keys-right-requires
has_its_keys-right-requires c =
    let bytes = c.args.bytes.now in
    let front = c.args.self.now.keys in
    let some = (sound_block bytes (λ i. (c.type_inv.bytes i).fits) c.requires.whole).some in
    let keys : c.add_keys.new.keys ≡ front ++ keys_of (block_in bytes) = c.in_ok-add_keys.ensures ∙ ap (λ (es : List Entry). front ++ keys_of es) c.requires.all in
    omega (arith, c.len-first.ensures, ap length keys, many_added front (block_in bytes), some)

pub overflow_sub-len : goal.overflow_sub-len
overflow_sub-len c =
    let bytes = c.args.bytes.now in
    let front = c.args.self.now.keys in
    let some = (sound_block bytes (λ i. (c.type_inv.bytes i).fits) c.requires.whole).some in
    let keys : c.add_keys.new.keys ≡ front ++ keys_of (block_in bytes) = c.in_ok-add_keys.ensures ∙ ap (λ (es : List Entry). front ++ keys_of es) c.requires.all in
    omega (arith, c.len.ensures, ap length keys, many_added front (block_in bytes), some)

pub get-requires : goal.get-requires
get-requires c =
    let bytes = c.args.bytes.now in
    let front = c.args.self.now.keys in
    let some = (sound_block bytes (λ i. (c.type_inv.bytes i).fits) c.requires.whole).some in
    let keys : c.add_keys.new.keys ≡ front ++ keys_of (block_in bytes) = c.in_ok-add_keys.ensures ∙ ap (λ (es : List Entry). front ++ keys_of es) c.requires.all in
    omega (arith, c.len.ensures, ap length keys, many_added front (block_in bytes), some)

pub returns-then-right-clause-judged : goal.returns-then-right-clause-judged
returns-then-right-clause-judged c image part_is none =
    let bytes = c.args.bytes.now in
    let x = c.args.index.now in
    let n = c.args.n in
    let old = c.args.self.now in
    let block = block_in bytes in
    let some = (sound_block bytes (λ i. (c.type_inv.bytes i).fits) c.requires.whole).some in
    let keys : c.add_keys.new.keys ≡ old.keys ++ keys_of block = c.in_ok-add_keys.ensures ∙ ap (λ (es : List Entry). old.keys ++ keys_of es) c.requires.all in
    let last : c.in_ok-last.last.items ≡ last_key block = c.in_ok-last.ensures.items ∙ c.get.ensures ∙ last_read old.keys c.add_keys.new.keys block c.len.result keys c.len.ensures some in
    let right = right_read (before_of old.before) (row_at x.index.rows n) old.keys c.add_keys.new.keys block c.last.result.now c.len-first.result c.has_its_keys-right.result keys some c.last.ensures c.len-first.ensures c.has_its_keys-right.ensures in
    judged_sound x n image bytes part_is old _ None none
    (none_wrong c.has_its_keys-right.result (has_its_keys (before_of old.before) (row_at x.index.rows n) block) (finding part.Block (byte_of_page (page_of x n)) WrongKeys) right c.if-right.true)
    (ap Behind last) refl keys

pub returns-then-right-clause-risen : goal.returns-then-right-clause-risen
returns-then-right-clause-risen c risen found =
    let bytes = c.args.bytes.now in
    let x = c.args.index.now in
    let n = c.args.n in
    let old = c.args.self.now in
    let block = block_in bytes in
    let is = sound_block bytes (λ i. (c.type_inv.bytes i).fits) c.requires.whole in
    let keys : c.add_keys.new.keys ≡ old.keys ++ keys_of block = c.in_ok-add_keys.ensures ∙ ap (λ (es : List Entry). old.keys ++ keys_of es) c.requires.all in
    let last : c.in_ok-last.last.items ≡ last_key block = c.in_ok-last.ensures.items ∙ c.get.ensures ∙ last_read old.keys c.add_keys.new.keys block c.len.result keys c.len.ensures is.some in
    let right = right_read (before_of old.before) (row_at x.index.rows n) old.keys c.add_keys.new.keys block c.last.result.now c.len-first.result c.has_its_keys-right.result keys is.some c.last.ensures c.len-first.ensures c.has_its_keys-right.ensures in
    risen_after (format_in bytes) (before_of old.before) (row_at x.index.rows n) old.keys c.add_keys.new.keys block c.in_ok-last.last.items risen is (sym right ∙ c.if-right.true) keys last

pub returns-clause-judged : goal.returns-clause-judged
returns-clause-judged c image part_is none =
    let bytes = c.args.bytes.now in
    let x = c.args.index.now in
    let n = c.args.n in
    let old = c.args.self.now in
    let block = block_in bytes in
    let some = (sound_block bytes (λ i. (c.type_inv.bytes i).fits) c.requires.whole).some in
    let keys : c.add_keys.new.keys ≡ old.keys ++ keys_of block = c.in_ok-add_keys.ensures ∙ ap (λ (es : List Entry). old.keys ++ keys_of es) c.requires.all in
    let last : c.in_ok-last.last.items ≡ last_key block = c.in_ok-last.ensures.items ∙ c.get.ensures ∙ last_read old.keys c.add_keys.new.keys block c.len.result keys c.len.ensures some in
    let right = right_read (before_of old.before) (row_at x.index.rows n) old.keys c.add_keys.new.keys block c.last.result.now c.len-first.result c.has_its_keys-right.result keys some c.last.ensures c.len-first.ensures c.has_its_keys-right.ensures in
    let wrong = finding part.Block (byte_of_page (page_of x n)) WrongKeys in
    judged_sound x n image bytes part_is old _ (Some (finding part.Block (4096 * c.first_page.result) WrongKeys)) none
    (one_wrong c.has_its_keys-right.result (has_its_keys (before_of old.before) (row_at x.index.rows n) block) wrong (finding part.Block (4096 * c.first_page.result) WrongKeys) right c.if-right.false
    (ap (λ (p : ℕ). finding part.Block (4096 * p) WrongKeys) c.first_page.ensures.page))
    (ap Behind last) refl keys
