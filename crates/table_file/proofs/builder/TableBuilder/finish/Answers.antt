use Rattle.std.proofs.Common.{◌≡◌, ◌<◌, ◌*◌, ◌++◌, ◌∷◌, [], ◌∙◌, List, length, take, drop, refl, sym, ap, ap₂, subst, arith, rules}
use Rattle.std.proofs.lemmas.List.{length-map}
use Rattle.entry_model.specs.Entries.{Entry}
use Rattle.block_model.specs.Laws.{joined}
use Rattle.block_model.specs.Block.{block_bytes}
use Rattle.block_model.specs.Index.{AreIndexRanges, Index, IndexRow, row_pages}
use Rattle.table_file.specs.BlockRows.{StandFrom, rows_seen, summed_all, unsummed_row_of}
use Rattle.table_file.specs.Building.{Built, closed_in, entries_with}
use Rattle.table_file.proofs.Builders.{bytes_long, closed_long, open_is}
use Rattle.table_file.proofs.BlockSums.{filled}
use Rattle.table_file.proofs.PartsMade.{all_made, index_made, some_last}
use Rattle.table_file.proofs.builder.TableBuilder.finish.Goals as goal

pub last_of-requires : goal.last_of-requires
last_of-requires g c =
    let t = c.self.inside in
    let all = entries_with (closed_in (rows_seen t.rows.items) t.blocks.items) t.«open» in
    let some : 0 < length all = omega (arith, c.requires.some, ap (λ (b : Built). length b.entries) c.self.view_is) in
    omega (arith, some, ap length c.self.invariant.2.keys_are, length-map all (λ (x : Entry). x.key))

pub close_block-requires-clause-sound : goal.close_block-requires-clause-sound
close_block-requires-clause-sound g c =
    let t = c.self.inside in
    let some : 0 < length (entries_with (closed_in (rows_seen t.rows.items) t.blocks.items) t.«open») = omega (arith, c.requires.some, ap (λ (b : Built). length b.entries) c.self.view_is) in
    open_is _ t.blocks.items (rows_seen t.rows.items) t.«open» t.keys c.self.invariant.2 (some_last _ t.blocks.items (rows_seen t.rows.items) t.«open» t.keys c.self.invariant.2 some)

pub close_block-requires-clause-last : goal.close_block-requires-clause-last
close_block-requires-clause-last g c =
    let t = c.self.inside in
    let some : 0 < length (entries_with (closed_in (rows_seen t.rows.items) t.blocks.items) t.«open») = omega (arith, c.requires.some, ap (λ (b : Built). length b.entries) c.self.view_is) in
    c.last_of.ensures (joined (closed_in (rows_seen t.rows.items) t.blocks.items)) t.«open» (some_last _ t.blocks.items (rows_seen t.rows.items) t.«open» t.keys c.self.invariant.2 some) c.self.invariant.2.keys_are

pub close_block-requires-clause-whole : goal.close_block-requires-clause-whole
close_block-requires-clause-whole g c =
    let t = c.self.inside in
    bytes_long _ t.blocks.items (rows_seen t.rows.items) t.«open» t.keys c.self.invariant.2

pub sum_blocks-requires : goal.sum_blocks-requires
sum_blocks-requires g c =
    let t = c.self.inside in
    let some : 0 < length (entries_with (closed_in (rows_seen t.rows.items) t.blocks.items) t.«open») = omega (arith, c.requires.some, ap (λ (b : Built). length b.entries) c.self.view_is) in
    let last = some_last _ t.blocks.items (rows_seen t.rows.items) t.«open» t.keys c.self.invariant.2 some in
    let rows : rows_seen c.deref_mut.result.now ≡ rows_seen t.rows.items ++ unsummed_row_of t.«open» ∷ [] = ap rows_seen c.deref_mut.ensures.value ∙ c.in_ok-close_block.ensures.kept in
    let bytes : c.deref.result.now ≡ t.blocks.items ++ block_bytes t.«open» = c.deref.ensures.value ∙ c.in_ok-close_block.ensures.written in
    record {
      rows = record {
        stand = subst (StandFrom 0) (sym c.deref_mut.ensures.value) c.in_ok-close_block.ensures.stand;
        whole = ap length bytes ∙ closed_long _ t.blocks.items (rows_seen t.rows.items) t.«open» t.keys c.self.invariant.2 last
            ∙ ap (λ (rs : List IndexRow). 4096 * row_pages rs) (sym rows);
      };
    }

pub new-requires-clause-sound : goal.new-requires-clause-sound
new-requires-clause-sound g c =
    let t = c.self.inside in
    let some : 0 < length (entries_with (closed_in (rows_seen t.rows.items) t.blocks.items) t.«open») = omega (arith, c.requires.some, ap (λ (b : Built). length b.entries) c.self.view_is) in
    let old = c.close_block.new.rows in
    let items = take old.len (c.sum_blocks.new.rows ++ drop (length c.sum_blocks.new.rows) old.items) in
    let all : items ≡ c.sum_blocks.new.rows = filled old.len c.sum_blocks.new.rows old.items (c.sum_blocks.ensures.length ∙ ap length c.deref_mut.ensures.value) (omega (arith, c.deref_mut.ensures.len)) in
    let sums : rows_seen items ≡ summed_all (rows_seen t.rows.items ++ unsummed_row_of t.«open» ∷ []) c.close_block.new.blocks.items =
    ap rows_seen all ∙ c.sum_blocks.ensures.sums ∙ ap₂ summed_all (ap rows_seen c.deref_mut.ensures.value ∙ c.in_ok-close_block.ensures.kept) c.deref.ensures.value in
    index_made _ t.blocks.items (rows_seen t.rows.items) t.«open» t.keys c.self.invariant.2 some (rows_seen items) c.close_block.new.blocks.items c.in_ok-close_block.ensures.written sums
    c.in_ok-least.least.items t.ranges.ranges t.keys refl (c.in_ok-least.ensures.items ∙ c.get.ensures) c.self.invariant.4

pub new-requires-2-clause-table : goal.new-requires-2-clause-table
new-requires-2-clause-table g c =
    let t = c.self.inside in
    let some : 0 < length (entries_with (closed_in (rows_seen t.rows.items) t.blocks.items) t.«open») = omega (arith, c.requires.some, ap (λ (b : Built). length b.entries) c.self.view_is) in
    let old = c.close_block.new.rows in
    let items = take old.len (c.sum_blocks.new.rows ++ drop (length c.sum_blocks.new.rows) old.items) in
    let all : items ≡ c.sum_blocks.new.rows = filled old.len c.sum_blocks.new.rows old.items (c.sum_blocks.ensures.length ∙ ap length c.deref_mut.ensures.value) (omega (arith, c.deref_mut.ensures.len)) in
    let sums : rows_seen items ≡ summed_all (rows_seen t.rows.items ++ unsummed_row_of t.«open» ∷ []) c.close_block.new.blocks.items =
    ap rows_seen all ∙ c.sum_blocks.ensures.sums ∙ ap₂ summed_all (ap rows_seen c.deref_mut.ensures.value ∙ c.in_ok-close_block.ensures.kept) c.deref.ensures.value in
    (all_made _ t.blocks.items (rows_seen t.rows.items) t.«open» t.keys c.self.invariant.2 some (rows_seen items) c.close_block.new.blocks.items c.in_ok-close_block.ensures.written sums
    c.new.result c.in_ok-least.least.items t.ranges.ranges t.keys c.new.ensures refl (c.in_ok-least.ensures.items ∙ c.get.ensures)).1.table

pub new-requires-2-clause-blocks : goal.new-requires-2-clause-blocks
new-requires-2-clause-blocks g c =
    let t = c.self.inside in
    let some : 0 < length (entries_with (closed_in (rows_seen t.rows.items) t.blocks.items) t.«open») = omega (arith, c.requires.some, ap (λ (b : Built). length b.entries) c.self.view_is) in
    let old = c.close_block.new.rows in
    let items = take old.len (c.sum_blocks.new.rows ++ drop (length c.sum_blocks.new.rows) old.items) in
    let all : items ≡ c.sum_blocks.new.rows = filled old.len c.sum_blocks.new.rows old.items (c.sum_blocks.ensures.length ∙ ap length c.deref_mut.ensures.value) (omega (arith, c.deref_mut.ensures.len)) in
    let sums : rows_seen items ≡ summed_all (rows_seen t.rows.items ++ unsummed_row_of t.«open» ∷ []) c.close_block.new.blocks.items =
    ap rows_seen all ∙ c.sum_blocks.ensures.sums ∙ ap₂ summed_all (ap rows_seen c.deref_mut.ensures.value ∙ c.in_ok-close_block.ensures.kept) c.deref.ensures.value in
    (all_made _ t.blocks.items (rows_seen t.rows.items) t.«open» t.keys c.self.invariant.2 some (rows_seen items) c.close_block.new.blocks.items c.in_ok-close_block.ensures.written sums
    c.new.result c.in_ok-least.least.items t.ranges.ranges t.keys c.new.ensures refl (c.in_ok-least.ensures.items ∙ c.get.ensures)).1.bytes_are

pub new-requires-2-clause-index : goal.new-requires-2-clause-index
new-requires-2-clause-index g c =
    let t = c.self.inside in
    let some : 0 < length (entries_with (closed_in (rows_seen t.rows.items) t.blocks.items) t.«open») = omega (arith, c.requires.some, ap (λ (b : Built). length b.entries) c.self.view_is) in
    let old = c.close_block.new.rows in
    let items = take old.len (c.sum_blocks.new.rows ++ drop (length c.sum_blocks.new.rows) old.items) in
    let all : items ≡ c.sum_blocks.new.rows = filled old.len c.sum_blocks.new.rows old.items (c.sum_blocks.ensures.length ∙ ap length c.deref_mut.ensures.value) (omega (arith, c.deref_mut.ensures.len)) in
    let sums : rows_seen items ≡ summed_all (rows_seen t.rows.items ++ unsummed_row_of t.«open» ∷ []) c.close_block.new.blocks.items =
    ap rows_seen all ∙ c.sum_blocks.ensures.sums ∙ ap₂ summed_all (ap rows_seen c.deref_mut.ensures.value ∙ c.in_ok-close_block.ensures.kept) c.deref.ensures.value in
    (all_made _ t.blocks.items (rows_seen t.rows.items) t.«open» t.keys c.self.invariant.2 some (rows_seen items) c.close_block.new.blocks.items c.in_ok-close_block.ensures.written sums
    c.new.result c.in_ok-least.least.items t.ranges.ranges t.keys c.new.ensures refl (c.in_ok-least.ensures.items ∙ c.get.ensures)).1.index_is

pub new-requires-2-clause-ranges : goal.new-requires-2-clause-ranges
new-requires-2-clause-ranges g c = subst AreIndexRanges (sym (ap (λ (x : Index). x.ranges) c.new.ensures)) c.self.invariant.4

pub new-requires-2-clause-keys : goal.new-requires-2-clause-keys
new-requires-2-clause-keys g c =
    let t = c.self.inside in
    let some : 0 < length (entries_with (closed_in (rows_seen t.rows.items) t.blocks.items) t.«open») = omega (arith, c.requires.some, ap (λ (b : Built). length b.entries) c.self.view_is) in
    let old = c.close_block.new.rows in
    let items = take old.len (c.sum_blocks.new.rows ++ drop (length c.sum_blocks.new.rows) old.items) in
    let all : items ≡ c.sum_blocks.new.rows = filled old.len c.sum_blocks.new.rows old.items (c.sum_blocks.ensures.length ∙ ap length c.deref_mut.ensures.value) (omega (arith, c.deref_mut.ensures.len)) in
    let sums : rows_seen items ≡ summed_all (rows_seen t.rows.items ++ unsummed_row_of t.«open» ∷ []) c.close_block.new.blocks.items =
    ap rows_seen all ∙ c.sum_blocks.ensures.sums ∙ ap₂ summed_all (ap rows_seen c.deref_mut.ensures.value ∙ c.in_ok-close_block.ensures.kept) c.deref.ensures.value in
    (all_made _ t.blocks.items (rows_seen t.rows.items) t.«open» t.keys c.self.invariant.2 some (rows_seen items) c.close_block.new.blocks.items c.in_ok-close_block.ensures.written sums
    c.new.result c.in_ok-least.least.items t.ranges.ranges t.keys c.new.ensures refl (c.in_ok-least.ensures.items ∙ c.get.ensures)).1.keys_are

pub returns : goal.returns
returns g c =
    let t = c.self.inside in
    let some : 0 < length (entries_with (closed_in (rows_seen t.rows.items) t.blocks.items) t.«open») = omega (arith, c.requires.some, ap (λ (b : Built). length b.entries) c.self.view_is) in
    let old = c.close_block.new.rows in
    let items = take old.len (c.sum_blocks.new.rows ++ drop (length c.sum_blocks.new.rows) old.items) in
    let all : items ≡ c.sum_blocks.new.rows = filled old.len c.sum_blocks.new.rows old.items (c.sum_blocks.ensures.length ∙ ap length c.deref_mut.ensures.value) (omega (arith, c.deref_mut.ensures.len)) in
    let sums : rows_seen items ≡ summed_all (rows_seen t.rows.items ++ unsummed_row_of t.«open» ∷ []) c.close_block.new.blocks.items =
    ap rows_seen all ∙ c.sum_blocks.ensures.sums ∙ ap₂ summed_all (ap rows_seen c.deref_mut.ensures.value ∙ c.in_ok-close_block.ensures.kept) c.deref.ensures.value in
    let same = (all_made _ t.blocks.items (rows_seen t.rows.items) t.«open» t.keys c.self.invariant.2 some (rows_seen items) c.close_block.new.blocks.items c.in_ok-close_block.ensures.written sums
    c.new.result c.in_ok-least.least.items t.ranges.ranges t.keys c.new.ensures refl (c.in_ok-least.ensures.items ∙ c.get.ensures)).0 in
    let ranges : c.new.result.ranges ≡ t.ranges.ranges = ap (λ (x : Index). x.ranges) c.new.ensures in
    let made : ◌≡◌ {A = Built} (record { settings = t.settings; entries = joined (closed_in c.new.result.rows c.close_block.new.blocks.items); ranges = c.new.result.ranges }) c.args.self =
    (λ i. record { settings = t.settings; entries = same i; ranges = ranges i }) ∙ c.self.view_is in
    search rules
