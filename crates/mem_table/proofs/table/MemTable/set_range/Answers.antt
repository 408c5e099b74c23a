use Rattle.std.proofs.Common.{◌≡◌, ◌∙◌, ℕ, List, length, ap, ap₂, arith}
use Rattle.arrayvec.specs.ArrayVec.{ArrayVec}
use Rattle.entry_model.specs.Entries.{Entry}
use Rattle.entry_model.specs.Newest.{with_entry}
use Rattle.range_model.specs.Ranges.{DeletedRange, range_of, with_range}
use Rattle.range_model.specs.Sources.{entries_outside}
use Rattle.mem_table.specs.Chunks.{flat, in_order, places_outside}
use Rattle.mem_table.specs.Table.{MemoryTable, source_in}
use Rattle.mem_table.proofs.Cleared.{cleared_shows, cleared_orders, cleared_source, one_more}
use Rattle.mem_table.proofs.table.MemTable.set_range.Goals as goal

-- what is left, of the range whose bounds were read
places : (entries seen : List Entry) (chunks others : List (ArrayVec ℕ)) (range read : DeletedRange) → seen ≡ entries → read ≡ range → flat others ≡ places_outside seen read (flat chunks) → flat others ≡ places_outside entries range (flat chunks)
places entries seen chunks others range read same is left = left ∙ ap₂ (λ (es : List Entry) (r : DeletedRange). places_outside es r (flat chunks)) same is

pub invariant_of-self : goal.invariant_of-self
invariant_of-self c =
    let entries = c.self.inside.entries.items in
    let chunks = c.self.inside.chunks.items in
    let others = c.take_out.new.chunks.items in
    let same = c.into_parts-tombstone.ensures.range in
    let read : range_of c.lo.result.now c.hi.result.now ≡ c.args.range = ap₂ range_of (c.lo.ensures.bound ∙ ap (λ (r : DeletedRange). r.lo) same) (c.hi.ensures ∙ ap (λ (r : DeletedRange). r.hi) same) in
    let left = places entries c.deref.result.now chunks others c.args.range (range_of c.lo.result.now c.hi.result.now) c.deref.ensures.value read c.take_out.ensures.places in
    (cleared_orders entries c.args.range chunks others c.self.invariant.0 left c.take_out.ensures.some, c.self.invariant.1, omega (arith, c.self.invariant.2, c.take_out.ensures.len, c.take_out.ensures.capacity))

pub returns-clause-set : goal.returns-clause-set
returns-clause-set c =
    let entries = c.self.inside.entries.items in
    let chunks = c.self.inside.chunks.items in
    let others = c.take_out.new.chunks.items in
    let range = c.args.range in
    let same = c.into_parts-tombstone.ensures.range in
    let read : range_of c.lo.result.now c.hi.result.now ≡ range = ap₂ range_of (c.lo.ensures.bound ∙ ap (λ (r : DeletedRange). r.lo) same) (c.hi.ensures ∙ ap (λ (r : DeletedRange). r.hi) same) in
    let left = places entries c.deref.result.now chunks others range (range_of c.lo.result.now c.hi.result.now) c.deref.ensures.value read c.take_out.ensures.places in
    cleared_source (source_in c.args.self.now) (source_in c.set.new.self) range c.into_parts-tombstone.ensures.rises
    (c.set.ensures.set ∙ ap₂ with_entry (cleared_shows entries range chunks others c.self.invariant.0 left ∙ ap (λ (t : MemoryTable). entries_outside t.entries range) c.self.view_is) c.into_parts-tombstone.ensures.tombstone)
    (c.set.ensures.ranges ∙ c.add.ensures.added ∙ ap₂ with_range (ap (λ (t : MemoryTable). t.ranges) c.self.view_is) same)

pub returns-clause-room : goal.returns-clause-room
returns-clause-room c =
    let mid = in_order c.self.inside.entries.items (flat c.take_out.new.chunks.items) in
    omega (arith, c.set.ensures.room, ap (λ (t : MemoryTable). t.spare) c.self.view_is, c.take_out.ensures.len, c.take_out.ensures.capacity, one_more mid c.into_parts-tombstone.result.0, ap (λ (es : List Entry). length es) c.set.ensures.set)
