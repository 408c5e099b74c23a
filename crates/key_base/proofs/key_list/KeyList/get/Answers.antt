use Rattle.std.proofs.Common.{◌<◌, ℕ, List, [], ◌∙◌, ◌∷◌, length, get_or, slice_range, sym, ap, ap₂, arith}
use Rattle.key_base.proofs.KeyLists.{end_within, how_many, key_at, next_end, read_end}
use Rattle.key_base.proofs.key_list.KeyList.get.Goals as goal

pub end_of-from-requires : goal.end_of-from-requires
end_of-from-requires c =
    let t = c.self.inside in
    let some : c.args.i < length t.ends.items = omega (arith, c.requires, how_many 0 t.ends.items t.bytes.items, ap length c.self.view_is) in
    omega (arith, some, ap length c.as_slice.ensures.value)

pub index-requires : goal.index-requires
index-requires c =
    let t = c.self.inside in
    let some : c.args.i < length t.ends.items = omega (arith, c.requires, how_many 0 t.ends.items t.bytes.items, ap length c.self.view_is) in
    omega (arith, some, t.ends.ok.0)

pub slice_bounds-result-count : goal.slice_bounds-result-count
slice_bounds-result-count c =
    let t = c.self.inside in
    let some : c.args.i < length t.ends.items = omega (arith, c.requires, how_many 0 t.ends.items t.bytes.items, ap length c.self.view_is) in
    let from_is = c.end_of-from.ensures ∙ ap (λ (l : List ℕ). get_or (0 ∷ l) c.args.i 0) c.as_slice.ensures.value in
    let end_is = read_end t.ends.items c.args.i c.index.result.now some c.index.ensures in
    let rise = next_end 0 t.ends.items (length t.bytes.items) c.args.i c.self.invariant some in
    let within = end_within 0 t.ends.items (length t.bytes.items) c.args.i c.self.invariant some in
    omega (arith, from_is, end_is, rise, within, ap length c.as_slice-bytes.ensures.value)

pub slice_bounds-result-start : goal.slice_bounds-result-start
slice_bounds-result-start c =
    let t = c.self.inside in
    let some : c.args.i < length t.ends.items = omega (arith, c.requires, how_many 0 t.ends.items t.bytes.items, ap length c.self.view_is) in
    let from_is = c.end_of-from.ensures ∙ ap (λ (l : List ℕ). get_or (0 ∷ l) c.args.i 0) c.as_slice.ensures.value in
    let end_is = read_end t.ends.items c.args.i c.index.result.now some c.index.ensures in
    let rise = next_end 0 t.ends.items (length t.bytes.items) c.args.i c.self.invariant some in
    let within = end_within 0 t.ends.items (length t.bytes.items) c.args.i c.self.invariant some in
    omega (arith, from_is, end_is, rise, within, ap length c.as_slice-bytes.ensures.value)

pub slice_bounds-result-end : goal.slice_bounds-result-end
slice_bounds-result-end c =
    let t = c.self.inside in
    let some : c.args.i < length t.ends.items = omega (arith, c.requires, how_many 0 t.ends.items t.bytes.items, ap length c.self.view_is) in
    let from_is = c.end_of-from.ensures ∙ ap (λ (l : List ℕ). get_or (0 ∷ l) c.args.i 0) c.as_slice.ensures.value in
    let end_is = read_end t.ends.items c.args.i c.index.result.now some c.index.ensures in
    let rise = next_end 0 t.ends.items (length t.bytes.items) c.args.i c.self.invariant some in
    let within = end_within 0 t.ends.items (length t.bytes.items) c.args.i c.self.invariant some in
    omega (arith, from_is, end_is, rise, within, ap length c.as_slice-bytes.ensures.value)

pub returns : goal.returns
returns c =
    let t = c.self.inside in
    let some : c.args.i < length t.ends.items = omega (arith, c.requires, how_many 0 t.ends.items t.bytes.items, ap length c.self.view_is) in
    let from_is = c.end_of-from.ensures ∙ ap (λ (l : List ℕ). get_or (0 ∷ l) c.args.i 0) c.as_slice.ensures.value in
    let end_is = read_end t.ends.items c.args.i c.index.result.now some c.index.ensures in
    ap (λ (l : List ℕ). slice_range l c.end_of-from.result c.index.result.now) c.as_slice-bytes.ensures.value
    ∙ ap₂ (slice_range t.bytes.items) from_is end_is
    ∙ sym (key_at 0 t.ends.items t.bytes.items c.args.i some)
    ∙ ap (λ (keys : List (List ℕ)). get_or keys c.args.i []) c.self.view_is
