use Rattle.std.proofs.Common.{rules, ◌≡◌, ◌<◌, ◌≤◌, ◌+◌, ◌-◌, ◌*◌, ℕ, List, [], length, take, drop, refl, arith}
use Rattle.byteorder.specs.Endian.{little_number}
use Rattle.map_parts.proofs.Values.{is_cut}
use Rattle.map_parts.proofs.value.value_in.Goals as goal

pub overflow_add-from : goal.overflow_add-from
overflow_add-from c =
    let b = little_number 8 (drop (c.args.parts.offsets + 8 * c.args.slot + 8) c.args.bytes.now) in
    let cut = is_cut c.args.bytes.now c.args.parts c.args.slot c.get_u64.result b c.requires.has c.requires.parts c.requires.rising c.requires.within c.get_u64.ensures refl in
    let le : c.args.parts.values + c.get_u64.result ≤ length c.args.bytes.now = omega (arith, cut.rise, cut.within) in
    search rules

pub overflow_add-to : goal.overflow_add-to
overflow_add-to c =
    let cut = is_cut c.args.bytes.now c.args.parts c.args.slot c.get_u64.result c.get_u64-2.result c.requires.has c.requires.parts c.requires.rising c.requires.within c.get_u64.ensures c.get_u64-2.ensures in
    let le : c.args.parts.values + c.get_u64-2.result ≤ length c.args.bytes.now = cut.within in
    search rules

pub slice_bounds-result-count : goal.slice_bounds-result-count
slice_bounds-result-count c =
    let cut = is_cut c.args.bytes.now c.args.parts c.args.slot c.get_u64.result c.get_u64-2.result c.requires.has c.requires.parts c.requires.rising c.requires.within c.get_u64.ensures c.get_u64-2.ensures in
    omega (arith, cut.rise)

pub slice_bounds-result-start : goal.slice_bounds-result-start
slice_bounds-result-start c =
    let cut = is_cut c.args.bytes.now c.args.parts c.args.slot c.get_u64.result c.get_u64-2.result c.requires.has c.requires.parts c.requires.rising c.requires.within c.get_u64.ensures c.get_u64-2.ensures in
    let le : c.args.parts.values + c.get_u64.result ≤ c.args.parts.values + c.get_u64-2.result = omega (arith, cut.rise) in
    search rules

pub slice_bounds-result-end : goal.slice_bounds-result-end
slice_bounds-result-end c =
    let cut = is_cut c.args.bytes.now c.args.parts c.args.slot c.get_u64.result c.get_u64-2.result c.requires.has c.requires.parts c.requires.rising c.requires.within c.get_u64.ensures c.get_u64-2.ensures in
    let le : c.args.parts.values + c.get_u64-2.result ≤ length c.args.bytes.now = cut.within in
    search rules

pub returns : goal.returns
returns c =
    (is_cut c.args.bytes.now c.args.parts c.args.slot c.get_u64.result c.get_u64-2.result c.requires.has c.requires.parts c.requires.rising c.requires.within c.get_u64.ensures c.get_u64-2.ensures).value
