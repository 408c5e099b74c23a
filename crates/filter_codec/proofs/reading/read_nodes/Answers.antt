use Rattle.std.proofs.Common.{◌≡◌, ◌+◌, ◌*◌, ◌∙◌, ap, arith, length, sym}
use Rattle.std.specs.Prelude.{None}
use Rattle.std.proofs.Math.Nat.{mul_comm}
use Rattle.bit_words.proofs.Packing.{length-unpacked}
use Rattle.bit_model.specs.Packed.{unpacked}
use Rattle.filter_codec.proofs.Joining.{array_by, array_from, count_is, few_leaves, head_kept, keeps, louds_same, out_of_memory, place_fits, product_fits, read_by, rule_by, size_fits, trie_by}
use Rattle.filter_codec.proofs.Judged.{at_louds, at_nodes, none_broken}
use Rattle.filter_codec.proofs.Spelled.{are_long, bits_5, bits_6, whole}
use Rattle.filter_codec.specs.Judging.{image_end, kind_seen}
use Rattle.filter_codec.specs.declared.header.Header.{Header}
use Rattle.filter_image_model.specs.Header.{leaf_count_in, suffix_bits_in}
use Rattle.filter_image_model.specs.Reading.{louds_fault}
use Rattle.filter_codec.proofs.reading.read_nodes.Goals as goal

pub cut-sections-requires-clause-whole : goal.cut-sections-requires-clause-whole
cut-sections-requires-clause-whole g c =
    ap image_end c.requires.header ∙ whole c.args.bytes.now c.requires.kept.lengths

pub returns-in_err-clone-clause-refused : goal.returns-in_err-clone-clause-refused
returns-in_err-clone-clause-refused g c =
    out_of_memory (kind_seen c.args.kind) c.args.bytes.now c.from_residual.result c.from_residual.ensures.1

pub returns-in_err-louds-clause-refused : goal.returns-in_err-louds-clause-refused
returns-in_err-louds-clause-refused g c =
    out_of_memory (kind_seen c.args.kind) c.args.bytes.now c.from_residual-in_err-louds.result c.from_residual-in_err-louds.ensures.1

pub returns-in_err-clone-2-clause-refused : goal.returns-in_err-clone-2-clause-refused
returns-in_err-clone-2-clause-refused g c =
    out_of_memory (kind_seen c.args.kind) c.args.bytes.now c.from_residual-in_err-clone-2.result c.from_residual-in_err-clone-2.ensures.1

pub returns-in_err-packed-clause-refused : goal.returns-in_err-packed-clause-refused
returns-in_err-packed-clause-refused g c =
    out_of_memory (kind_seen c.args.kind) c.args.bytes.now c.from_residual-in_err-packed.result c.from_residual-in_err-packed.ensures.1

pub returns-in_err-clone-3-clause-refused : goal.returns-in_err-clone-3-clause-refused
returns-in_err-clone-3-clause-refused g c =
    out_of_memory (kind_seen c.args.kind) c.args.bytes.now c.from_residual-in_err-clone-3.result c.from_residual-in_err-clone-3.ensures.1

pub returns-in_err-keep_sums-clause-refused : goal.returns-in_err-keep_sums-clause-refused
returns-in_err-keep_sums-clause-refused g c =
    out_of_memory (kind_seen c.args.kind) c.args.bytes.now c.from_residual-in_err-keep_sums.result c.from_residual-in_err-keep_sums.ensures.1

pub returns-in_err-bits-clause-refused : goal.returns-in_err-bits-clause-refused
returns-in_err-bits-clause-refused g c =
    out_of_memory (kind_seen c.args.kind) c.args.bytes.now c.from_residual-in_err-bits.result c.from_residual-in_err-bits.ensures.1

pub from_bytes-requires : goal.from_bytes-requires
from_bytes-requires g c =
    let b = c.args.bytes.now in
    let h = c.args.header.now in
    let k = c.requires.kept in
    let is = c.requires.header in
    omega (arith, ap (λ (h : Header). h.labels) is, ap length c.cut-sections.ensures.louds, (are_long b (whole b k.lengths)).louds)

pub returns-in-Some-clause-refused : goal.returns-in-Some-clause-refused
returns-in-Some-clause-refused g c =
    let b = c.args.bytes.now in
    let h = c.args.header.now in
    let k = c.requires.kept in
    let is = c.requires.header in
    let louds = c.in_ok-louds.ensures ∙ bits_5 b _ h is c.cut-sections.ensures.louds in
    let same = louds_same b c.in_ok-louds.louds h.sparse louds (ap (λ (h : Header). h.sparse) is) in
    at_louds (kind_seen c.args.kind) b c.requires.kind k.bytes_are c.in-Some.fault k (c.in-Some.ensures ∙ same)

pub of-requires-clause-kept : goal.of-requires-clause-kept
of-requires-clause-kept g c =
    let b = c.args.bytes.now in
    let h = c.args.header.now in
    let k = c.requires.kept in
    let is = c.requires.header in
    let louds = c.in_ok-louds.ensures ∙ bits_5 b _ h is c.cut-sections.ensures.louds in
    let same = louds_same b c.in_ok-louds.louds h.sparse louds (ap (λ (h : Header). h.sparse) is) in
    keeps (kind_seen c.args.kind) b c.requires.kind k (sym (c.in_default.ensures ∙ same))

pub of-requires-clause-louds : goal.of-requires-clause-louds
of-requires-clause-louds g c =
    let b = c.args.bytes.now in
    let h = c.args.header.now in
    let k = c.requires.kept in
    let is = c.requires.header in
    let louds = c.in_ok-louds.ensures ∙ bits_5 b _ h is c.cut-sections.ensures.louds in
    let same = louds_same b c.in_ok-louds.louds h.sparse louds (ap (λ (h : Header). h.sparse) is) in
    louds

pub overflow_mul-header : goal.overflow_mul-header
overflow_mul-header g c =
    let b = c.args.bytes.now in
    let h = c.args.header.now in
    let k = c.requires.kept in
    let is = c.requires.header in
    let head = head_kept (kind_seen c.args.kind) b c.requires.kind k.header in
    let wide : h.leaves * (c.from.result + c.from-2.result) ≡ h.leaves * (h.hash_bits + h.real_bits) = (λ j. h.leaves * (c.from.ensures j + c.from-2.ensures j)) in
    omega (arith, wide, product_fits h.leaves (h.hash_bits + h.real_bits) (omega (arith, ap (λ (h : Header). h.leaves) is, few_leaves b k.bytes_are head.long)) (omega (arith, ap (λ (h : Header). h.hash_bits) is, ap (λ (h : Header). h.real_bits) is, head.hash_width, head.real_width)))

pub from_bytes-requires-2 : goal.from_bytes-requires-2
from_bytes-requires-2 g c =
    let b = c.args.bytes.now in
    let h = c.args.header.now in
    let k = c.requires.kept in
    let is = c.requires.header in
    let wide : h.leaves * (c.from.result + c.from-2.result) ≡ h.leaves * (h.hash_bits + h.real_bits) = (λ j. h.leaves * (c.from.ensures j + c.from-2.ensures j)) in
    let size : h.leaves * (h.hash_bits + h.real_bits) ≡ leaf_count_in b * suffix_bits_in b = (λ j. (is j).leaves * ((is j).hash_bits + (is j).real_bits)) in
    omega (arith, wide, size, ap length c.cut-sections.ensures.suffixes, (are_long b (whole b k.lengths)).suffixes)

pub of-suffixes-requires-clause-hash_width : goal.of-suffixes-requires-clause-hash_width
of-suffixes-requires-clause-hash_width g c =
    let b = c.args.bytes.now in
    let h = c.args.header.now in
    let k = c.requires.kept in
    let is = c.requires.header in
    let head = head_kept (kind_seen c.args.kind) b c.requires.kind k.header in
    omega (arith, ap (λ (h : Header). h.hash_bits) is, head.hash_width)

pub of-suffixes-requires-clause-real_width : goal.of-suffixes-requires-clause-real_width
of-suffixes-requires-clause-real_width g c =
    let b = c.args.bytes.now in
    let h = c.args.header.now in
    let k = c.requires.kept in
    let is = c.requires.header in
    let head = head_kept (kind_seen c.args.kind) b c.requires.kind k.header in
    omega (arith, ap (λ (h : Header). h.real_bits) is, head.real_width)

pub of-suffixes-requires-clause-enough : goal.of-suffixes-requires-clause-enough
of-suffixes-requires-clause-enough g c =
    let b = c.args.bytes.now in
    let h = c.args.header.now in
    let k = c.requires.kept in
    let is = c.requires.header in
    let wide : h.leaves * (c.from.result + c.from-2.result) ≡ h.leaves * (h.hash_bits + h.real_bits) = (λ j. h.leaves * (c.from.ensures j + c.from-2.ensures j)) in
    ap length c.in_ok-bits.ensures ∙ length-unpacked 8 c.cut-sections.result.suffixes.now (h.leaves * (c.from.result + c.from-2.result)) ∙ wide ∙ mul_comm h.leaves (h.hash_bits + h.real_bits)
    ∙ ap (λ n. (h.hash_bits + h.real_bits) * n) (sym c.from-3.ensures)

pub nodes_fault-requires-clause-cutoff : goal.nodes_fault-requires-clause-cutoff
nodes_fault-requires-clause-cutoff g c =
    let b = c.args.bytes.now in
    let h = c.args.header.now in
    let k = c.requires.kept in
    let is = c.requires.header in
    let head = head_kept (kind_seen c.args.kind) b c.requires.kind k.header in
    omega (arith, ap (λ (h : Header). h.cutoff) is, ap (λ (h : Header). h.height) is, head.cutoff)

pub nodes_fault-requires-clause-height : goal.nodes_fault-requires-clause-height
nodes_fault-requires-clause-height g c =
    let b = c.args.bytes.now in
    let h = c.args.header.now in
    let k = c.requires.kept in
    let is = c.requires.header in
    let head = head_kept (kind_seen c.args.kind) b c.requires.kind k.header in
    omega (arith, ap (λ (h : Header). h.height) is, head.some_height)

pub nodes_fault-requires-clause-count : goal.nodes_fault-requires-clause-count
nodes_fault-requires-clause-count g c =
    let b = c.args.bytes.now in
    let h = c.args.header.now in
    let k = c.requires.kept in
    let is = c.requires.header in
    let louds = c.in_ok-louds.ensures ∙ bits_5 b _ h is c.cut-sections.ensures.louds in
    let same = louds_same b c.in_ok-louds.louds h.sparse louds (ap (λ (h : Header). h.sparse) is) in
    let none : louds_fault b ≡ None = sym (c.in_default.ensures ∙ same) in
    let wide : h.leaves * (c.from.result + c.from-2.result) ≡ h.leaves * (h.hash_bits + h.real_bits) = (λ j. h.leaves * (c.from.ensures j + c.from-2.ensures j)) in
    let bits = c.in_ok-bits.ensures ∙ ap (unpacked 8 c.cut-sections.result.suffixes.now) wide ∙ bits_6 b _ h is c.cut-sections.ensures.suffixes in
    let array = c.of-suffixes.ensures ∙ ap (array_from h c.in_ok-bits.bits) c.from-3.ensures in
    count_is h c.in_ok-bits.bits c.of-suffixes.result array

pub nodes_fault-requires-clause-place : goal.nodes_fault-requires-clause-place
nodes_fault-requires-clause-place g c =
    let b = c.args.bytes.now in
    let h = c.args.header.now in
    let k = c.requires.kept in
    let is = c.requires.header in
    let louds = c.in_ok-louds.ensures ∙ bits_5 b _ h is c.cut-sections.ensures.louds in
    let same = louds_same b c.in_ok-louds.louds h.sparse louds (ap (λ (h : Header). h.sparse) is) in
    let none : louds_fault b ≡ None = sym (c.in_default.ensures ∙ same) in
    let wide : h.leaves * (c.from.result + c.from-2.result) ≡ h.leaves * (h.hash_bits + h.real_bits) = (λ j. h.leaves * (c.from.ensures j + c.from-2.ensures j)) in
    let bits = c.in_ok-bits.ensures ∙ ap (unpacked 8 c.cut-sections.result.suffixes.now) wide ∙ bits_6 b _ h is c.cut-sections.ensures.suffixes in
    let array = c.of-suffixes.ensures ∙ ap (array_from h c.in_ok-bits.bits) c.from-3.ensures in
    place_fits h c.in_ok-bits.bits c.of-suffixes.result array c.args.places.now c.requires.places c.requires.fits

pub nodes_fault-requires-clause-wide : goal.nodes_fault-requires-clause-wide
nodes_fault-requires-clause-wide g c =
    let b = c.args.bytes.now in
    let h = c.args.header.now in
    let k = c.requires.kept in
    let is = c.requires.header in
    let louds = c.in_ok-louds.ensures ∙ bits_5 b _ h is c.cut-sections.ensures.louds in
    let same = louds_same b c.in_ok-louds.louds h.sparse louds (ap (λ (h : Header). h.sparse) is) in
    let none : louds_fault b ≡ None = sym (c.in_default.ensures ∙ same) in
    let wide : h.leaves * (c.from.result + c.from-2.result) ≡ h.leaves * (h.hash_bits + h.real_bits) = (λ j. h.leaves * (c.from.ensures j + c.from-2.ensures j)) in
    let bits = c.in_ok-bits.ensures ∙ ap (unpacked 8 c.cut-sections.result.suffixes.now) wide ∙ bits_6 b _ h is c.cut-sections.ensures.suffixes in
    let array = c.of-suffixes.ensures ∙ ap (array_from h c.in_ok-bits.bits) c.from-3.ensures in
    let head = head_kept (kind_seen c.args.kind) b c.requires.kind k.header in
    size_fits h c.in_ok-bits.bits c.of-suffixes.result array (omega (arith, ap (λ (h : Header). h.leaves) is, few_leaves b k.bytes_are head.long)) (omega (arith, ap (λ (h : Header). h.hash_bits) is, head.hash_width)) (omega (arith, ap (λ (h : Header). h.real_bits) is, head.real_width))

pub returns-in-Some-nodes_fault-clause-refused : goal.returns-in-Some-nodes_fault-clause-refused
returns-in-Some-nodes_fault-clause-refused g c =
    let b = c.args.bytes.now in
    let h = c.args.header.now in
    let k = c.requires.kept in
    let is = c.requires.header in
    let louds = c.in_ok-louds.ensures ∙ bits_5 b _ h is c.cut-sections.ensures.louds in
    let same = louds_same b c.in_ok-louds.louds h.sparse louds (ap (λ (h : Header). h.sparse) is) in
    let none : louds_fault b ≡ None = sym (c.in_default.ensures ∙ same) in
    let wide : h.leaves * (c.from.result + c.from-2.result) ≡ h.leaves * (h.hash_bits + h.real_bits) = (λ j. h.leaves * (c.from.ensures j + c.from-2.ensures j)) in
    let bits = c.in_ok-bits.ensures ∙ ap (unpacked 8 c.cut-sections.result.suffixes.now) wide ∙ bits_6 b _ h is c.cut-sections.ensures.suffixes in
    let array = c.of-suffixes.ensures ∙ ap (array_from h c.in_ok-bits.bits) c.from-3.ensures in
    let rule = rule_by (kind_seen c.args.kind) b h is c.args.places.now c.requires.places c.of-suffixes.result (array ∙ array_by (kind_seen c.args.kind) b h is c.in_ok-bits.bits bits) c.in_ok-packed.packed c.in_ok-packed.ensures in
    at_nodes (kind_seen c.args.kind) b c.requires.kind k.bytes_are c.in-Some-nodes_fault.fault k none (c.in-Some-nodes_fault.ensures ∙ rule)

pub trie_of-trie-requires : goal.trie_of-trie-requires
trie_of-trie-requires g c =
    let b = c.args.bytes.now in
    let h = c.args.header.now in
    let k = c.requires.kept in
    let is = c.requires.header in
    let louds = c.in_ok-louds.ensures ∙ bits_5 b _ h is c.cut-sections.ensures.louds in
    let same = louds_same b c.in_ok-louds.louds h.sparse louds (ap (λ (h : Header). h.sparse) is) in
    let none : louds_fault b ≡ None = sym (c.in_default.ensures ∙ same) in
    let wide : h.leaves * (c.from.result + c.from-2.result) ≡ h.leaves * (h.hash_bits + h.real_bits) = (λ j. h.leaves * (c.from.ensures j + c.from-2.ensures j)) in
    let bits = c.in_ok-bits.ensures ∙ ap (unpacked 8 c.cut-sections.result.suffixes.now) wide ∙ bits_6 b _ h is c.cut-sections.ensures.suffixes in
    let array = c.of-suffixes.ensures ∙ ap (array_from h c.in_ok-bits.bits) c.from-3.ensures in
    let rule = rule_by (kind_seen c.args.kind) b h is c.args.places.now c.requires.places c.of-suffixes.result (array ∙ array_by (kind_seen c.args.kind) b h is c.in_ok-bits.bits bits) c.in_ok-packed.packed c.in_ok-packed.ensures in
    let whole_kept = none_broken (kind_seen c.args.kind) b c.requires.kind k.bytes_are k none (c.in_default-nodes_fault.ensures ∙ rule) in
    trie_by (kind_seen c.args.kind) b h is c.args.places.now c.requires.places c.of-suffixes.result (array ∙ array_by (kind_seen c.args.kind) b h is c.in_ok-bits.bits bits) c.in_ok-packed.packed c.in_ok-packed.ensures c.requires.kind k.bytes_are whole_kept

pub returns-clause-read : goal.returns-clause-read
returns-clause-read g c =
    let b = c.args.bytes.now in
    let h = c.args.header.now in
    let k = c.requires.kept in
    let is = c.requires.header in
    let louds = c.in_ok-louds.ensures ∙ bits_5 b _ h is c.cut-sections.ensures.louds in
    let same = louds_same b c.in_ok-louds.louds h.sparse louds (ap (λ (h : Header). h.sparse) is) in
    let none : louds_fault b ≡ None = sym (c.in_default.ensures ∙ same) in
    let wide : h.leaves * (c.from.result + c.from-2.result) ≡ h.leaves * (h.hash_bits + h.real_bits) = (λ j. h.leaves * (c.from.ensures j + c.from-2.ensures j)) in
    let bits = c.in_ok-bits.ensures ∙ ap (unpacked 8 c.cut-sections.result.suffixes.now) wide ∙ bits_6 b _ h is c.cut-sections.ensures.suffixes in
    let array = c.of-suffixes.ensures ∙ ap (array_from h c.in_ok-bits.bits) c.from-3.ensures in
    let rule = rule_by (kind_seen c.args.kind) b h is c.args.places.now c.requires.places c.of-suffixes.result (array ∙ array_by (kind_seen c.args.kind) b h is c.in_ok-bits.bits bits) c.in_ok-packed.packed c.in_ok-packed.ensures in
    let whole_kept = none_broken (kind_seen c.args.kind) b c.requires.kind k.bytes_are k none (c.in_default-nodes_fault.ensures ∙ rule) in
    read_by (kind_seen c.args.kind) b h is c.args.places.now c.requires.places c.of-suffixes.result (array ∙ array_by (kind_seen c.args.kind) b h is c.in_ok-bits.bits bits) c.in_ok-packed.packed c.in_ok-packed.ensures c.requires.kind k.bytes_are whole_kept _ (c.keep_sums.ensures ∙ c.trie_of-trie.ensures)
