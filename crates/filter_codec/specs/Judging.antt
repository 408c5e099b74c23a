-- Faults and numbers as the code has them.
use Rattle.std.specs.Prelude.{ℕ, ◌+◌, ◌*◌, ◌/◌, nat_lt, ◌==◌, ◌||◌, Option, None, length, position, zip}
use Rattle.std.specs.Int.{div_ceil}
use Rattle.std.specs.Option.{option_map}
use Rattle.bit_model.specs.Packed.{unpacked}
use Rattle.byte_fields.specs.Faults.{Fault, fault, refuse}
use Rattle.filter_api.specs.declared.errors.FilterFault.{FilterFault}
use Rattle.filter_codec.specs.declared.header.Header.{Header}
use Rattle.filter_codec.specs.declared.header.Places.{Places}
use Rattle.filter_codec.specs.declared.kind.Kind.{Kind}
use Rattle.filter_image_model.specs.Header.{Bytes, cutoff_in, dense_count_in, hash_bits_in, height_in, label_count_in, leaf_count_in, real_bits_in, sparse_count_in}
use Rattle.filter_image_model.specs.Kinds.{Kind as ImageKind}
use Rattle.filter_image_model.specs.Reading.{is_stray}
use Rattle.key_base.specs.Limits.{max_key_bytes}

abbrev pub seen : FilterFault → Fault
seen f = record { place = f.place; rule = f.rule }

abbrev pub kind_seen : Kind → ImageKind
kind_seen k = record { hash_bits = k.hash_bits; real_bits = k.real_bits; alone = k.alone }

-- the numbers of a header
abbrev pub header_in : Bytes → Header
header_in bytes =
    record { hash_bits = hash_bits_in bytes; real_bits = real_bits_in bytes; cutoff = cutoff_in bytes; height = height_in bytes; leaves = leaf_count_in bytes; dense = dense_count_in bytes; sparse = sparse_count_in bytes; labels = label_count_in bytes }

-- the rule on height, cutoff and leaves
abbrev pub numbers_rule : Bytes → Option Fault
numbers_rule bytes =
    refuse ((height_in bytes == 0) || nat_lt max_key_bytes (height_in bytes)) 10 4
    (refuse (nat_lt (height_in bytes) (cutoff_in bytes)) 8 4
    (refuse (leaf_count_in bytes == 0) 12 4
    None))

-- where an image of these numbers ends, and where its sections begin
abbrev pub image_end : Header → ℕ
image_end h = 40 + 64 * h.dense + div_ceil h.dense 8 + h.labels + 2 * div_ceil h.labels 8 + div_ceil (h.leaves * (h.hash_bits + h.real_bits)) 8

abbrev pub places_by : Header → Places
places_by h = record {
  dense_children = 40 + 32 * h.dense;
  dense_ends = 40 + 64 * h.dense;
  labels = 40 + 64 * h.dense + div_ceil h.dense 8;
  children = 40 + 64 * h.dense + div_ceil h.dense 8 + h.labels;
  louds = 40 + 64 * h.dense + div_ceil h.dense 8 + h.labels + div_ceil h.labels 8;
  suffixes = 40 + 64 * h.dense + div_ceil h.dense 8 + h.labels + 2 * div_ceil h.labels 8;
}

-- the rule on bits of children without a label, on the bytes of these two sections
abbrev pub stray_rule : Bytes → Bytes → Option Fault
stray_rule labels children =
    option_map (λ i. fault (40 + length labels + i / 8) 7)
    (position is_stray (zip (unpacked 8 labels (8 * length labels)) (unpacked 8 children (8 * length labels))))
