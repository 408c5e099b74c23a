-- Where an image ends.
use Rattle.std.proofs.Common.{◌≡◌, ℕ, ◌+◌, ◌*◌, arith}
use Rattle.std.specs.Int.{div_ceil}
use Rattle.filter_codec.specs.Judging.{header_in, image_end}
use Rattle.filter_image_model.specs.Header.{Bytes, end_place, section_bits, section_place, dense_count_in, label_count_in, leaf_count_in, suffix_bits_in}

sum_of : (d l w : ℕ)
    → 40 + div_ceil (256 * d) 8 + div_ceil (256 * d) 8 + div_ceil d 8 + div_ceil (8 * l) 8 + div_ceil l 8 + div_ceil l 8 + div_ceil w 8
    ≡ 40 + 64 * d + div_ceil d 8 + l + 2 * div_ceil l 8 + div_ceil w 8
sum_of d l w = omega arith

pub ends_there : (bytes : Bytes) → end_place bytes ≡ image_end (header_in bytes)
unfolding section_place section_bits
ends_there bytes = sum_of (dense_count_in bytes) (label_count_in bytes) (leaf_count_in bytes * suffix_bits_in bytes)
