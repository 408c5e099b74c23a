-- Three pieces that are written one after the other are there.
use Rattle.std.proofs.Common.{◌≡◌, ◌+◌, ◌-◌, ◌*◌, ℕ, List, length, refl, sym, ap, ◌∙◌, subst, arith, inl, length-append}
use Rattle.std.proofs.lemmas.List.{length-replicate}
use Rattle.std.specs.Prelude.{IfErr, Result, replicate}
use Rattle.disk_trait.specs.declared.fault.DiskFault.{DiskFault}
use Rattle.disk_trait.specs.Image.{Image, Shows, overwritten}
use Rattle.disk_trait.proofs.Images.{whole, window_kept, window_overwritten}
use Rattle.filter_api.specs.Spellings.{MayStand, Spelling}
use Rattle.filter_api.specs.declared.settings.Settings.{Settings}
use Rattle.filter_model.specs.Leaves.{Filter, Leaf}
use Rattle.map_model.specs.SortedMap.{Bytes}
use Rattle.entry_model.specs.Entries.{keys_of}
use Rattle.range_model.specs.Sources.{Source}
use Rattle.block_model.specs.Block.{data_bytes}
use Rattle.block_model.specs.Pages.{padding}
use Rattle.block_model.specs.Index.{Index, index_bytes, index_with}
use Rattle.block_model.specs.Pages.{data_pages, index_length_with, pages_for}
use Rattle.block_model.specs.Places.{byte_of_page, filter_page, index_page}
use Rattle.block_model.proofs.Lengths.{in_pages}
use Rattle.table_model.specs.Images.{IsFilterOfKeys, IsTableOf}
use Rattle.table_model.specs.Tables.{filter_bytes_of, source_pages, table_from}
use Rattle.table_model.specs.Written.{ArePartsShown, row_from}
use Rattle.table_model.proofs.Shown.{shown_parts}
use Rattle.table_model.proofs.Written.{table_stands}
use Rattle.table_file.specs.Laws.{WrittenIsShown}
use Rattle.table_file.specs.Parts.{ArePartsOf}
use Rattle.table_file.specs.Writing.{AreWritten, IsWriteOf, in_whole_pages, three_written}
use Rattle.table_file.proofs.PartsMade.{blocks_long, filter_part_is, index_part_is, index_part_long}

module _ (image : Image) (at : ℕ) (a b c : Bytes) where
  one : Image
  one = overwritten image at a

  two : Image
  two = overwritten one (at + length a) b

  three : Image
  three = overwritten two (at + length a + length b) c

  pub first_shown : Shows at a (three_written image at a b c)
  unfolding three two one
  first_shown =
      window_kept (at + length a + length b) (length c) two three at (length a) (inl (omega arith)) (whole two three (at + length a + length b) c refl)
      ∙ window_kept (at + length a) (length b) one two at (length a) (inl (omega arith)) (whole one two (at + length a) b refl)
      ∙ window_overwritten image at a

  pub second_shown : Shows (at + length a) b (three_written image at a b c)
  unfolding three two one
  second_shown =
      window_kept (at + length a + length b) (length c) two three (at + length a) (length b) (inl (omega arith)) (whole two three (at + length a + length b) c refl)
      ∙ window_overwritten one (at + length a) b

  pub third_shown : Shows (at + length a + length b) c (three_written image at a b c)
  unfolding two one
  third_shown = window_overwritten two (at + length a + length b) c

pub same_places : {T : Type 0} (r : Result T DiskFault) (a b c x y z : ℕ) → a ≡ x → b ≡ y → c ≡ z → IfErr r (IsWriteOf a b c) → IfErr r (IsWriteOf x y z)
same_places r a b c x y z first second third is =
    subst (λ (n : ℕ). IfErr r (IsWriteOf n y z)) first (subst (λ (n : ℕ). IfErr r (IsWriteOf a n z)) second (subst (λ (n : ℕ). IfErr r (IsWriteOf a b n)) third is))

pub padded_long : (bytes : Bytes) → length (in_whole_pages bytes) ≡ 4096 * pages_for (length bytes)
unfolding padding
padded_long bytes =
    omega (arith, length-append bytes (replicate (4096 * pages_for (length bytes) - length bytes) 0), length-replicate {A = ℕ} (4096 * pages_for (length bytes) - length bytes) 0, in_pages (length bytes))

pub written_shown : WrittenIsShown
written_shown row s filter_bytes image shown = record {
  blocks = shown.blocks;
  index = (shown_parts _ (index_bytes (index_with s.entries s.ranges)) (padding (length (index_bytes (index_with s.entries s.ranges)))) image shown.index).0;
  filter = (shown_parts _ filter_bytes (padding (length filter_bytes)) image shown.filter).0;
}

module _ (spelling : Spelling) (built_cutoff : ℕ → List Leaf → ℕ) (settings : Settings) (s : Source) (count : ℕ) (blocks : Bytes) (index : Index) (index_part : Bytes)
    (filter : Filter) (filter_part : Bytes) (parts : ArePartsOf spelling built_cutoff settings s count blocks index index_part filter filter_part) where
  abbrev bytes : Bytes
  bytes = filter_bytes_of spelling built_cutoff settings (keys_of s.entries)

  index_pages : length (in_whole_pages index_part) ≡ 4096 * pages_for (index_length_with s.entries s.ranges)
  index_pages = padded_long index_part ∙ ap (λ (n : ℕ). 4096 * pages_for n) (index_part_long spelling built_cutoff settings s count blocks index index_part filter filter_part parts)

  filter_pages : length (in_whole_pages filter_part) ≡ 4096 * pages_for (length bytes)
  filter_pages = padded_long filter_part ∙ ap (λ (b : Bytes). 4096 * pages_for (length b)) (filter_part_is spelling built_cutoff settings s count blocks index index_part filter filter_part parts)

  blocks_pages : length blocks ≡ 4096 * data_pages s.entries
  blocks_pages = blocks_long spelling built_cutoff settings s count blocks index index_part filter filter_part parts

  pub all_long : length blocks + length (in_whole_pages index_part) + length (in_whole_pages filter_part) ≡ 4096 * source_pages (filter_bytes_of spelling built_cutoff) settings s
  all_long = omega (arith, blocks_pages, index_pages, filter_pages)

  module _ (level first at : ℕ) (at_is : at ≡ 4096 * first) where
    pub index_at : at + length blocks ≡ byte_of_page (index_page (row_from level first settings s bytes))
    unfolding row_from
    index_at = omega (arith, at_is, blocks_pages)

    pub filter_at : at + length blocks + length (in_whole_pages index_part) ≡ byte_of_page (filter_page (row_from level first settings s bytes))
    unfolding row_from
    filter_at = omega (arith, at_is, blocks_pages, index_pages)

    pub written : (image f : Image) → f ≡ three_written image at blocks (in_whole_pages index_part) (in_whole_pages filter_part) → AreWritten (row_from level first settings s bytes) s bytes f
    unfolding row_from
    written image f is = record {
      blocks = subst (λ (g : Image). Shows (byte_of_page first) (data_bytes s.entries) g) (sym is)
          (subst (λ (n : ℕ). Shows n (data_bytes s.entries) (three_written image at blocks (in_whole_pages index_part) (in_whole_pages filter_part))) at_is
          (subst (λ (x : Bytes). Shows at x (three_written image at blocks (in_whole_pages index_part) (in_whole_pages filter_part))) parts.blocks_are (first_shown image at blocks (in_whole_pages index_part) (in_whole_pages filter_part))));
      index = subst (λ (g : Image). Shows (byte_of_page (index_page (row_from level first settings s bytes))) (in_whole_pages (index_bytes (index_with s.entries s.ranges))) g) (sym is)
          (subst (λ (n : ℕ). Shows n (in_whole_pages (index_bytes (index_with s.entries s.ranges))) (three_written image at blocks (in_whole_pages index_part) (in_whole_pages filter_part))) index_at
          (subst (λ (x : Bytes). Shows (at + length blocks) (in_whole_pages x) (three_written image at blocks (in_whole_pages index_part) (in_whole_pages filter_part)))
          (index_part_is spelling built_cutoff settings s count blocks index index_part filter filter_part parts) (second_shown image at blocks (in_whole_pages index_part) (in_whole_pages filter_part))));
      filter = subst (λ (g : Image). Shows (byte_of_page (filter_page (row_from level first settings s bytes))) (in_whole_pages bytes) g) (sym is)
          (subst (λ (n : ℕ). Shows n (in_whole_pages bytes) (three_written image at blocks (in_whole_pages index_part) (in_whole_pages filter_part))) filter_at
          (subst (λ (x : Bytes). Shows (at + length blocks + length (in_whole_pages index_part)) (in_whole_pages x) (three_written image at blocks (in_whole_pages index_part) (in_whole_pages filter_part)))
          (filter_part_is spelling built_cutoff settings s count blocks index index_part filter filter_part parts) (third_shown image at blocks (in_whole_pages index_part) (in_whole_pages filter_part))));
    }

    of_keys : IsFilterOfKeys spelling settings (keys_of s.entries) bytes
    of_keys =
        let stand = subst (λ (f : Filter). MayStand f.hash_bits f.real_bits f.cutoff f.leaves) parts.filter_is parts.may_stand in
        record { cutoff = _; spelled = record { may_stand = stand; bytes_are = refl } }

    pub stands_shown : (f : Image) → ArePartsShown (row_from level first settings s bytes) s bytes f
        → IsTableOf spelling (row_from level first settings s bytes) (table_from (filter_bytes_of spelling built_cutoff) settings level first s) f
    stands_shown f shown = table_stands spelling (filter_bytes_of spelling built_cutoff) settings level first s f parts.table parts.ranges of_keys shown

    pub stands : (f : Image) → AreWritten (row_from level first settings s bytes) s bytes f
        → IsTableOf spelling (row_from level first settings s bytes) (table_from (filter_bytes_of spelling built_cutoff) settings level first s) f
    stands f shown = stands_shown f (written_shown (row_from level first settings s bytes) s bytes f shown)
