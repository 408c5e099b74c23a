-- What kept blocks and those that were read say of a key, table by table.
use Rattle.std.proofs.Common.{◌≡◌, ◌∙◌, ℕ, Bool, true, false, List, [], ◌∷◌, length, take, refl, sym, ap, subst}
use Rattle.std.specs.Option.{option_map_or, option_or}
use Rattle.std.specs.Prelude.{IfOk, OnOk, Option, Some, None, Result, Ok, Err, is_some}
use Rattle.std.proofs.lemmas.Bool.{false≢true}
use Rattle.block_cache.specs.Kept.{KeptBlock, kept_of}
use Rattle.block_model.specs.BlockReading.{block_fault, block_in}
use Rattle.byte_fields.specs.Sums.{fnv_of}
use Rattle.disk_trait.specs.Image.{Image}
use Rattle.entry_model.specs.Newest.{lookup}
use Rattle.map_model.specs.SortedMap.{Bytes}
use Rattle.store_search.specs.Caching.{AreSame, Cached, cache_number, said_by}
use Rattle.store_search.specs.Looking.{AreReadSound, IsReadSound, looked_block, looked_bytes, looked_table, looked_tables}
use Rattle.table_file.specs.Opened.{Opened}
use Rattle.table_file.specs.Search.{IsSoundBlock, block_for, bytes_at, row_at}

-- ---- a block

-- one that was read and broke no rule, with the sum of its index
pub read_sound : {E : Type 0} (result : Result (ℕ × Bool) E) (t : Opened) (n : ℕ) (image : Image) (buffer : Bytes) → IfOk result (λ r. take r.0 buffer ≡ bytes_at t n image)
    → IfOk result (λ r. block_fault (take r.0 buffer) ≡ None) → IfOk result (λ _. (row_at t.index.rows n).sum ≡ fnv_of (bytes_at t n image)) → OnOk result (IsSoundBlock t n image)
read_sound (Ok r) t n image buffer bytes whole sum = record { sum = sum; rules = subst (λ (b : Bytes). block_fault b ≡ None) bytes whole }
read_sound (Err why) t n image buffer bytes whole sum = tt

-- a kept one says what its bytes say
kept_says : (kept : Option Bytes) (read key : Bytes) → is_some kept ≡ true → said_by kept key ≡ lookup (block_in (option_map_or (λ bytes. bytes) kept read)) key
kept_says None read key some = absurd (false≢true some)
kept_says (Some bytes) read key some = refl

module _ (kept : List KeptBlock) (number : ℕ) (t : Opened) (key : Bytes) (image : Image) where
  pub looked_none : block_for t key ≡ None → None ≡ looked_table kept number t key image
  looked_none none = sym (ap (λ (o : Option ℕ). looked_block kept number t key image o) none)

  pub sound_none : block_for t key ≡ None → IsReadSound kept number t key image
  sound_none none n named unkept = let no : None ≡ Some n = sym none ∙ named in absurd cc

  module _ (block : ℕ) (named : block_for t key ≡ Some block) where
    of_block : lookup (block_in (looked_bytes kept number t block image)) key ≡ looked_table kept number t key image
    of_block = sym (ap (λ (o : Option ℕ). looked_block kept number t key image o) named)

    pub looked_kept : is_some (kept_of (number, block) kept) ≡ true → said_by (kept_of (number, block) kept) key ≡ looked_table kept number t key image
    looked_kept some = kept_says (kept_of (number, block) kept) (bytes_at t block image) key some ∙ of_block

    pub looked_read : kept_of (number, block) kept ≡ None → (bytes : Bytes) → bytes ≡ bytes_at t block image → lookup (block_in bytes) key ≡ looked_table kept number t key image
    looked_read none bytes is =
        ap (λ (b : Bytes). lookup (block_in b) key) is
        ∙ sym (ap (λ (o : Option Bytes). lookup (block_in (option_map_or (λ b. b) o (bytes_at t block image))) key) none)
        ∙ of_block

    same_block : (n : ℕ) → block_for t key ≡ Some n → block ≡ n
    same_block n other = let same : Some block ≡ Some n = sym named ∙ other in cc

    pub sound_kept : is_some (kept_of (number, block) kept) ≡ true → IsReadSound kept number t key image
    sound_kept some n other none =
        let here = subst (λ (k : ℕ). kept_of (number, k) kept ≡ None) (sym (same_block n other)) none in
        absurd (false≢true (sym (ap (λ (o : Option Bytes). is_some o) here) ∙ some))

    pub sound_read : IsSoundBlock t block image → IsReadSound kept number t key image
    sound_read sound n other none = subst (λ (k : ℕ). IsSoundBlock t k image) (same_block n other) sound

-- ---- some tables

-- they say the same by the same kept blocks
table_same : (old new : Cached) (number : ℕ) (t : Opened) (key : Bytes) (image : Image) → AreSame old new → looked_table new.kept number t key image ≡ looked_table old.kept number t key image
table_same old new number t key image same = by_name (block_for t key)
  where
    by_name : (named : Option ℕ) → looked_block new.kept number t key image named ≡ looked_block old.kept number t key image named
    by_name None = refl
    by_name (Some n) = ap (λ (o : Option Bytes). lookup (block_in (option_map_or (λ bytes. bytes) o (bytes_at t n image))) key) (same.kept (number, n))

tables_same : (old new : Cached) (tables : List Opened) (key : Bytes) (image : Image) → AreSame old new → looked_tables new tables key image ≡ looked_tables old tables key image
tables_same old new [] key image same = refl
tables_same old new (t ∷ older) key image same =
    ap (λ (n : ℕ). option_or (looked_table new.kept (cache_number n (length older)) t key image) (looked_tables new older key image)) same.first
    ∙ ap (λ (o : Option (Option Bytes)). option_or o (looked_tables new older key image)) (table_same old new (cache_number old.first (length older)) t key image same)
    ∙ ap (λ (o : Option (Option Bytes)). option_or (looked_table old.kept (cache_number old.first (length older)) t key image) o) (tables_same old new older key image same)

-- a block that is read with the one is read with the other
read_same : (old new : Cached) (number : ℕ) (t : Opened) (key : Bytes) (image : Image) → AreSame old new → IsReadSound new.kept number t key image → IsReadSound old.kept number t key image
read_same old new number t key image same sound n named none = sound n named (same.kept (number, n) ∙ none)

sound_same : (old new : Cached) (tables : List Opened) (key : Bytes) (image : Image) → AreSame old new → AreReadSound new tables key image → AreReadSound old tables key image
sound_same old new [] key image same sound = tt
sound_same old new (t ∷ older) key image same sound =
    let number = cache_number old.first (length older) in
    let here = subst (λ (n : ℕ). IsReadSound new.kept (cache_number n (length older)) t key image) same.first sound.0 in
    let rest = subst (λ (n : ℕ). looked_table new.kept (cache_number n (length older)) t key image ≡ None → AreReadSound new older key image) same.first sound.1 in
    (read_same old new number t key image same here, λ none. sound_same old new older key image same (rest (table_same old new number t key image same ∙ none)))

-- the first that says something counts
pub or_first : (first later : Option (Option Bytes)) → is_some first ≡ true → option_or first later ≡ first
or_first None later some = absurd (false≢true some)
or_first (Some said) later some = refl

module _ (blocks : Cached) (key : Bytes) (image : Image) (first : Opened) (more tables : List Opened) (split : tables ≡ first ∷ more) (number : ℕ) (is : number ≡ cache_number blocks.first (length more)) where
  pub looked_first : (said : Option (Option Bytes)) → is_some said ≡ true → said ≡ looked_table blocks.kept number first key image → said ≡ looked_tables blocks tables key image
  looked_first said some says =
      subst (λ (ts : List Opened). said ≡ looked_tables blocks ts key image) (sym split)
      (subst (λ (n : ℕ). said ≡ option_or (looked_table blocks.kept n first key image) (looked_tables blocks more key image)) is
      (sym (ap (λ (o : Option (Option Bytes)). option_or o (looked_tables blocks more key image)) (sym says) ∙ or_first said (looked_tables blocks more key image) some)))

  pub looked_next : (mid : Cached) → AreSame blocks mid → (said : Option (Option Bytes)) → None ≡ looked_table blocks.kept number first key image → said ≡ looked_tables mid more key image
      → said ≡ looked_tables blocks tables key image
  looked_next mid same said none says =
      subst (λ (ts : List Opened). said ≡ looked_tables blocks ts key image) (sym split)
      (subst (λ (n : ℕ). said ≡ option_or (looked_table blocks.kept n first key image) (looked_tables blocks more key image)) is
      (says ∙ tables_same blocks mid more key image same ∙ ap (λ (o : Option (Option Bytes)). option_or o (looked_tables blocks more key image)) none))

  pub sound_first : (said : Option (Option Bytes)) → is_some said ≡ true → said ≡ looked_table blocks.kept number first key image → IsReadSound blocks.kept number first key image
      → AreReadSound blocks tables key image
  sound_first said some says sound =
      subst (λ (ts : List Opened). AreReadSound blocks ts key image) (sym split) (
        subst (λ (n : ℕ). IsReadSound blocks.kept n first key image) is sound,
        λ none. absurd (false≢true (sym (ap (λ (o : Option (Option Bytes)). is_some o) (says ∙ subst (λ (n : ℕ). looked_table blocks.kept n first key image ≡ None) (sym is) none)) ∙ some)),
      )

  pub sound_next : (mid : Cached) → AreSame blocks mid → IsReadSound blocks.kept number first key image → AreReadSound mid more key image → AreReadSound blocks tables key image
  sound_next mid same sound rest =
      subst (λ (ts : List Opened). AreReadSound blocks ts key image) (sym split)
      (subst (λ (n : ℕ). IsReadSound blocks.kept n first key image) is sound, λ none. sound_same blocks mid more key image same rest)
