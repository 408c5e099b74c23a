-- A merge that follows a job does so on another image that shows the same tables.
use Rattle.std.proofs.Common.{◌≡◌, ◌∙◌, ℕ, zero, suc, ◌-◌, ◌≤◌, List, [], ◌∷◌, ◌++◌, length, map, refl, sym, ap, ap₂, subst, arith}
use Rattle.std.specs.Prelude.{Bool, true, slice_get}
use Rattle.std.specs.List.{AllByRecursion}
use Rattle.std.proofs.lemmas.Bool.{false≢true}
use Rattle.block_model.specs.Index.{Index, IndexRow}
use Rattle.block_model.specs.Laws.{joined}
use Rattle.block_model.specs.Order.{Follow, is_any}
use Rattle.block_model.specs.Pages.{last_key}
use Rattle.disk_trait.specs.Image.{Image}
use Rattle.entry_model.specs.Entries.{Entry, keys_of}
use Rattle.filter_api.specs.Spellings.{Spelling}
use Rattle.key_base.specs.ByteOrder.{is_before}
use Rattle.level_merge.specs.FollowLaws.{OtherImageIsFollowed}
use Rattle.store_search.specs.TablesAgree.{TableAgrees, TablesAgree}
use Rattle.level_merge.specs.JobValue.{JobValue, outputs_left, outputs_with}
use Rattle.map_model.specs.SortedMap.{Bytes}
use Rattle.range_model.specs.Ranges.{DeletedRange}
use Rattle.merge_rows.specs.Merges.{Merge, TableWalk, blocks_in, left_above, with_hand}
use Rattle.merge_rows.specs.Rows.{KeyFloor, above_floor, merged_rows, rows_shown}
use Rattle.merge_rows.specs.Steps.{AreSoundWalks, IsSoundMerge, IsSoundWalk}
use Rattle.merge_rows.proofs.Keys.{before_of, before_then, is_before_of, not_before_itself}
use Rattle.state_model.specs.Merges.{lasting}
use Rattle.table_file.specs.Laws.{StandingBlocks}
use Rattle.table_file.specs.Opened.{Opened}
use Rattle.table_file.specs.Walks.{blocks_on, to_come}
use Rattle.table_model.specs.Pieces.{blocks_in as pieces_read, index_of_pieces, row_of_piece}
use Rattle.table_model.proofs.Pieces.{rows_of_index}
use Rattle.table_file.proofs.Stands.{each_some}
use Rattle.table_model.specs.Tables.{Table}

-- ---- the blocks of a table: of the same entries, each with the same last key, they are the same

follow_lower : (low key : Bytes) (keys : List Bytes) → is_before low key ≡ true → Follow (is_before key) keys → Follow (is_before low) keys
follow_lower low key [] above follow = tt
follow_lower low key (k ∷ keys) above follow = (is_before_of low k (before_then low key k (before_of low key above) (before_of key k follow.0)), follow.1)

all_above : (low : Bytes) (keys : List Bytes) → Follow (is_before low) keys → AllByRecursion (λ k. is_before low k ≡ true) keys
all_above low [] follow = tt
all_above low (k ∷ keys) follow = (follow.0, all_above low keys (follow_lower low k keys follow.0 follow.1))

-- the last of some keys that are above one is above it, too
last_above : (low : Bytes) (e : Entry) (es rest : List Entry) → AllByRecursion (λ (k : Bytes). is_before low k ≡ true) (keys_of ((e ∷ es) ++ rest)) → is_before low (last_key (e ∷ es)) ≡ true
last_above low e [] rest all = all.0
last_above low e (f ∷ es) rest all = last_above low f es rest all.1

-- so it is not that one
not_last : (e f : Entry) (es rest : List Entry) → Follow (is_before e.key) (keys_of ((f ∷ es) ++ rest)) → last_key (f ∷ es) ≡ e.key → ⊥
not_last e f es rest follow same =
    absurd (false≢true (sym (not_before_itself e.key) ∙ subst (λ (k : Bytes). is_before e.key k ≡ true) same (last_above e.key f es rest (all_above e.key (keys_of ((f ∷ es) ++ rest)) follow))))

first_of_same : (e f : Entry) (xs ys : List Entry) → e ∷ xs ≡ f ∷ ys → (e ≡ f) × (xs ≡ ys)
first_of_same e f xs ys same = (cc, cc)

same_front : (test : Bytes → Bool) (b c xs ys : List Entry) → b ++ xs ≡ c ++ ys → 1 ≤ length b → 1 ≤ length c → last_key b ≡ last_key c → Follow test (keys_of (b ++ xs)) → b ≡ c
same_front test [] c xs ys same some_b some_c last follow = absurd (omega (arith, some_b))
same_front test (e ∷ b) [] xs ys same some_b some_c last follow = absurd (omega (arith, some_c))
same_front test (e ∷ []) (f ∷ []) xs ys same some_b some_c last follow = ap (λ (x : Entry). x ∷ []) (first_of_same e f xs ys same).0
same_front test (e ∷ []) (f ∷ g ∷ c) xs ys same some_b some_c last follow =
    let both = first_of_same e f xs ((g ∷ c) ++ ys) same in
    absurd (not_last e g c ys (subst (λ (l : List Entry). Follow (is_before e.key) (keys_of l)) both.1 follow.1) (sym last))
same_front test (e ∷ g ∷ b) (f ∷ []) xs ys same some_b some_c last follow =
    let both = first_of_same e f ((g ∷ b) ++ xs) ys same in
    absurd (not_last e g b xs follow.1 (last ∙ ap (λ (x : Entry). x.key) (sym both.0)))
same_front test (e ∷ g ∷ b) (f ∷ h ∷ c) xs ys same some_b some_c last follow =
    let both = first_of_same e f ((g ∷ b) ++ xs) ((h ∷ c) ++ ys) same in
    ap₂ (λ (x : Entry) (l : List Entry). x ∷ l) both.0 (same_front (is_before e.key) (g ∷ b) (h ∷ c) xs ys both.1 (omega arith) (omega arith) last follow.1)

same_rest : (b c xs ys : List Entry) → b ≡ c → b ++ xs ≡ c ++ ys → xs ≡ ys
same_rest b c xs ys same all = behind b xs ys (all ∙ ap (λ (l : List Entry). l ++ ys) (sym same))
  where
    behind : (b xs ys : List Entry) → b ++ xs ≡ b ++ ys → xs ≡ ys
    behind [] xs ys all = all
    behind (e ∷ b) xs ys all = behind b xs ys (first_of_same e e (b ++ xs) (b ++ ys) all).1

follow_rest : (test : Bytes → Bool) (b xs : List Entry) → Follow test (keys_of (b ++ xs)) → (after : Bytes → Bool) × Follow after (keys_of xs)
follow_rest test [] xs follow = (test, follow)
follow_rest test (e ∷ b) xs follow = follow_rest (is_before e.key) b xs follow.1

-- the last keys of blocks
lasts : List (List Entry) → List Bytes
lasts blocks = map last_key blocks

rows_lasts : (ps qs : List Bytes) → map row_of_piece ps ≡ map row_of_piece qs → map last_key (pieces_read ps) ≡ map last_key (pieces_read qs)
unfolding row_of_piece
rows_lasts [] [] same = refl
rows_lasts [] (q ∷ qs) same = absurd cc
rows_lasts (p ∷ ps) [] same = absurd cc
rows_lasts (p ∷ ps) (q ∷ qs) same =
    let here : row_of_piece p ≡ row_of_piece q = cc in
    let rest : map row_of_piece ps ≡ map row_of_piece qs = cc in
    ap₂ (λ (k : Bytes) (l : List Bytes). k ∷ l) (ap (λ (r : IndexRow). r.last) here) (rows_lasts ps qs rest)

same_cut : (test : Bytes → Bool) (bs cs : List (List Entry)) → AllByRecursion (λ b. 1 ≤ length b) bs → AllByRecursion (λ b. 1 ≤ length b) cs → joined bs ≡ joined cs → map last_key bs ≡ map last_key cs
    → Follow test (keys_of (joined bs)) → bs ≡ cs
same_cut test [] [] each_b each_c same last follow = refl
same_cut test [] (c ∷ cs) each_b each_c same last follow = absurd cc
same_cut test (b ∷ bs) [] each_b each_c same last follow = absurd cc
same_cut test (b ∷ bs) (c ∷ cs) each_b each_c same last follow =
    let here : last_key b ≡ last_key c = cc in
    let later : map last_key bs ≡ map last_key cs = cc in
    let first = same_front test b c (joined bs) (joined cs) same each_b.0 each_c.0 here follow in
    let rest = follow_rest test b (joined bs) follow in
    ap₂ (λ (x : List Entry) (l : List (List Entry)). x ∷ l) first (same_cut rest.0 bs cs each_b.1 each_c.1 (same_rest b c (joined bs) (joined cs) first same) later rest.1)

index_rows : (ps qs : List Bytes) (rs ts : List DeletedRange) → index_of_pieces ps rs ≡ index_of_pieces qs ts → map row_of_piece ps ≡ map row_of_piece qs
index_rows ps qs rs ts same = sym (rows_of_index ps rs) ∙ ap (λ (i : Index). i.rows) same ∙ rows_of_index qs ts

-- ---- the tables of two images

module _ (standing : StandingBlocks) (spelling : Spelling) (image other : Image) where
  same_blocks : (t : Opened) (u : Table) → TableAgrees spelling t u image → TableAgrees spelling t u other → blocks_on t image ≡ blocks_on t other
  same_blocks t u here there =
      let entries : joined here.blocks ≡ joined there.blocks = sym (ap (λ (v : Table). v.entries) here.table_is) ∙ ap (λ (v : Table). v.entries) there.table_is in
      let a = here.stands.at in
      let b = there.stands.at in
      let rows = index_rows a.pieces b.pieces a.ranges b.ranges (sym here.stands.index_is ∙ there.stands.index_is) in
      let lasts = ap (map last_key) (sym a.read) ∙ rows_lasts a.pieces b.pieces rows ∙ ap (map last_key) b.read in
      let cut = same_cut is_any here.blocks there.blocks (each_some spelling t here.blocks image here.stands) (each_some spelling t there.blocks other there.stands) entries lasts a.table.rising in
      (standing spelling t here.blocks image here.stands).on_device ∙ cut ∙ sym (standing spelling t there.blocks other there.stands).on_device

  same_at : (opened : List Opened) (tables : List Table) (place : ℕ) → TablesAgree spelling opened tables image → TablesAgree spelling opened tables other
      → blocks_in (slice_get opened place) image ≡ blocks_in (slice_get opened place) other
  same_at [] [] place here there = refl
  same_at [] (u ∷ tables) place here there = absurd here
  same_at (t ∷ more) [] place here there = absurd here
  same_at (t ∷ more) (u ∷ tables) zero here there = same_blocks t u here.0 there.0
  same_at (t ∷ more) (u ∷ tables) (suc place) here there = same_at more tables place here.1 there.1

  module _ (opened : List Opened) (tables : List Table) (here : TablesAgree spelling opened tables image) (there : TablesAgree spelling opened tables other) where
    left_same : (floor : KeyFloor) (walks : List TableWalk) → map (left_above floor opened image) walks ≡ map (left_above floor opened other) walks
    left_same floor [] = refl
    left_same floor (w ∷ more) =
        ap₂ (λ (xs : List Entry) (l : List (List Entry)). xs ∷ l)
        (ap (λ (blocks : List (List Entry)). above_floor floor (with_hand w.walk.now (to_come w.walk blocks))) (same_at opened tables (length opened - 1 - w.number) here there))
        (left_same floor more)

    walks_same : (floor : KeyFloor) (walks : List TableWalk) → AreSoundWalks floor opened image walks → AreSoundWalks floor opened other walks
    walks_same floor [] sound = tt
    walks_same floor (w ∷ more) sound =
        (subst (IsSoundWalk floor w.walk) (same_at opened tables (length opened - 1 - w.number) here there) sound.0, walks_same floor more sound.1)

    pub sound_same : (m : Merge) → IsSoundMerge m opened image → IsSoundMerge m opened other
    sound_same m sound = record { memory = sound.memory; walks = walks_same m.floor m.walks sound.walks }

    pub outputs_same : (m : JobValue) → outputs_left m opened image ≡ outputs_left m opened other
    outputs_same m =
        ap (λ (l : List (List Entry)). outputs_with m.beside m.built (lasting m.drops (rows_shown m.merge.drops (merged_rows (above_floor m.merge.floor m.merge.memory ∷ l)))))
        (left_same m.merge.floor m.merge.walks)

pub image_follows : StandingBlocks → OtherImageIsFollowed
image_follows standing spelling s opened image other m job here there made follows =
    let makes = follows.makes in
    record {
      settings = follows.settings;
      inputs = follows.inputs;
      output = follows.output;
      to_read = follows.to_read;
      left = follows.left;
      left_are = follows.left_are;
      makes = record {
        sound = sound_same standing spelling image other opened s.tables here there m.merge makes.sound;
        left_are = sym (outputs_same standing spelling image other opened s.tables here there m) ∙ makes.left_are;
        rows = makes.rows;
        made_are = made;
      };
    }
