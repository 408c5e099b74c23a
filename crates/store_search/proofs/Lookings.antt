-- What is looked for in tables of which some blocks are kept.
use Rattle.std.proofs.Common.{◌≡◌, inl, inr, ◌≤◌, ◌<◌, ◌+◌, ℕ, suc, Bool, true, false, cond, List, [], ◌∷◌, length, take, refl, sym, ap, subst, ◌∙◌, arith}
use Rattle.std.specs.Bool.{then_some}
use Rattle.std.specs.Option.{option_map, option_or}
use Rattle.std.specs.Prelude.{is_some, IfSome, Option, Some, None}
use Rattle.block_cache.specs.Kept.{BlockPlace, KeptBlock, kept_of}
use Rattle.block_model.specs.BlockReading.{block_in}
use Rattle.block_model.specs.Laws.{joined}
use Rattle.disk_trait.proofs.Calls.{reads_more, reads_then}
use Rattle.disk_trait.specs.Image.{Image}
use Rattle.disk_trait.specs.World.{ReadMoves, World}
use Rattle.entry_model.specs.Entries.{Entry}
use Rattle.entry_model.specs.Newest.{lookup}
use Rattle.filter_api.specs.Spellings.{Spelling}
use Rattle.map_model.specs.SortedMap.{Bytes}
use Rattle.state_model.specs.Bounds.{searched, unless_found}
use Rattle.state_model.specs.WithoutRanges.{first_found}
use Rattle.store_search.specs.Caching.{AreNumbered, AreSame, BlockAgrees, CacheAgrees, Cached, LeavesKept, SaysOf, cache_number, past_cache, reads_for, said_by, unkept, unkept_named}
use Rattle.store_search.specs.Searching.{IsBlockIn, IsFoundAt, IsReadIn, IsSpotIn, MayKeepRead, entries_by_table, said_in}
use Rattle.store_search.specs.TablesAgree.{TableAgrees, TablesAgree}
use Rattle.store_search.specs.declared.searching.BlockRead.{BlockRead}
use Rattle.store_search.specs.declared.searching.Spot.{Spot}
use Rattle.store_search.specs.declared.searching.Spot.TheVariants as spot
use Rattle.store_search.proofs.Caches.{first_stays, number_more, numbered_kept, numbered_same, true_kept, true_past, true_same}
use Rattle.store_search.proofs.Founds.{held_entries}
use Rattle.store_search.proofs.ReadBounds.{read_where_searched}
use Rattle.table_file.specs.Laws.{StandingKeys}
use Rattle.table_file.specs.Opened.{Opened}
use Rattle.table_file.specs.Search.{block_for}
use Rattle.table_model.specs.Tables.{Table}

-- ---- the first of some tables, and the others

module _ (spelling : Spelling) (first : Opened) (more : List Opened) (image : Image) (P : List Opened → List Table → Type 0)
    (cells : (t : Table) (older : List Table) → TableAgrees spelling first t image → TablesAgree spelling more older image → P (first ∷ more) (t ∷ older)) where
  of_cells : (states : List Table) → TablesAgree spelling (first ∷ more) states image → P (first ∷ more) states
  of_cells [] held = elim held [ ]
  of_cells (t ∷ older) held = cells t older held.0 held.1

  pub by_first : (opened : List Opened) (states : List Table) → opened ≡ first ∷ more → TablesAgree spelling opened states image → P opened states
  by_first opened states split held =
      subst (λ (ts : List Opened). P ts states) (sym split) (of_cells states (subst (λ (ts : List Opened). TablesAgree spelling ts states image) split held))

-- ---- what is said

-- kept blocks of the first table say what its blocks say
pub first_says : (spelling : Spelling) (first : Opened) (more : List Opened) (t : Table) (older : List Table) (image : Image) (blocks : Cached) (held : TableAgrees spelling first t image)
    → CacheAgrees blocks (first ∷ more) (t ∷ older) → (n : ℕ) (bytes : Bytes) → kept_of (cache_number blocks.first (length more), n) blocks.kept ≡ Some bytes → SaysOf n bytes first (joined held.blocks)
first_says spelling first more t older image blocks held are n bytes is key named =
    (are (cache_number blocks.first (length more), n) bytes is).0 refl key named ∙ ap (λ (es : List Entry). lookup es key) (held_entries spelling first t image held)

pub older_true : (blocks : Cached) (first : Opened) (more : List Opened) (t : Table) (older : List Table) → CacheAgrees blocks (first ∷ more) (t ∷ older) → CacheAgrees blocks more older
older_true blocks first more t older are place bytes is = (are place bytes is).1

-- the first has no entry of the key
module _ (spelling : Spelling) (first : Opened) (t : Table) (image : Image) (held : TableAgrees spelling first t image) (key : Bytes)
    (none : None ≡ lookup (joined held.blocks) key) where
  pub no_entry : lookup t.entries key ≡ None
  no_entry = ap (λ (es : List Entry). lookup es key) (held_entries spelling first t image held) ∙ sym none

  pub said_next : (older : List Table) (said : Option (Option Bytes)) → said ≡ first_found (entries_by_table older) key → said ≡ first_found (entries_by_table (t ∷ older)) key
  said_next older said is = is ∙ ap (λ (o : Option (Option Bytes)). option_or o (first_found (entries_by_table older) key)) (sym no_entry)

-- what was found somewhere is an entry
pub found_some : (at : Spot) (buffer : Bytes) (kept : List KeptBlock) (key : Bytes) → IsFoundAt at buffer kept key → is_some (said_in (Some at) buffer kept key) ≡ true
found_some (spot.InBuffer size) buffer kept key found = found.some
found_some (spot.InCache number block) buffer kept key found = found.some

-- ---- how many blocks are read

reads_same : (old new : Cached) (number : ℕ) (named : Option ℕ) → AreSame old new → reads_for new.kept number named ≡ reads_for old.kept number named
reads_same old new number None same = refl
reads_same old new number (Some n) same = ap (λ (o : Option Bytes). cond (is_some o) 0 1) (same.kept (number, n))

pub unkept_same : (old new : Cached) (key : Bytes) (opened : List Opened) (tables : List Table) → AreSame old new → unkept new key opened tables ≡ unkept old key opened tables
unkept_same old new key [] tables same = refl
unkept_same old new key (o ∷ more) [] same = refl
unkept_same old new key (o ∷ more) (t ∷ tables) same =
    let number = ap (λ (n : ℕ). cache_number n (length more)) same.first in
    ap (λ (k : ℕ). reads_for new.kept k (block_for o key) + unless_found (lookup t.entries key) (unkept new key more tables)) number
    ∙ ap (λ (r : ℕ). r + unless_found (lookup t.entries key) (unkept new key more tables)) (reads_same old new (cache_number old.first (length more)) (block_for o key) same)
    ∙ ap (λ (u : ℕ). reads_for old.kept (cache_number old.first (length more)) (block_for o key) + unless_found (lookup t.entries key) u) (unkept_same old new key more tables same)

pub unkept_first : (blocks : Cached) (key : Bytes) (first : Opened) (more : List Opened) (t : Table) (older : List Table)
    → reads_for blocks.kept (cache_number blocks.first (length more)) (block_for first key) ≤ unkept blocks key (first ∷ more) (t ∷ older)
unkept_first blocks key first more t older = omega arith

pub unkept_next : (blocks : Cached) (key : Bytes) (first : Opened) (more : List Opened) (t : Table) (older : List Table) → lookup t.entries key ≡ None
    → unkept blocks key (first ∷ more) (t ∷ older) ≡ reads_for blocks.kept (cache_number blocks.first (length more)) (block_for first key) + unkept blocks key more older
unkept_next blocks key first more t older none =
    ap (λ (o : Option (Option Bytes)). reads_for blocks.kept (cache_number blocks.first (length more)) (block_for first key) + unless_found o (unkept blocks key more older)) none

pub named_same : (old new : Cached) (key : Bytes) (opened : List Opened) → AreSame old new → unkept_named new key opened ≡ unkept_named old key opened
named_same old new key [] same = refl
named_same old new key (o ∷ more) same =
    ap (λ (n : ℕ). reads_for new.kept (cache_number n (length more)) (block_for o key) + unkept_named new key more) same.first
    ∙ ap (λ (r : ℕ). r + unkept_named new key more) (reads_same old new (cache_number old.first (length more)) (block_for o key) same)
    ∙ ap (λ (u : ℕ). reads_for old.kept (cache_number old.first (length more)) (block_for o key) + u) (named_same old new key more same)

-- whatever the device is
module _ (blocks : Cached) (key : Bytes) (first : Opened) (more tables : List Opened) (split : tables ≡ first ∷ more) (number : ℕ) (is : number ≡ cache_number blocks.first (length more)) (a b : World)
    (here : ReadMoves (reads_for blocks.kept number (block_for first key)) a b) where
  of_number : ReadMoves (reads_for blocks.kept (cache_number blocks.first (length more)) (block_for first key)) a b
  of_number = subst (λ (n : ℕ). ReadMoves (reads_for blocks.kept n (block_for first key)) a b) is here

  pub named_first : ReadMoves (unkept_named blocks key tables) a b
  named_first = subst (λ (ts : List Opened). ReadMoves (unkept_named blocks key ts) a b) (sym split) (reads_more _ _ a b (omega arith) of_number)

  pub named_next : (mid : Cached) → AreSame blocks mid → (d : World) → ReadMoves (unkept_named mid key more) b d → ReadMoves (unkept_named blocks key tables) a d
  named_next mid same d later =
      subst (λ (ts : List Opened). ReadMoves (unkept_named blocks key ts) a d) (sym split)
      (reads_then _ _ a b d of_number (subst (λ (n : ℕ). ReadMoves n b d) (named_same blocks mid key more same) later))

-- ---- the block that was read last

-- one of the first table
pub first_true : (first : ℕ) (o : Opened) (more : List Opened) (t : Table) (older : List Table) (number block : ℕ) (bytes : Bytes) → number ≡ cache_number first (length more) → number < past_cache
    → SaysOf block bytes o t.entries → BlockAgrees first (number, block) bytes (o ∷ more) (t ∷ older)
first_true first o more t older number block bytes is given says = ((λ _. says), true_past first (number, block) bytes more older (omega (arith, is, given)))

-- one of an older table
pub next_true : (first : ℕ) (o : Opened) (more : List Opened) (t : Table) (older : List Table) (number block : ℕ) (bytes : Bytes) → number < cache_number first (length more)
    → BlockAgrees first (number, block) bytes more older → BlockAgrees first (number, block) bytes (o ∷ more) (t ∷ older)
next_true first o more t older number block bytes less is = ((λ same. absurd (omega (arith, same, less))), is)

module _ (read : Option BlockRead) (buffer : Bytes) (old mid new : Cached) (same : AreSame old mid) (keeps : MayKeepRead read buffer mid new) where
  pub kept_true : (opened : List Opened) (tables : List Table)
      → IfSome read (λ r. r.number < past_cache → BlockAgrees old.first (r.number, r.block) (take r.size buffer) opened tables) → CacheAgrees old opened tables → CacheAgrees new opened tables
  kept_true opened tables is are = by_read read keeps is
    where
      now : CacheAgrees mid opened tables
      now = true_same old mid opened tables same are

      by_read : (o : Option BlockRead) → MayKeepRead o buffer mid new → IfSome o (λ r. r.number < past_cache → BlockAgrees old.first (r.number, r.block) (take r.size buffer) opened tables) → CacheAgrees new opened tables
      by_read None stays _ = subst (λ (c : Cached). CacheAgrees c opened tables) (sym stays) now
      by_read (Some r) more of =
          true_kept (r.number, r.block) (take r.size buffer) mid new opened tables more
          (λ given. subst (λ (n : ℕ). BlockAgrees n (r.number, r.block) (take r.size buffer) opened tables) (sym same.first) (of given)) now

  pub kept_numbered : (tables : ℕ) → IfSome read (λ r. IsReadIn r buffer mid tables) → AreNumbered old tables → AreNumbered new tables
  kept_numbered tables is numbered = by_read read keeps is
    where
      now : AreNumbered mid tables
      now = numbered_same old mid tables same numbered

      by_read : (o : Option BlockRead) → MayKeepRead o buffer mid new → IfSome o (λ r. IsReadIn r buffer mid tables) → AreNumbered new tables
      by_read None stays _ = subst (λ (c : Cached). AreNumbered c tables) (sym stays) now
      by_read (Some r) more of = numbered_kept (r.number, r.block) (take r.size buffer) mid new tables more of.given now

-- no kept block is lost but to that one
pub kept_left : (read : Option BlockRead) (buffer : Bytes) (old mid new : Cached) → AreSame old mid → MayKeepRead read buffer mid new → LeavesKept old new
kept_left None buffer old mid new same keeps = record { mid = mid; same = same; more = inl keeps }
kept_left (Some r) buffer old mid new same keeps = record { mid = mid; same = same; more = inr ((r.number, r.block), take r.size buffer, keeps) }

-- what was found stays
pub said_stays : (found : Option Spot) (read : Option BlockRead) (buffer key : Bytes) (mid new : Cached) (tables : ℕ) → IfSome found (λ at. IsFoundAt at buffer mid.kept key)
    → IfSome read (λ r. IsReadIn r buffer mid tables) → MayKeepRead read buffer mid new → said_in found buffer new.kept key ≡ said_in found buffer mid.kept key
said_stays None read buffer key mid new tables at is keeps = refl
said_stays (Some (spot.InBuffer size)) read buffer key mid new tables at is keeps = refl
said_stays (Some (spot.InCache number block)) None buffer key mid new tables at is keeps = ap (λ (c : Cached). said_by (kept_of (number, block) c.kept) key) keeps
said_stays (Some (spot.InCache number block)) (Some r) buffer key mid new tables at is keeps =
    ap (λ (o : Option Bytes). said_by o key) (first_stays (r.number, r.block) (number, block) (take r.size buffer) mid new keeps is.new at.first)

-- ---- one table

pub some_of_map : {A B : Type 0} (f : A → B) (o : Option A) → is_some (option_map f o) ≡ is_some o
some_of_map f None = refl
some_of_map f (Some x) = refl

pub none_of : {A : Type 0} (o : Option A) → is_some o ≡ false → o ≡ None
none_of None is = refl
none_of (Some x) is = absurd cc

-- a block that was read
module _ (size : ℕ) (buffer key : Bytes) (kept : List KeptBlock) where
  pub found_read : (has : Bool) → IsBlockIn size buffer → has ≡ is_some (lookup (block_in (take size buffer)) key) → IfSome (then_some has (spot.InBuffer size)) (λ at. IsFoundAt at buffer kept key)
  found_read true block is = record { block = block; some = sym is }
  found_read false block is = tt

  pub said_read : (has : Bool) → has ≡ is_some (lookup (block_in (take size buffer)) key) → said_in (then_some has (spot.InBuffer size)) buffer kept key ≡ lookup (block_in (take size buffer)) key
  said_read true is = refl
  said_read false is = sym (none_of (lookup (block_in (take size buffer)) key) (sym is))

-- one that is kept
pub said_kept : (o : Option Bytes) (key : Bytes) (said : Option (Option Bytes)) → is_some o ≡ true → ((bytes : Bytes) → o ≡ Some bytes → lookup (block_in bytes) key ≡ said) → said_by o key ≡ said
said_kept None key said some is = absurd cc
said_kept (Some bytes) key said some is = is bytes refl

pub not_kept : (blocks : Cached) (place : BlockPlace) (has : Bool) → has ≡ is_some (kept_of place blocks.kept) → has ≡ false → kept_of place blocks.kept ≡ None
not_kept blocks place has is missed = none_of (kept_of place blocks.kept) (sym is ∙ missed)

-- how often it is read
pub none_named : (kept : List KeptBlock) (number : ℕ) (named : Option ℕ) → named ≡ None → reads_for kept number named ≡ 0
none_named kept number named is = ap (reads_for kept number) is

pub read_as : (kept : List KeptBlock) (number n : ℕ) (named : Option ℕ) (has : Bool) → named ≡ Some n → has ≡ is_some (kept_of (number, n) kept) → reads_for kept number named ≡ cond has 0 1
read_as kept number n named has is so = ap (reads_for kept number) is ∙ ap (λ (b : Bool). cond b 0 1) (sym so)

pub at_most_one : (kept : List KeptBlock) (number : ℕ) (named : Option ℕ) → reads_for kept number named ≤ 1
at_most_one kept number None = omega arith
at_most_one kept number (Some n) = elim (is_some (kept_of (number, n) kept)) as (λ b. cond b 0 1 ≤ 1) [ true ↦ omega arith | false ↦ omega arith ]

pub named_few : (blocks : Cached) (key : Bytes) (opened : List Opened) → unkept_named blocks key opened ≤ length opened
named_few blocks key [] = omega arith
named_few blocks key (o ∷ more) = omega (arith, at_most_one blocks.kept (cache_number blocks.first (length more)) (block_for o key), named_few blocks key more)

-- ---- the first of some tables was looked in

pub found_said : (found : Option Spot) (buffer : Bytes) (kept : List KeptBlock) (key : Bytes) → is_some found ≡ true → IfSome found (λ at. IsFoundAt at buffer kept key) → is_some (said_in found buffer kept key) ≡ true
found_said None buffer kept key some is = absurd cc
found_said (Some at) buffer kept key some is = found_some at buffer kept key is

pub nothing_said : (found : Option Spot) (buffer : Bytes) (kept : List KeptBlock) (key : Bytes) → is_some found ≡ false → said_in found buffer kept key ≡ None
nothing_said found buffer kept key none = ap (λ (o : Option Spot). said_in o buffer kept key) (none_of found none)

-- a block of it was read, if one was
abbrev pub IsReadHere : BlockRead → ℕ → Bytes → Cached → Type 0
IsReadHere r number buffer blocks = (r.number ≡ number) × IsBlockIn r.size buffer × (kept_of (number, r.block) blocks.kept ≡ None)

pub read_first : (read : Option BlockRead) (buffer : Bytes) (blocks : Cached) (number behind : ℕ) → number ≡ cache_number blocks.first behind → IfSome read (λ r. IsReadHere r number buffer blocks)
    → IfSome read (λ r. IsReadIn r buffer blocks (suc behind))
read_first None buffer blocks number behind is here = tt
read_first (Some r) buffer blocks number behind is here = record {
  block = here.1;
  given = λ given. omega (arith, here.0, is, given);
  new = subst (λ (n : ℕ). kept_of (n, r.block) blocks.kept ≡ None) (sym here.0) here.2;
}

module _ (spelling : Spelling) (first : Opened) (more : List Opened) (t : Table) (older : List Table) (image : Image) (held : TableAgrees spelling first t image)
    (blocks : Cached) (number : ℕ) (is : number ≡ cache_number blocks.first (length more)) where
  -- it says what its table says
  pub read_true : (read : Option BlockRead) (buffer : Bytes) (after : Cached) → IfSome read (λ r. IsReadHere r number buffer after) → IfSome read (λ r. SaysOf r.block (take r.size buffer) first (joined held.blocks))
      → IfSome read (λ r. r.number < past_cache → BlockAgrees blocks.first (r.number, r.block) (take r.size buffer) (first ∷ more) (t ∷ older))
  read_true None buffer after here says = tt
  read_true (Some r) buffer after here says = λ given.
      first_true blocks.first first more t older r.number r.block (take r.size buffer) (here.0 ∙ is) given
      (λ key named. says key named ∙ ap (λ (es : List Entry). lookup es key) (sym (held_entries spelling first t image held)))

  pub says_of_number : CacheAgrees blocks (first ∷ more) (t ∷ older) → (n : ℕ) (bytes : Bytes) → kept_of (number, n) blocks.kept ≡ Some bytes → SaysOf n bytes first (joined held.blocks)
  says_of_number are n bytes at =
      first_says spelling first more t older image blocks held are n bytes (subst (λ (k : ℕ). kept_of (k, n) blocks.kept ≡ Some bytes) is at)

-- ---- and then the older ones

-- the block that was read last
module _ (old mid new : Cached) (same : AreSame old mid) (later_same : AreSame mid new) (number behind : ℕ) (is : number ≡ cache_number old.first behind) (before after : Bytes) where
  pub read_later : (later here : Option BlockRead) → IfSome later (λ r. IsReadIn r after new behind) → (later ≡ None → after ≡ before) → IfSome here (λ r. IsReadHere r number before mid)
      → IfSome (option_or later here) (λ r. IsReadIn r after new (suc behind))
  read_later (Some r) here there stays of = record {
    block = there.block;
    given = λ given. omega (arith, there.given given, number_more new.first behind);
    new = there.new;
  }
  read_later None None there stays of = tt
  read_later None (Some r) there stays of =
      let first_is : new.first ≡ old.first = later_same.first ∙ same.first in
      read_first (Some r) after new number behind (is ∙ ap (λ (n : ℕ). cache_number n behind) (sym first_is))
      (of.0, subst (IsBlockIn r.size) (sym (stays refl)) of.1, later_same.kept (number, r.block) ∙ of.2)

  pub unread_both : (later here : Option BlockRead) (first : Bytes) → (later ≡ None → after ≡ before) → (here ≡ None → before ≡ first) → option_or later here ≡ None → after ≡ first
  unread_both None None first stays stayed none = stays refl ∙ stayed refl
  unread_both None (Some r) first stays stayed none = absurd cc
  unread_both (Some r) here first stays stayed none = absurd cc

module _ (old : Cached) (o : Opened) (more : List Opened) (t : Table) (older : List Table) (before after : Bytes) where
  abbrev Says : Option BlockRead → Bytes → List Opened → List Table → Type 0
  Says read buffer ts us = IfSome read (λ r. r.number < past_cache → BlockAgrees old.first (r.number, r.block) (take r.size buffer) ts us)

  pub true_later : (mid new : Cached) (later here : Option BlockRead) → AreSame old mid → AreSame mid new → IfSome later (λ r. IsReadIn r after new (length more))
      → IfSome later (λ r. r.number < past_cache → BlockAgrees mid.first (r.number, r.block) (take r.size after) more older) → (later ≡ None → after ≡ before)
      → Says here before (o ∷ more) (t ∷ older) → Says (option_or later here) after (o ∷ more) (t ∷ older)
  true_later mid new (Some r) here same later_same there says stays of = λ given.
      let first_is : new.first ≡ old.first = later_same.first ∙ same.first in
      next_true old.first o more t older r.number r.block (take r.size after) (subst (λ (n : ℕ). r.number < cache_number n (length more)) first_is (there.given given))
      (subst (λ (n : ℕ). BlockAgrees n (r.number, r.block) (take r.size after) more older) same.first (says given))
  true_later mid new None None same later_same there says stays of = tt
  true_later mid new None (Some r) same later_same there says stays of =
      subst (λ (b : Bytes). Says (Some r) b (o ∷ more) (t ∷ older)) (sym (stays refl)) of

pub place_found : (at : Spot) (buffer : Bytes) (kept : List KeptBlock) (key : Bytes) → IsFoundAt at buffer kept key → IsSpotIn at buffer
place_found (spot.InBuffer size) buffer kept key is = is.block
place_found (spot.InCache number block) buffer kept key is = tt

-- ---- against what the state says

one_more : (kept : List KeptBlock) (number : ℕ) (named : Option ℕ) (said : Option (Option Bytes)) (more later : ℕ) → more ≤ later
    → reads_for kept number named + unless_found said more ≤ cond (is_some named) (suc (unless_found said later)) later
one_more kept number None None more later le = omega (arith, le)
one_more kept number None (Some value) more later le = omega arith
one_more kept number (Some n) None more later le = omega (arith, le, at_most_one kept number (Some n))
one_more kept number (Some n) (Some value) more later le = omega (arith, at_most_one kept number (Some n))

pub unkept_within : (laws : StandingKeys) (spelling : Spelling) (blocks : Cached) (key : Bytes) (image : Image) (opened : List Opened) (states : List Table)
    → TablesAgree spelling opened states image → unkept blocks key opened states ≤ searched key states
unkept_within laws spelling blocks key image [] [] held = omega arith
unkept_within laws spelling blocks key image [] (t ∷ older) held = elim held [ ]
unkept_within laws spelling blocks key image (o ∷ more) [] held = elim held [ ]
unkept_within laws spelling blocks key image (o ∷ more) (t ∷ older) held =
    subst (λ (b : Bool). unkept blocks key (o ∷ more) (t ∷ older) ≤ cond b (suc (unless_found (lookup t.entries key) (searched key older))) (searched key older))
    (read_where_searched laws spelling o t image held.0 key)
    (one_more blocks.kept (cache_number blocks.first (length more)) (block_for o key) (lookup t.entries key) (unkept blocks key more older) (searched key older)
    (unkept_within laws spelling blocks key image more older held.1))
