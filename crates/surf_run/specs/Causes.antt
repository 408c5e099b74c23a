-- Why a run ends, what it may change, and what never falls.
use Rattle.std.specs.Prelude.{◌≡◌, ◌⊎◌, ◌≤◌, ◌*◌, ◌++◌, List, true}
use Rattle.block_model.specs.Pages.{page_bytes}
use Rattle.byte_fields.specs.declared.parts.Damage.{Damage}
use Rattle.disk_trait.specs.World.{Image, World}
use Rattle.line_model.specs.Replies.{Reply, text_of}
use Rattle.line_model.specs.Replies as line
use Rattle.line_model.specs.Requests.{Compact, Count, Get, Range, Request, Seek}
use Rattle.lines_in.specs.Causes.{WritesWithin}
use Rattle.map_model.specs.SortedMap.{Bytes}
use Rattle.state_model.specs.PlayLaws.{has_slice}
use Rattle.state_model.specs.Script.{Onward, turn_of}
use Rattle.store_search.specs.Searching.{IsFaultIn}
use Rattle.store_core.specs.Scans.{IsScanShown}
use Rattle.store_core.specs.StoreValue.{StoreValue}
use Rattle.store_core.specs.declared.error.StoreError.{StoreError}
use Rattle.store_core.specs.declared.error.StoreError.TheVariants as error
use Rattle.table_file.specs.Opened.{Opened}
use Rattle.table_file.specs.declared.fault.TableFault.TheVariants.{Damaged}

-- A store has as many pages as before, and nothing changes beyond them.
pub record WithinPages (store new : StoreValue) (a b : World) : Type 0 where
  pub pages : new.manifest.version.pages ≡ store.manifest.version.pages
  pub within : WritesWithin (page_bytes * store.manifest.version.pages) a b

-- what is so where a call of the device failed
abbrev pub IfDevice : Type 0 → StoreError → Type 0
IfDevice Holds (error.Device cause) = Holds
IfDevice Holds other = Unit {0}

-- damage that a request meets on an image: of a get that of the block which is read for its key in one of these tables, of a seek,
-- a range, a count and a compaction that of some block of one of them
abbrev pub IsMetBy : List Opened → Request → Image → Damage → Type 0
IsMetBy tables (Get key) image damage = IsFaultIn tables key image (Damaged damage)
IsMetBy tables (Seek lo hi) image damage = IsScanShown tables image (error.Damaged damage)
IsMetBy tables (Range lo hi n) image damage = IsScanShown tables image (error.Damaged damage)
IsMetBy tables (Count lo hi) image damage = IsScanShown tables image (error.Damaged damage)
IsMetBy tables Compact image damage = IsScanShown tables image (error.Damaged damage)
IsMetBy tables request image damage = ⊥

-- What was said ends with the damage of a block that the request reads in one of these tables. The device shows it: the block has
-- another sum than the one that the table's index keeps, or where the sum agrees, this rule is the first that it breaks.
pub record SaysDamage (tables : List Opened) (request : Request) (w : World) : Type 0 where
  pub damage : Damage
  pub shown : IsMetBy tables request w.seen.held damage
  pub before : Bytes
  pub said : w.beside.said ≡ before ++ text_of (line.Damaged damage)

-- the same of some tables and some request
abbrev pub SaysSomeDamage : World → Type 0
SaysSomeDamage w = (tables : List Opened) × (request : Request) × SaysDamage tables request w

-- A merge slice read a block of one of these tables that has this damage, as the device shows it; nothing is said of it.
pub record MeetsDamage (tables : List Opened) (w : World) : Type 0 where
  pub damage : Damage
  pub shown : IsScanShown tables w.seen.held (error.Damaged damage)

-- what was said ends with a whole reply that is not the last
abbrev pub EndsOnward : World → Type 0
EndsOnward w = (reply : Reply) × (before : Bytes) × (turn_of reply ≡ Onward) × (w.beside.said ≡ before ++ text_of reply)

-- some tables, and a reply before the merge slice, which was said whole
abbrev pub MeetsSomeDamage : World → Type 0
MeetsSomeDamage w = (tables : List Opened) × EndsOnward w × MeetsDamage tables w

-- where bytes are told: the damage of these tables that a request met
abbrev pub LineShows : Type 0 → List Opened → Request → World → Type 0
LineShows Told tables request w = Told → SaysDamage tables request w

-- that of these tables which a merge slice met
abbrev pub SliceShows : Type 0 → List Opened → World → Type 0
SliceShows Told tables w = Told → MeetsDamage tables w

-- the one of the tables before a line, or, after a put and a delete whose reply was said, the other of those after it
abbrev pub ServedShows : Type 0 → List Opened → List Opened → Request → World → Type 0
ServedShows Told tables later request w = Told → SaysDamage tables request w ⊎ ((has_slice request ≡ true) × EndsOnward w × MeetsDamage later w)

-- some damage
abbrev pub ShowsSomeDamage : World → Type 0
ShowsSomeDamage w = SaysSomeDamage w ⊎ MeetsSomeDamage w

-- a merge slice met damage of some tables, and nothing was said since the first world
abbrev pub MeetsUnsaid : World → World → Type 0
MeetsUnsaid old new = (tables : List Opened) × MeetsDamage tables new × (new.beside.said ≡ old.beside.said)

-- the damage that a run ends with: that of a line, or, of a load, that of a merge slice, of which nothing is said
abbrev pub RunMeetsDamage : Type 0 → World → World → Type 0
RunMeetsDamage IsALoad old new = ShowsSomeDamage new ⊎ (IsALoad × MeetsUnsaid old new)

abbrev pub RunShows : Type 0 → World → Type 0
RunShows Told w = Told → ShowsSomeDamage w
