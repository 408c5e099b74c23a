-- How the saying of a reply ended.
use Rattle.std.specs.Prelude.{◌≡◌, ◌⊎◌, ◌++◌, ◌<◌, ◌≤◌, ◌^◌, length}
use Rattle.byte_fields.specs.declared.parts.Damage.TheVariants.{Shape, Sum}
use Rattle.disk_trait.specs.World.{World}
use Rattle.key_base.specs.Limits.{max_key_bytes}
use Rattle.line_model.specs.Replies as line
use Rattle.line_model.specs.Replies.{Reply, text_of}
use Rattle.map_model.specs.SortedMap.{Bytes}
use Rattle.outside.specs.Streams.{SaysPrefix}
use Rattle.store_commands.specs.declared.reply.Reply.{Reply as Spoken}
use Rattle.store_commands.specs.declared.reply.Reply.TheVariants as spoken
use Rattle.lines_in.specs.declared.line_end.LineEnd.{LineEnd}
use Rattle.lines_in.specs.declared.line_end.LineEnd.TheVariants.{End, Next, Quit}
use Rattle.lines_in.specs.Statuses.{device_status, damaged_status, output_status}

-- a reply that a program says: with keys that keep their limit, values of 2^31 bytes at most, and numbers below 2^64
abbrev pub IsShort : Spoken → Type 0
IsShort spoken.Done = Unit {0}
IsShort (spoken.Value value) = length value.now ≤ 2 ^ 31
IsShort spoken.Missing = Unit {0}
IsShort spoken.Bye = Unit {0}
IsShort (spoken.BadLine code) = code < 2 ^ 64
IsShort (spoken.LongKey size) = size < 2 ^ 64
IsShort (spoken.LongValue size) = size < 2 ^ 64
IsShort spoken.ManyTables = Unit {0}
IsShort spoken.LastEpoch = Unit {0}
IsShort (spoken.Full need gap) = (need < 2 ^ 64) × (gap < 2 ^ 64)
IsShort spoken.Memory = Unit {0}
IsShort spoken.Device = Unit {0}
IsShort (spoken.Damaged (Sum part at kept seen)) = at < 2 ^ 64
IsShort (spoken.Damaged (Shape part at rule)) = (at < 2 ^ 64) × (rule < 2 ^ 64)
IsShort (spoken.At key value) = (length key.now ≤ max_key_bytes) × (length value.now ≤ 2 ^ 31)
IsShort (spoken.End count) = count < 2 ^ 64
IsShort (spoken.Counted count) = count < 2 ^ 64
IsShort (spoken.About count) = count < 2 ^ 64
IsShort (spoken.Explained tables admitted blocks) = (tables < 2 ^ 64) × (admitted < 2 ^ 64) × (blocks < 2 ^ 64)

-- the reply was said whole, and this is the end; or only a prefix of it was said, and the run ends with 6
abbrev pub Says : LineEnd → Reply → LineEnd → World → World → Type 0
Says end reply result a b =
    SaysPrefix (text_of reply) a.beside.said b.beside.said × (((result ≡ end) × (b.beside.said ≡ a.beside.said ++ text_of reply)) ⊎ (result ≡ End output_status))

-- the same of a reply after bytes that waited to be said
abbrev pub SaysBehind : Bytes → LineEnd → Reply → LineEnd → World → World → Type 0
SaysBehind waits end reply result a b =
    SaysPrefix (waits ++ text_of reply) a.beside.said b.beside.said × (((result ≡ end) × (b.beside.said ≡ a.beside.said ++ (waits ++ text_of reply))) ⊎ (result ≡ End output_status))

-- how a line ends whose reply was said whole
abbrev pub end_by : Reply → LineEnd
end_by line.Bye = Quit
end_by line.Device = End device_status
end_by (line.Damaged damage) = End damaged_status
end_by reply = Next
