-- What a reply says, and how much of it stands in a buffer.
use Rattle.std.specs.Prelude.{◌≡◌, ◌-◌, ℕ, length, take, drop}
use Rattle.map_model.specs.SortedMap.{Bytes}
use Rattle.line_model.specs.Replies as line
use Rattle.store_commands.specs.declared.reply.Reply.{Reply}
use Rattle.store_commands.specs.declared.reply.Reply.TheVariants.{Done, Value, Missing, At, End, Counted, About, Explained, Bye, BadLine, LongKey, LongValue, ManyTables, LastEpoch, Full, Memory, Device, Damaged}

abbrev pub spoken : Reply → line.Reply
spoken Done = line.Done
spoken (Value value) = line.Value value.now
spoken Missing = line.Missing
spoken (At key value) = line.At key.now value.now
spoken (End count) = line.End count
spoken (Counted count) = line.Counted count
spoken (About count) = line.About count
spoken (Explained tables admitted blocks) = line.Explained tables admitted blocks
spoken Bye = line.Bye
spoken (BadLine code) = line.BadLine code
spoken (LongKey size) = line.LongKey size
spoken (LongValue size) = line.LongValue size
spoken ManyTables = line.ManyTables
spoken LastEpoch = line.LastEpoch
spoken (Full need gap) = line.Full need gap
spoken Memory = line.Memory
spoken Device = line.Device
spoken (Damaged damage) = line.Damaged damage

-- the buffer begins with what fits of the text from a place on
pub record HasPiece (from : ℕ) (text : Bytes) (filled skip : ℕ) (buffer : Bytes) : Type 0 where
  pub bytes : take filled buffer ≡ take (length buffer) (drop from text)
  pub size : filled ≡ length (take (length buffer) (drop from text))
  pub rest : skip ≡ from - length text
