-- The code's replies as the definitions see them.
use Rattle.std.specs.Prelude.{List, length, map}
use Rattle.state_model.specs.State.{State}
use Rattle.line_model.specs.Replies as reply
use Rattle.state_model.specs.Steps as steps
use Rattle.plain_store.specs.declared.answering.Answer.{Answer}
use Rattle.plain_store.specs.declared.answering.Played.{Played}
use Rattle.plain_store.specs.declared.reply.Reply.{Reply}
use Rattle.plain_store.specs.declared.reply.Reply.TheVariants.{Done, Value, Missing, At, Pairs, Counted, About, Explained, Bye, LongKey, LongValue, ManyTables, LastEpoch, Full}

abbrev pub says : Reply → reply.Reply
says Done = reply.Done
says (Value value) = reply.Value value.items
says Missing = reply.Missing
says (At key value) = reply.At key.items value.items
says (Pairs found) = reply.Pairs found (reply.End (length found))
says (Counted count) = reply.Counted count
says (About count) = reply.About count
says (Explained tables admitted blocks) = reply.Explained tables admitted blocks
says Bye = reply.Bye
says (LongKey size) = reply.LongKey size
says (LongValue size) = reply.LongValue size
says ManyTables = reply.ManyTables
says LastEpoch = reply.LastEpoch
says (Full need gap) = reply.Full need gap

-- the code's answer: a reply, and the state after it
abbrev pub answered : Answer → steps.Answer
answered a = (says a.reply, a.state)

-- the code's replies to some requests, and the state that they leave
abbrev pub played_as : Played → List reply.Reply × State
played_as p = (map says p.replies.items, p.state)
