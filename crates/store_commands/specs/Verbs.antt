-- The words of the verbs.
use Rattle.std.specs.Prelude.{codes}
use Rattle.map_model.specs.SortedMap.{Bytes}
use Rattle.store_commands.specs.declared.verb.Verb.{Verb}
use Rattle.store_commands.specs.declared.verb.Verb.TheVariants.{Put, Del, Get, Seek, Range, Count, Estimate, Explain, Flush, Compact, Quit}

-- the word that a verb is spelled by; what it asks with the words behind it is the grammar's `asked_by`
abbrev pub verb_word : Verb → Bytes
verb_word Put = codes "put"
verb_word Del = codes "del"
verb_word Get = codes "get"
verb_word Seek = codes "seek"
verb_word Range = codes "range"
verb_word Count = codes "count"
verb_word Estimate = codes "estimate"
verb_word Explain = codes "explain"
verb_word Flush = codes "flush"
verb_word Compact = codes "compact"
verb_word Quit = codes "quit"
