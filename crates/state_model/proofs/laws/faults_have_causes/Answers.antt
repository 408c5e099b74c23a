use Rattle.state_model.proofs.Causes.{put_refused, del_refused, flush_refused, flush_none, compaction_none, compaction_last, compaction_bare, compaction_cramped, get_of_none, open_bare, seek_of_none, range_of_none, count_of_none, range_none, range_said, range_damaged}
use Rattle.state_model.proofs.laws.faults_have_causes.Goals as goal

pub returns : goal.returns
returns c = record {
  refused_put = put_refused;
  refused_del = del_refused;
  refused_flush = flush_refused;
  flush_of_nothing = flush_none;
  compaction_of_nothing = compaction_none;
  compaction_at_the_last_epoch = compaction_last;
  compaction_without_tables = compaction_bare;
  compaction_without_room = compaction_cramped;
  get_of_no_block = get_of_none;
  open_seek_without_tables = open_bare;
  seek_of_no_block = seek_of_none;
  range_of_no_block = range_of_none;
  count_of_no_block = count_of_none;
  range_of_no_pairs = range_none;
  said_of_a_range = range_said;
  said_of_a_damaged_range = range_damaged;
}
