use Rattle.filter_image_model.proofs.ImageTrie.{trie_read}
use Rattle.filter_image_model.proofs.ImageWritten.{image_written}
use Rattle.filter_image_model.proofs.laws.the_trie_is_read.Goals as goal

pub returns : goal.returns
returns c = record { trie = trie_read; image = image_written }
