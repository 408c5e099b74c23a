use Rattle.trie_laws.proofs.Forms.{forms_are_sparse, trie_nodes_have_form}
use Rattle.trie_laws.proofs.laws.nodes_have_form.Goals as goal

pub returns : goal.returns
returns c = record { form = trie_nodes_have_form; sparse = forms_are_sparse }
