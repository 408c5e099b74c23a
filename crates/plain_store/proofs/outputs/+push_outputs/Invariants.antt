use Rattle.plain_store.proofs.outputs.+push_outputs.Given as goal

abbrev pub decreases-push_outputs : goal.decreases-push_outputs
decreases-push_outputs l = l.beside
