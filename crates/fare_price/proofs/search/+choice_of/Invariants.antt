use Rattle.fare_price.proofs.search.+choice_of.Given as goal

abbrev pub decreases-choice_of : goal.decreases-choice_of
decreases-choice_of l = l.changes
