use Rattle.round_table.proofs.entries.Part.+of.Given as goal

abbrev pub decreases-of : goal.decreases-of
decreases-of l = l.rides
