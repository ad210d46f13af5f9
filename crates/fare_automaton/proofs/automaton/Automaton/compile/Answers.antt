-- Each table is what it is said to be.
use Rattle.fare_automaton.proofs.automaton.Automaton.compile.Goals as goal

pub reads_of_groups-requires : goal.reads_of_groups-requires
reads_of_groups-requires c = c.in_ok-transfer_rules.ensures

pub rows_of_pairs-requires : goal.rows_of_pairs-requires
rows_of_pairs-requires c = c.in_ok-transfer_rules.ensures

pub invariant_of-result : goal.invariant_of-result
invariant_of-result c =
    (c.in_ok-leg_rules.ensures, c.in_ok-transfer_rules.ensures, c.in_ok-reads.ensures, c.in_ok-opened.ensures, c.floor_of-floor.ensures, c.in_ok-pairs.ensures.rows)
