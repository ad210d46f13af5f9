use Rattle.feed_walks.proofs.rules.rows_from.Goals as goal

pub returns-in-Some : goal.returns-in-Some
returns-in-Some c = λ feed are.
    rw (c.in-Some.is, c.get.ensures) (record { rises = are.rises c.in-Some.stop.0; first = λ to. are.first c.in-Some.stop.0 to.0 })
