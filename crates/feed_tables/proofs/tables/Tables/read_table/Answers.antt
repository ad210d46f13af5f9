use Rattle.std.proofs.Common.{refl, arith}
use Rattle.feed_tables.proofs.NumberLaws.{place_is, first_file, first_table, other_file, other_table, stands_behind}
use Rattle.feed_tables.proofs.tables.Tables.read_table.Goals as goal

pub returns-then-place-lt-STOP_TIMES_PLACE-clause-file : goal.returns-then-place-lt-STOP_TIMES_PLACE-clause-file
returns-then-place-lt-STOP_TIMES_PLACE-clause-file g c =
    let kept = c.self.invariant in
    let is = c.index-self-place.is in
    rw (← is) (first_file c.self.inside.first.now c.self.inside.others.now g.C.CallTable.table kept.first_are kept.others_are c.args.file c.index-self-place.result
    (omega (arith, c.if-place-lt-STOP_TIMES_PLACE.true, place_is c.args.file)) (rw (place_is c.args.file) at is))

pub returns-then-place-lt-STOP_TIMES_PLACE-clause-table : goal.returns-then-place-lt-STOP_TIMES_PLACE-clause-table
returns-then-place-lt-STOP_TIMES_PLACE-clause-table g c =
    let kept = c.self.invariant in
    let is = c.index-self-place.is in
    let table = first_table c.self.inside.first.now c.self.inside.others.now g.C.CallTable.table kept.first_are kept.others_are c.args.file c.index-self-place.result
    (omega (arith, c.if-place-lt-STOP_TIMES_PLACE.true, place_is c.args.file)) (rw (place_is c.args.file) at is) in
    rw (← is, ← c.self.view_is, table) refl

pub returns-else-place-lt-STOP_TIMES_PLACE-clause-file : goal.returns-else-place-lt-STOP_TIMES_PLACE-clause-file
returns-else-place-lt-STOP_TIMES_PLACE-clause-file g c =
    let kept = c.self.invariant in
    let is = c.index-self-place-else-place-lt-STOP_TIMES_PLACE.is in
    let behind = stands_behind c.args.file c.requires (omega (arith, c.if-place-lt-STOP_TIMES_PLACE.false, place_is c.args.file)) in
    rw (← is) (other_file c.self.inside.first.now c.self.inside.others.now g.C.CallTable.table kept.first_are kept.others_are c.args.file c.index-self-place-else-place-lt-STOP_TIMES_PLACE.result
    behind (rw (place_is c.args.file) at is))

pub returns-else-place-lt-STOP_TIMES_PLACE-clause-table : goal.returns-else-place-lt-STOP_TIMES_PLACE-clause-table
returns-else-place-lt-STOP_TIMES_PLACE-clause-table g c =
    let kept = c.self.invariant in
    let is = c.index-self-place-else-place-lt-STOP_TIMES_PLACE.is in
    let behind = stands_behind c.args.file c.requires (omega (arith, c.if-place-lt-STOP_TIMES_PLACE.false, place_is c.args.file)) in
    let table = other_table c.self.inside.first.now c.self.inside.others.now g.C.CallTable.table kept.first_are kept.others_are c.args.file c.index-self-place-else-place-lt-STOP_TIMES_PLACE.result
    behind (rw (place_is c.args.file) at is) in
    rw (← is, ← c.self.view_is, table) refl
