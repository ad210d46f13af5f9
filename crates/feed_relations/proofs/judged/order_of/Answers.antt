use Rattle.std.proofs.Common.{◌≡◌, ap, length, refl, map, arith}
use Rattle.std.proofs.lemmas.Result.{IfOk-weaker}
use Rattle.feed_files.specs.declared.names.FileName.TheVariants as file
use Rattle.feed_faults.specs.FeedTables.{table_in}
use Rattle.feed_faults.specs.Records.{row_count}
use Rattle.stop_order.specs.Numbered.{time_of_row}
use Rattle.feed_relations.specs.JudgedBy.{time_of_call}
use Rattle.feed_relations.proofs.TripNumberLaws.{length_times, times_of_rows, judged_by}
use Rattle.feed_relations.proofs.judged.order_of.Goals as goal

pub order_faults-requires : goal.order_faults-requires
order_faults-requires g c =
    let t = c.args.tables.now in
    let calls = c.args.calls.now in
    let size = ap length (times_of_rows t calls c.requires.calls c.in-Some.rows.now c.in-Some.ensures.there) in
    let long = length_times t calls c.requires.calls in
    let few = c.rows-few.ensures.few in
    let count : c.rows-few.result ≡ row_count (table_in t file.StopTimes) = c.rows-few.ensures.count in
    omega arith

pub returns-in-Some : goal.returns-in-Some
returns-in-Some g c =
    let t = c.args.tables.now in
    let calls = c.args.calls.now in
    let rows = c.in-Some.rows.now in
    let is = times_of_rows t calls c.requires.calls rows c.in-Some.ensures.there in
    IfOk-weaker c.order_faults.result _ _ (λ order said. judged_by t calls c.requires.calls c.requires.named (map time_of_row rows) is order.items said) c.order_faults.ensures.value

pub order_faults-requires-in-None : goal.order_faults-requires-in-None
order_faults-requires-in-None g c =
    let t = c.args.tables.now in
    let long = length_times t c.args.calls.now c.requires.calls in
    let few = c.rows-few.ensures.few in
    let count : c.rows-few.result ≡ row_count (table_in t file.StopTimes) = c.rows-few.ensures.count in
    omega arith

pub returns-in-None : goal.returns-in-None
returns-in-None g c =
    let calls = c.args.calls.now in
    IfOk-weaker c.order_faults-in-None.result _ _
    (λ order said. judged_by c.args.tables.now calls c.requires.calls c.requires.named (map time_of_call calls) refl order.items said) c.order_faults-in-None.ensures.value
