-- One group more.
use Rattle.std.proofs.Common.{◌≡◌, ◌∙◌, ap, ℕ, length, arith}
use Rattle.plain_laws.specs.Plain.{list_below}
use Rattle.feed_rows.specs.FeedRows.{FeedRows}
use Rattle.fare_automaton.specs.Compiled.{reads_of}
use Rattle.plain_laws.proofs.Laws.{list_below_more}
use Rattle.fare_automaton.proofs.reads.reads_of_groups.Goals as goal

pub loop-group-preserved : goal.loop-group-preserved
loop-group-preserved c =
    list_below_more c.loop-group.group (λ group. reads_of c.args.feed.now (record { 0 = group })) c.loop-group.reads.items
    _ c.reads_of.result c.loop-group.invariant c.in_ok-push.ensures.items c.reads_of.ensures

pub overflow_cast-group : goal.overflow_cast-group
overflow_cast-group c = omega (arith, c.loop-group-test.true, c.items-count.ensures.len, c.feed.invariant.group_names.few)

pub returns : goal.returns
returns c =
    let feed = c.args.feed.now in
    let count : c.loop-group.group ≡ length c.feed.inside.group_names = omega (arith, c.loop-group-test.false, c.loop-group.auto.group-end, c.items-count.ensures.len) in
    c.loop-group.invariant ∙ ap (λ (n : ℕ). list_below n (λ group. reads_of feed (record { 0 = group }))) count
    ∙ ap (λ (f : FeedRows). list_below (length f.group_names) (λ group. reads_of feed (record { 0 = group }))) c.feed.view_is

pub loop-group-init : goal.loop-group-init
loop-group-init c = c.in_ok-reads.ensures.items
