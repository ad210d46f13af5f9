use Rattle.std.proofs.Common.{◌≡◌, ◌++◌, ◌*◌}
use Rattle.plain_laws.specs.Plain.{joined_below}
use Rattle.feed_rows.specs.GeneratedFeed.{drawn}
use Rattle.feed_maker.specs.Draws.{pace_of}
use Rattle.feed_maker.specs.FileTexts.{timed_lines}
use Rattle.feed_maker.proofs.stop_times.stop_times_file.Given as goal

abbrev pub invariant-loop-route : goal.invariant-loop-route
invariant-loop-route l = record {
  draws : l.draws ≡ drawn l.seed (2 * l.route);
  text : l.file ≡ l.initial.file ++ joined_below l.route (λ i. timed_lines l.lines i (pace_of l.seed i));
}
