use Rattle.std.proofs.Common.{◌≡◌, ◌++◌, ◌+◌, ◌*◌}
use Rattle.plain_laws.specs.Plain.{joined_below}
use Rattle.feed_maker.specs.FileTexts.{call_lines}
use Rattle.feed_maker.proofs.stop_times.push_timed.Given as goal

abbrev pub invariant-loop-trip : goal.invariant-loop-trip
invariant-loop-trip l =
    l.file
    ≡ l.initial.file
    ++ joined_below l.trip (λ k. call_lines l.lines l.route k (21_600 + 600 * k + 60 * l.pace.offset) l.pace.hop)
