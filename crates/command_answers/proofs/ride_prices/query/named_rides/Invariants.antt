use Rattle.plan_words.specs.Rides.{rides_of as words_of}
use Rattle.command_answers.proofs.NameLaws.{AreNamed}
use Rattle.command_answers.proofs.ride_prices.query.named_rides.Given as goal

abbrev pub invariant-loop-k : goal.invariant-loop-k
invariant-loop-k l = AreNamed l.timetable (words_of l.words) l.k l.rides.items
