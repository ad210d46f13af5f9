use Rattle.std.proofs.Common.{◌≡◌, None}
use Rattle.std.specs.Prelude.{is_none}
use Rattle.plain_laws.specs.Plain.{find_below}
use Rattle.commands.specs.NumberedItems.{read_at}
use Rattle.feed_rows.specs.RideWords.{ride_word}
use Rattle.plan_words.specs.Rides.{texts_of}
use Rattle.plan_words.proofs.rides.first_unread.Given as goal

abbrev pub invariant-loop-i : goal.invariant-loop-i
invariant-loop-i l = find_below l.i (λ i. is_none (read_at ride_word (texts_of l.texts) i)) ≡ None
