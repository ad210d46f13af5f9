use Rattle.std.proofs.Common.{◌≡◌, ℕ, ◌<◌, [], false, get_or}
use Rattle.std.specs.Prelude.{bytes_eq}
use Rattle.feed_text.specs.Reader.{last_record}
use Rattle.answer_page.proofs.names.place_of.Given as goal

abbrev pub invariant-loop-place : goal.invariant-loop-place
invariant-loop-place l = (k : ℕ) → k < l.place → bytes_eq (get_or (last_record l.records) k []) l.name ≡ false
