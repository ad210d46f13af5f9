use Rattle.std.proofs.Common.{◌≡◌, ℕ, List, [], length, Some, true}
use Rattle.item_groups.specs.Parts.{parts, Rise}
use Rattle.feed_text.specs.Reader.{StandsBehind, is_going}
use Rattle.feed_text.proofs.table.table_of.Given as goal

abbrev pub invariant-loop : goal.invariant-loop
invariant-loop l = record {
  rows : Rise 0 l.ends.items (length l.fields);
  count : length l.ends.items ≡ l.counter;
  going : is_going l.records ≡ true;
  stands : (text : List ℕ) → StandsBehind (λ s. Some s.now) (Some text) [] l.fn.records → StandsBehind (λ s. Some s.now) (Some text) (parts 0 l.ends.items l.fields) l.records;
}
