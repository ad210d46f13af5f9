use Rattle.std.proofs.Common.{◌≡◌, ◌<◌, ◌≤◌, ◌-◌, ◌^◌, take, true, length}
use Rattle.std.specs.Str.{all_ascii_digits}
use Rattle.std.specs.Str.Parse.{digits_value}
use Rattle.feed_text.proofs.numbers.number_of.Given as goal

abbrev pub invariant-loop-b : goal.invariant-loop-b
invariant-loop-b l = record {
  some : 0 < length l.text;
  fits : l.value ≤ 2 ^ 64 - 1;
  digits : all_ascii_digits (take l.b-index l.text) ≡ true;
  value : l.value ≡ digits_value 10 (take l.b-index l.text);
}
