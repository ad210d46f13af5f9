-- The words of this crate, passed on from one place.
pub use Rattle.plain_laws.specs.Ascending.{IsAscending, IsPastLast}
pub use Rattle.plain_laws.specs.Below.{all_below, any_below, sum_below, count_below, list_below, picks_below, joined_below, collect_below, first_below, first_in, find_below, last_below, ids_where}
pub use Rattle.plain_laws.specs.Given.{given, given_last, lines_given}
pub use Rattle.plain_laws.specs.Items.{ForItem}
pub use Rattle.plain_laws.specs.Numbers.{int_same}
pub use Rattle.plain_laws.specs.Optional.{empty_or, filled_and, at_and, when, first_of}
pub use Rattle.plain_laws.specs.Steps.{after, after_first}
