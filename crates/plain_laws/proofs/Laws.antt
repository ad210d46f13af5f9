-- The laws of this crate, passed on from one place.
pub use Rattle.plain_laws.proofs.AscendingLaws.{past_each, ascending-push, ascending_from_strict, strict_from_ascending}
pub use Rattle.plain_laws.proofs.BelowLaws.{IsFirst, IsLast, NonePass, find_below_none, find_below_hit, find_below_cases, find_below_tells, find_below_some, find_below-same, last_below_none, last_below_hit, last_below_cases, last_below_tells, last_below_some, any_below_hit, any_below_tells, Contains-list_below, list_below_tells, list_any-list_below, collect_below_more, IsCollected, collect_below_tells, collect_below_some, first_below_found, find_below_found, find_below_next, sum_below-same, collect_below-same, all_below-same, length-list_below, slice_get-list_below, list_below-same, get_or-list_below, All-list_below, AllPairs-list_below, All-picks_below, length-picks_below, list_below-each, none_below, none_in, none_any, first_below_next, all_below-at, any_below-same, at_item, first_in_found, first_in_next, at_and-list_below, list_below_more, firsts, found_firsts}
pub use Rattle.plain_laws.proofs.FilterLaws.{filter_none, filter_all, All-take_within, All-drop_within, filter_part, same_ties, Contains-filter, Contains-filter_passes, list_any-map, list_any-flat_map, list_any-filter, list_any_same, list_any_tells, Contains-map, map-tells, Contains-flat_map, flat_map-tells, filter-tells, any_passes, find_none, find-filter, filter-filter, filter-map, IsFound, find-tells, find-some, none_of_both, position_below, any_placed}
pub use Rattle.plain_laws.proofs.InsertLaws.{AllPairs-insert, list_any-insert, All-insert}
pub use Rattle.plain_laws.proofs.JoinedLaws.{Contains-joined_below, joined_below-tells, AllPairs-joined_below, joined_below-same, one_where, joined_below-picks, joined_below-none, joined_below-one, joined_more}
pub use Rattle.plain_laws.proofs.LeastLaws.{HasLeast, least_of_some, any_of_any, list_all-at, list_all-from, list_any-place, HasPlace, place_of_any}
pub use Rattle.plain_laws.proofs.NumberLaws.{less_order, int_lt-true, int_same-true, eq-int_same, int_above, int_le-true, le-int_le, bytes_eq-true, eq-bytes_eq, eqb_turn, int_eq-int_same, then_equal, number_equal}
pub use Rattle.plain_laws.proofs.OptionalLaws.{Filled, filled_and-true, cond_gives, none_either, none_when, none_map, none_given, some_value, option_or-assoc, none_if, option_and_then-assoc, ChainGives, chain_gives, mapped_tells}
pub use Rattle.plain_laws.proofs.OrderLaws.{IsStrictOrder, AllPairs-cons, AllPairs-tail, AllPairs-head, Contains-cons_cases, Contains-cons_first, Contains-cons_later, HaveSameMembers, same_from_members}
pub use Rattle.plain_laws.proofs.PickLaws.{picks_below_all, picks_below_first, picks_below-same, picks_below-none, Contains-picks_below, IsPicked, picks_below-tells, AllPairs-picks_below, picks_from_ascending}
pub use Rattle.plain_laws.proofs.PlaceLaws.{slice_get-push_before, slice_get-push_last, slice_get-append_left, slice_get-append_right, take_short, slice_get-take, slice_get-old_item, slice_get-new_item, All-slice_get, ForItem-slice_get, same-place, same-key, same-keys, All-from, AllPairs-append, Contains-slice_get, slice_get-Contains, none_holds, one_item, no_item, cut_further}
pub use Rattle.plain_laws.proofs.StepLaws.{after_first-same, after_first-append, after_first-cons, after_first-all, after-append, after-push}
pub use Rattle.plain_laws.proofs.TestLaws.{same_test, holds_else, rest_fails, or_false}
