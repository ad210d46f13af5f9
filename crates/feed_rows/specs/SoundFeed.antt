-- What holds of the rows of a feed that has no fault.
use Rattle.feed_rows.specs.FeedRows.{FeedRows}
use Rattle.feed_rows.specs.SoundNames.{IsNameList}
use Rattle.feed_rows.specs.SoundTimetable.{AreSoundStops, AreSoundRoutes, AreSoundTrips, AreSoundStopTimes, AreOrderedCalls, AreSoundServices, AreSoundExceptions, AreSoundFrequencies, AreSoundLinks}
use Rattle.feed_rows.specs.SoundFares.{AreSoundAreas, AreSoundStopAreas, AreSoundTimeframes, AreSoundRiders, AreSoundMedia, AreSoundProducts, AreSoundLegRules, AreSoundTransferRules, AreSoundJoinRules, IsSoundCurrency}

-- what rows show of having no fault: numbers name rows, keys stand once, values are within their limits, times don't fall
pub record IsSoundFeed (feed : FeedRows) : Type 0 where
  pub stops : AreSoundStops feed
  pub routes : AreSoundRoutes feed
  pub trips : AreSoundTrips feed
  pub stop_times : AreSoundStopTimes feed
  pub calls : AreOrderedCalls feed
  pub services : AreSoundServices feed
  pub exceptions : AreSoundExceptions feed
  pub frequencies : AreSoundFrequencies feed
  pub links : AreSoundLinks feed
  pub areas : AreSoundAreas feed
  pub stop_areas : AreSoundStopAreas feed
  pub timeframes : AreSoundTimeframes feed
  pub riders : AreSoundRiders feed
  pub media : AreSoundMedia feed
  pub products : AreSoundProducts feed
  pub leg_rules : AreSoundLegRules feed
  pub transfer_rules : AreSoundTransferRules feed
  pub joins : AreSoundJoinRules feed
  pub service_names : IsNameList feed.service_names
  pub network_names : IsNameList feed.network_names
  pub frame_names : IsNameList feed.frame_names
  pub product_names : IsNameList feed.product_names
  pub group_names : IsNameList feed.group_names
  pub currency : IsSoundCurrency feed
