-- What the rows of accepted tables name is there: each reference is known, and each name stands among the names.
use Rattle.std.proofs.Common.{◌≡◌, refl, ℕ, ◌<◌, ◌⊎◌, inl, inr, Bool, true, false, List, []}
use Rattle.std.specs.Prelude.{◌&&◌, Option, Some, None}
use Rattle.std.proofs.lemmas.Bool.{and_cases}
use Rattle.feed_files.specs.declared.names.FileName.{FileName}
use Rattle.feed_files.specs.declared.names.FileName.TheVariants as file
use Rattle.feed_files.specs.declared.names.ColumnName.{ColumnName}
use Rattle.feed_files.specs.declared.names.ColumnName.TheVariants.{AreaId, FareMediaId, FareProductId, FromAreaId, FromLegGroupId, FromNetworkId, FromStopId, FromTimeframeGroupId, NetworkId, RiderCategoryId, RouteId, StopId, ToAreaId, ToLegGroupId, ToNetworkId, ToStopId, ToTimeframeGroupId, TripId}
use Rattle.feed_faults.specs.Records.{row_count, field, is_filled}
use Rattle.feed_faults.specs.FormFaults.{is_passed_over}
use Rattle.feed_faults.specs.FeedTables.{FeedTables, table_in}
use Rattle.feed_faults.specs.RowKeys.{row_of, is_unknown}
use Rattle.feed_faults.specs.AcceptedFeed.{network_names, frame_names, product_names, group_names, network_of_route}
use Rattle.feed_soundness.specs.AcceptedTables.{AreFormed, AreRelated}
use Rattle.feed_soundness.proofs.KeyLaws.{IsKnown, MayBeKnown, known, row_within}
use Rattle.feed_soundness.proofs.NameLaws.{IsNamed, MayBeNamed}
use Rattle.feed_soundness.proofs.IdColumns.{must_id, trip_of_call, stop_of_call}
use Rattle.feed_soundness.proofs.NameGroups.{AreNamed, AreNamedIfFilled, kept, named_in, own_network_named}

-- the fields of a column are ids of rows of another file, each of them or where it is filled
abbrev pub AreKnown : FeedTables → FileName → ColumnName → FileName → ColumnName → Type 0
AreKnown t name column other key =
    (row : ℕ) → row < row_count (table_in t name) → IsKnown (table_in t other) key (field (table_in t name) row column)

abbrev pub AreKnownIfFilled : FeedTables → FileName → ColumnName → FileName → ColumnName → Type 0
AreKnownIfFilled t name column other key =
    (row : ℕ) → row < row_count (table_in t name) → MayBeKnown (table_in t other) key (field (table_in t name) row column)

module _ (t : FeedTables) (formed : AreFormed t) (related : AreRelated t) where
  pub trip_route_known : AreKnown t file.Trips RouteId file.Routes RouteId
  trip_route_known row lt =
      known _ _ _ (must_id t formed file.Trips row 0 RouteId lt refl).2 (related file.Trips row 1 _ lt refl)

  pub call_trip_known : AreKnown t file.StopTimes TripId file.Trips TripId
  call_trip_known row lt = known _ _ _ (trip_of_call t formed row lt).2 (related file.StopTimes row 0 _ lt refl)

  pub call_stop_known : AreKnown t file.StopTimes StopId file.Stops StopId
  call_stop_known row lt = known _ _ _ (stop_of_call t formed row lt).2 (related file.StopTimes row 1 _ lt refl)

  pub frequency_trip_known : AreKnown t file.Frequencies TripId file.Trips TripId
  frequency_trip_known row lt =
      known _ _ _ (must_id t formed file.Frequencies row 0 TripId lt refl).2 (related file.Frequencies row 0 _ lt refl)

  pub area_known : AreKnown t file.StopAreas AreaId file.Areas AreaId
  area_known row lt =
      known _ _ _ (must_id t formed file.StopAreas row 0 AreaId lt refl).2 (related file.StopAreas row 0 _ lt refl)

  pub area_stop_known : AreKnown t file.StopAreas StopId file.Stops StopId
  area_stop_known row lt =
      known _ _ _ (must_id t formed file.StopAreas row 1 StopId lt refl).2 (related file.StopAreas row 1 _ lt refl)

  -- of a row of transfers.txt that isn't passed over
  pub transfer_from_known : (row : ℕ) → row < row_count (table_in t file.Transfers) → is_passed_over (field (table_in t file.Transfers) row) ≡ false
      → IsKnown (table_in t file.Stops) StopId (field (table_in t file.Transfers) row FromStopId)
  transfer_from_known row lt taken =
      known _ _ _ (must_id t formed file.Transfers row 1 FromStopId lt (rw taken refl)).2
      (rw taken at (related file.Transfers row 0 _ lt refl))

  pub transfer_to_known : (row : ℕ) → row < row_count (table_in t file.Transfers) → is_passed_over (field (table_in t file.Transfers) row) ≡ false
      → IsKnown (table_in t file.Stops) StopId (field (table_in t file.Transfers) row ToStopId)
  transfer_to_known row lt taken =
      known _ _ _ (must_id t formed file.Transfers row 2 ToStopId lt (rw taken refl)).2
      (rw taken at (related file.Transfers row 1 _ lt refl))

module _ (t : FeedTables) (related : AreRelated t) where
  pub product_rider_known : AreKnownIfFilled t file.FareProducts RiderCategoryId file.RiderCategories RiderCategoryId
  product_rider_known row lt filled =
      known _ _ _ filled (related file.FareProducts row 0 _ lt refl)

  pub product_medium_known : AreKnownIfFilled t file.FareProducts FareMediaId file.FareMedia FareMediaId
  product_medium_known row lt filled = known _ _ _ filled (related file.FareProducts row 1 _ lt refl)

  pub leg_rule_from_area_known : AreKnownIfFilled t file.FareLegRules FromAreaId file.Areas AreaId
  leg_rule_from_area_known row lt filled = known _ _ _ filled (related file.FareLegRules row 1 _ lt refl)

  pub leg_rule_to_area_known : AreKnownIfFilled t file.FareLegRules ToAreaId file.Areas AreaId
  leg_rule_to_area_known row lt filled = known _ _ _ filled (related file.FareLegRules row 2 _ lt refl)

  pub join_from_stop_known : AreKnownIfFilled t file.FareLegJoinRules FromStopId file.Stops StopId
  join_from_stop_known row lt filled = known _ _ _ filled (related file.FareLegJoinRules row 2 _ lt refl)

  pub join_to_stop_known : AreKnownIfFilled t file.FareLegJoinRules ToStopId file.Stops StopId
  join_to_stop_known row lt filled = known _ _ _ filled (related file.FareLegJoinRules row 3 _ lt refl)

-- a network that routes.txt or networks.txt has is one of the names
network_named : (t : FeedTables) (id : List ℕ) → is_filled id ≡ true
    → (is_unknown (table_in t file.Routes) NetworkId id && is_unknown (table_in t file.Networks) NetworkId id) ≡ false
    → IsNamed (network_names t) id
unfolding network_names
network_named t id filled there = step (and_cases _ _ there)
  where
    step : (is_unknown (table_in t file.Routes) NetworkId id ≡ false) ⊎ (is_unknown (table_in t file.Networks) NetworkId id ≡ false)
        → IsNamed (network_names t) id
    step (inl one) = kept (table_in t file.Networks) NetworkId (named_in [] _ _ _ filled one)
    step (inr other) = named_in _ _ _ _ filled other

-- the networks that rules by which legs join name
module _ (t : FeedTables) (formed : AreFormed t) (related : AreRelated t) where
  pub join_from_network_named : AreNamed t file.FareLegJoinRules FromNetworkId (network_names t)
  join_from_network_named row lt =
      network_named t _ (must_id t formed file.FareLegJoinRules row 0 FromNetworkId lt refl).2
      (related file.FareLegJoinRules row 0 _ lt refl)

  pub join_to_network_named : AreNamed t file.FareLegJoinRules ToNetworkId (network_names t)
  join_to_network_named row lt =
      network_named t _ (must_id t formed file.FareLegJoinRules row 1 ToNetworkId lt refl).2
      (related file.FareLegJoinRules row 1 _ lt refl)

-- what the fare rules name, where the field is filled
module _ (t : FeedTables) (related : AreRelated t) where
  pub leg_rule_network_named : AreNamedIfFilled t file.FareLegRules NetworkId (network_names t)
  leg_rule_network_named row lt filled = network_named t _ filled (related file.FareLegRules row 0 _ lt refl)

  pub leg_rule_from_frame_named : AreNamedIfFilled t file.FareLegRules FromTimeframeGroupId (frame_names t)
  unfolding frame_names
  leg_rule_from_frame_named row lt filled =
      named_in _ _ _ _ filled (related file.FareLegRules row 3 _ lt refl)

  pub leg_rule_to_frame_named : AreNamedIfFilled t file.FareLegRules ToTimeframeGroupId (frame_names t)
  unfolding frame_names
  leg_rule_to_frame_named row lt filled =
      named_in _ _ _ _ filled (related file.FareLegRules row 4 _ lt refl)

  pub leg_rule_product_named : AreNamedIfFilled t file.FareLegRules FareProductId (product_names t)
  unfolding product_names
  leg_rule_product_named row lt filled =
      named_in _ _ _ _ filled (related file.FareLegRules row 5 _ lt refl)

  pub rule_from_group_named : AreNamedIfFilled t file.FareTransferRules FromLegGroupId (group_names t)
  unfolding group_names
  rule_from_group_named row lt filled =
      named_in _ _ _ _ filled (related file.FareTransferRules row 2 _ lt refl)

  pub rule_to_group_named : AreNamedIfFilled t file.FareTransferRules ToLegGroupId (group_names t)
  unfolding group_names
  rule_to_group_named row lt filled =
      named_in _ _ _ _ filled (related file.FareTransferRules row 3 _ lt refl)

  pub rule_product_named : AreNamedIfFilled t file.FareTransferRules FareProductId (product_names t)
  unfolding product_names
  rule_product_named row lt filled =
      named_in _ _ _ _ filled (related file.FareTransferRules row 4 _ lt refl)

-- the network of a route is one of the names
pub route_network_named : (t : FeedTables) → AreFormed t → AreRelated t → (row : ℕ) → row < row_count (table_in t file.Routes)
    → MayBeNamed (network_names t) (network_of_route t row)
unfolding network_of_route network_names
route_network_named t formed related row lt filled =
    step (is_filled (field (table_in t file.Routes) row NetworkId)) refl
    (row_of (table_in t file.RouteNetworks) RouteId (field (table_in t file.Routes) row RouteId)) refl
  where
    step : (b : Bool) → is_filled (field (table_in t file.Routes) row NetworkId) ≡ b
        → (o : Option ℕ) → row_of (table_in t file.RouteNetworks) RouteId (field (table_in t file.Routes) row RouteId) ≡ o
        → IsNamed (network_names t) (network_of_route t row)
    step true own o place = rw own (own_network_named t row lt own)
    step false own None place = absurd (let none = rw (own, place) at filled in cc)
    step false own (Some r) place =
        let within = row_within _ _ _ r place in
        let here = (must_id t formed file.RouteNetworks r 0 NetworkId within refl).2 in
        rw (own, place) (named_in _ _ _ _ here (related file.RouteNetworks r 1 _ within refl))
