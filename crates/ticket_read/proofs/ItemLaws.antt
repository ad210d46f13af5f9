-- What each line of an entry tells is what the entry has there.
use Rattle.std.proofs.Common.{◌≡◌, refl, sym, ◌∙◌, ap, subst, ℕ, zero, suc, ◌+◌, ◌^◌, ◌<◌, ◌≤◌, ◌⊎◌, ⊎_elim, inl, inr, Bool, true, false, ◌==◌, ◌&&◌, List, [], ◌∷◌, ◌++◌, length, Option, Some, None, arith}
use Rattle.std.specs.Prelude.{slice_get, slice_index, option_map, bytes_eq, codes, decimal, if◌then◌else◌, ℤ, pos, negsuc, ◌+ℤ◌, int_le, All, Contains}
use Rattle.std.specs.List.{list_any}
use Rattle.std.specs.Option.{option_map_or, ForSome}
use Rattle.std.proofs.lemmas.Bool.{eq-eqb, ne_eqb, cases_Bool, and_parts}
use Rattle.std.proofs.lemmas.Bool.Decides.{nat_tests}
use Rattle.std.proofs.lemmas.Fmt.{digits_decimal, decimal_nonempty}
use Rattle.std.proofs.lemmas.Int.{ints}
use Rattle.std.proofs.lemmas.List.Elements.{All-contains}
use Rattle.std.proofs.lemmas.List.Folds.{list_any_none}
use Rattle.std.proofs.lemmas.Option.{slice_get_within}
use Rattle.std.proofs.lemmas.Str.Parse.{not_in_digits}
use Rattle.transit_base.specs.Dates.{is_dated}
use Rattle.transit_base.specs.DateTexts.{date_text, moment_text}
use Rattle.transit_base.specs.declared.numbers.StopId.{StopId}
use Rattle.transit_base.specs.declared.numbers.TripId.{TripId}
use Rattle.transit_base.specs.declared.numbers.ProductRowId.{ProductRowId}
use Rattle.transit_base.specs.declared.numbers.MediumId.{MediumId}
use Rattle.feed_rows.specs.FeedRows.{FeedRows}
use Rattle.feed_rows.specs.Calls.{calls_of, first_departure}
use Rattle.feed_rows.specs.FareSums.{amount_of}
use Rattle.feed_rows.specs.Shifts.{has_frequencies}
use Rattle.feed_rows.specs.EntryText.{stop_text, start_text, amount_text, currency_text, journey_line, stay_line, walk_line, ride_line, run_fields, way_fields, service_time_text, product_text, medium_text, ticket_fields, leg_line, change_line}
use Rattle.feed_rows.specs.Lines.{line}
use Rattle.feed_rows.specs.Rides.{ride_facts}
use Rattle.feed_rows.specs.SoundFeed.{IsSoundFeed}
use Rattle.feed_rows.specs.SoundNames.{IsIdText}
use Rattle.feed_rows.specs.StopLinks.{link, is_platform, is_station, is_member, stop_set}
use Rattle.feed_rows.specs.Journeys.{stands_for}
use Rattle.feed_rows.specs.declared.fares.Triple.{Triple}
use Rattle.feed_rows.specs.declared.fares.LegChoice.{LegChoice}
use Rattle.feed_rows.specs.declared.fares.ChangeChoice.{ChangeChoice}
use Rattle.feed_rows.specs.declared.journeys.Call.{Call}
use Rattle.feed_rows.specs.declared.journeys.Ride.{Ride}
use Rattle.feed_rows.specs.declared.journeys.RideFacts.{RideFacts}
use Rattle.feed_rows.specs.declared.rows.MediumRow.{MediumRow}
use Rattle.feed_rows.specs.declared.rows.ProductRow.{ProductRow}
use Rattle.feed_rows.specs.declared.rows.TransferRuleRow.{TransferRuleRow}
use Rattle.feed_rows.specs.declared.rows.StopRow.{StopRow}
use Rattle.feed_rows.specs.declared.rows.StopTimeRow.{StopTimeRow}
use Rattle.feed_rows.specs.declared.rows.TripRow.{TripRow}
use Rattle.feed_faults.specs.FieldGrammars.{int_value}
use Rattle.plain_laws.specs.Plain.{at_and, ids_where}
use Rattle.plain_laws.proofs.Laws.{All-slice_get, cond_gives, filled_and-true, bytes_eq-true, list_any_tells, picks_below-tells, Contains-cons_cases}
use Rattle.feed_laws.proofs.CallLaws.{calls_of_row}
use Rattle.feed_laws.proofs.RideLaws.{ride_facts_tells}
use Rattle.feed_laws.proofs.SoundTrips.{sound_trip, row_at}
use Rattle.line_cuts.specs.Cuts.{fields_in}
use Rattle.ticket_read.specs.Items.{number_in, row_in, day_in, place_in, run_of, ride_of, ride_item, stop_in, stay_item, walk_item, leg_item, change_row, change_item, item_of}
use Rattle.ticket_read.specs.declared.drafts.Item.{Item}
use Rattle.ticket_read.specs.declared.drafts.Item.TheVariants as item
use Rattle.ticket_read.proofs.CutLaws.{body, line-body, fields_in-body, IsUnbroken, body_unbroken, ended}
use Rattle.ticket_read.proofs.NameLaws.{found_stop, found_trip, found_call, found_start, small_sequence}
use Rattle.ticket_read.proofs.NumberLaws.{own, number_value-decimal, day_value-date_text}
use Rattle.ticket_read.proofs.PlainTexts.{is_end, IsPlain, ArePlain, plain_empty, decimal_plain, date_plain, moment_plain, money_plain, time_plain, id_plain}
use Rattle.ticket_read.proofs.RideBounds.{dated_ride}

-- a line that tells this
pub record Tells (feed : FeedRows) (text : List ℕ) (told : Item) : Type 0 where
  pub front : List ℕ
  pub is : text ≡ ended front
  pub unbroken : IsUnbroken front
  pub tells : item_of feed (fields_in front) ≡ Some told

pub tells_line : (feed : FeedRows) (word : List ℕ) (texts : List (List ℕ)) (told : Item) → IsPlain word → ArePlain texts
    → item_of feed (word ∷ texts) ≡ Some told → Tells feed (line word texts) told
tells_line feed word texts told plain all is =
    record {
      front = body word texts;
      is = line-body word texts;
      unbroken = body_unbroken word texts plain all;
      tells = ap (item_of feed) (fields_in-body word texts plain all) ∙ is;
    }

-- ---- numbers

unsigned : (n : ℕ) → n < 2 ^ 64 → (slice_index (decimal n) 0 == 45) ≡ false
unsigned n small =
    ne_eqb (slice_index (decimal n) 0) 45
    (not_in_digits own (decimal n) 45 (digits_decimal own n small) (λ range. omega (arith, range.0)) 0 (decimal_nonempty n small))

within : (n most : ℕ) → n ≤ most → (int_le (pos 0) (pos n) && int_le (pos n) (pos most)) ≡ true
within n most high = grind (arith, ints)

pub number_in-decimal : (n : ℕ) → n ≤ 4_294_967_295 → number_in (decimal n) ≡ Some n
unfolding number_in int_value
number_in-decimal n high =
    rw (unsigned n (omega (arith, high)), number_value-decimal n (omega (arith, high)), within n 4_294_967_295 high) refl

pub row_in-decimal : (row : ℕ) → row < 4_294_967_295 → row_in (decimal (row + 1)) ≡ Some row
unfolding row_in
row_in-decimal row small =
    let some : (row + 1 == 0) ≡ false = ne_eqb (row + 1) 0 (λ e. omega arith) in
    rw (number_in-decimal (row + 1) (omega arith), some) (ap Some (omega arith))

-- ---- stops

-- a stop of the feed, with its id
pub record IsKnownStop (feed : FeedRows) (stop : StopId) : Type 0 where
  pub id : List ℕ
  pub is : stop_text feed stop ≡ Some id
  pub plain : IsPlain id

known_row : (feed : FeedRows) (stop : StopId) (row : StopRow) → IsSoundFeed feed → slice_get feed.stops stop.0 ≡ Some row → IsKnownStop feed stop
known_row feed stop row sound got =
    record {
      id = row.id;
      is = rw got refl;
      plain = id_plain row.id (All-slice_get (λ (s : StopRow). IsIdText s.id) feed.stops stop.0 row got sound.stops.ids);
    }

pub known_platform : (feed : FeedRows) (stop : StopId) → IsSoundFeed feed → is_platform feed stop ≡ true → IsKnownStop feed stop
known_platform feed stop sound is =
    let row = filled_and-true (slice_get feed.stops stop.0) _ is in known_row feed stop row.value sound row.is

-- a stop that another stands for is known
pub known_member : (feed : FeedRows) (stop member : StopId) → IsSoundFeed feed → stands_for feed stop member ≡ true → IsKnownStop feed member
unfolding stop_set
known_member feed stop member sound e =
    let found = list_any_tells (λ (s : StopId). s.0 == member.0) (stop_set feed stop) e in
    subst (IsKnownStop feed) (ap (λ (n : ℕ). record { 0 = n }) (told found.0.0 member.0 found.2)) (platform (is_platform feed stop) refl found.0 found.1)
  where
    told : (a b : ℕ) → (a == b) ≡ true → a ≡ b
    told a b h = grind (arith, nat_tests)

    none : (s : StopId) → Contains [] s → IsKnownStop feed s
    none s at = let lt = at.1 in absurd (omega arith)

    station : (b : Bool) → is_station feed stop ≡ b → (s : StopId)
        → Contains (if b then ids_where (λ i. record { 0 = i }) (is_member stop) feed.stops else []) s → IsKnownStop feed s
    station false is s at = none s at
    station true is s at =
        let picked = picks_below-tells (length feed.stops) (λ i. at_and feed.stops i (is_member stop)) (λ i. record { 0 = i }) s at in
        let row = filled_and-true (slice_get feed.stops picked.number) (is_member stop) picked.passes in
        subst (IsKnownStop feed) picked.is (known_row feed (record { 0 = picked.number }) row.value sound row.is)

    platform : (b : Bool) → is_platform feed stop ≡ b → (s : StopId) → Contains (stop_set feed stop) s → IsKnownStop feed s
    platform true is s at =
        ⊎_elim (λ (same : stop ≡ s). subst (IsKnownStop feed) same (known_platform feed stop sound is)) (λ (there : Contains [] s). none s there)
        (Contains-cons_cases stop [] s (rw is at at))
    platform false is s at = station (is_station feed stop) refl s (rw is at at)

-- both ends of a walk are known
pub known_ends : (feed : FeedRows) (from to : StopId) (seconds : ℕ) → IsSoundFeed feed → link feed from to ≡ Some seconds → IsKnownStop feed from × IsKnownStop feed to
unfolding link
known_ends feed from to seconds sound is =
    let both = and_parts (is_platform feed from) (is_platform feed to) (cond_gives (is_platform feed from && is_platform feed to) _ seconds is) in
    (known_platform feed from sound both.0, known_platform feed to sound both.1)

item_within : {X : Type 0} (xs : List X) (i : ℕ) → i < length xs → (x : X) × (slice_get xs i ≡ Some x)
item_within [] i lt = absurd (omega arith)
item_within (x ∷ xs) zero lt = (x, refl)
item_within (x ∷ xs) (suc i) lt = item_within xs i (omega arith)

-- the stop of a call is known
known_call : (feed : FeedRows) (trip : TripId) (place : ℕ) (call : Call) → IsSoundFeed feed → slice_get (calls_of feed trip) place ≡ Some call → IsKnownStop feed call.stop
known_call feed trip place call sound at =
    let row = calls_of_row feed trip place call (sound_trip feed trip sound).ends at in
    let member = (row_at feed trip place row.0 row.1).member in
    let lt = All-contains (λ (c : StopTimeRow). c.stop.0 < length feed.stops) feed.stop_times row.0 sound.stop_times.stops member in
    let stop = item_within feed.stops row.0.stop.0 lt in
    subst (IsKnownStop feed) (sym row.2.stop) (known_row feed row.0.stop stop.0 sound stop.1)

-- both stops of a ride are known
pub known_ride : (feed : FeedRows) (ride : Ride) (facts : RideFacts) → IsSoundFeed feed → ride_facts feed ride ≡ Some facts → IsKnownStop feed facts.from × IsKnownStop feed facts.to
known_ride feed ride facts sound e =
    let is = ride_facts_tells feed ride facts e in (
      subst (λ (f : RideFacts). IsKnownStop feed f.from) is.facts_are (known_call feed ride.trip ride.from is.boarding sound is.boards),
      subst (λ (f : RideFacts). IsKnownStop feed f.to) is.facts_are (known_call feed ride.trip ride.to is.alighting sound is.alights),
    )

-- ---- the lines of the way

currency_plain : (feed : FeedRows) → IsSoundFeed feed → IsPlain (currency_text feed)
currency_plain feed sound = by feed.currency refl
  where
    letters : (code : List ℕ) → All (λ b. (65 ≤ b) × (b ≤ 90)) code → IsPlain code
    letters code all =
        record { none = list_any_none is_end code (λ k d lt. letter _ (all k d lt).0) }
      where
        letter : (b : ℕ) → 65 ≤ b → is_end b ≡ false
        letter b low = rw (ne_eqb b 9 (λ e. omega arith), ne_eqb b 10 (λ e. omega arith)) refl

    by : (o : Option (List ℕ)) → feed.currency ≡ o → IsPlain (currency_text feed)
    by None is = rw is plain_empty
    by (Some code) is = rw is (letters code (sound.currency.letters code is))

word_plain : (word : List ℕ) → list_any is_end word ≡ false → IsPlain word
word_plain word none = record { none = none }

-- the head line of an entry
pub head_tells : (feed : FeedRows) (triple : Triple) → IsSoundFeed feed → Tells feed (journey_line feed triple) item.Head
unfolding journey_line item_of
head_tells feed triple sound =
    tells_line feed (codes "journey") (moment_text triple.arrival.0 ∷ decimal triple.rides ∷ amount_text feed triple.price.0 ∷ currency_text feed ∷ []) item.Head
    (word_plain (codes "journey") refl)
    (moment_plain triple.arrival.0, (decimal_plain triple.rides, (money_plain feed.decimals triple.price.0, (currency_plain feed sound, tt))))
    refl

-- a line that is there, and tells this
pub record TellsLine (feed : FeedRows) (text : Option (List ℕ)) (told : Item) : Type 0 where
  pub line_text : List ℕ
  pub is_there : text ≡ Some line_text
  pub tells : Tells feed line_text told

-- the line of a stay
pub stay_tells : (feed : FeedRows) (stop : StopId) → IsSoundFeed feed → IsKnownStop feed stop → TellsLine feed (stay_line feed stop) (item.Walk stop stop)
unfolding item_of stay_item stop_in
stay_tells feed stop sound known =
    record {
      line_text = line (codes "stay") (known.id ∷ []);
      is_there = let is = known.is in rw is refl;
      tells =
          tells_line feed (codes "stay") (known.id ∷ []) (item.Walk stop stop) (word_plain (codes "stay") refl) (known.plain, tt)
          (rw (found_stop feed stop known.id sound known.is) refl);
    }

-- the line of a walk
pub walk_tells : (feed : FeedRows) (from to : StopId) (seconds : ℕ) → IsSoundFeed feed → link feed from to ≡ Some seconds → TellsLine feed (walk_line feed from to) (item.Walk from to)
unfolding walk_line item_of walk_item stop_in
walk_tells feed from to seconds sound is =
    let known = known_ends feed from to seconds sound is in
    let start = known.0.is in
    let end = known.1.is in
    let texts = known.0.id ∷ known.1.id ∷ decimal seconds ∷ [] in
    record {
      line_text = line (codes "walk") texts;
      is_there = rw (start, end, is) refl;
      tells =
          tells_line feed (codes "walk") texts (item.Walk from to) (word_plain (codes "walk") refl)
          (known.0.plain, (known.1.plain, (decimal_plain seconds, tt)))
          (rw (found_stop feed from known.0.id sound start, found_stop feed to known.1.id sound end) refl);
    }

start_plain : (feed : FeedRows) (ride : Ride) → IsPlain (start_text feed ride)
start_plain feed ride =
    by (has_frequencies feed ride.trip) (time (ride.shift +ℤ pos (first_departure feed ride.trip))) (word_plain (codes "-") refl)
  where
    time : (z : ℤ) → IsPlain (service_time_text z)
    time (pos s) = time_plain s
    time (negsuc s) = plain_empty

    by : (b : Bool) {xs ys : List ℕ} → IsPlain xs → IsPlain ys → IsPlain (if b then xs else ys)
    by true p q = p
    by false p q = q

day_in-date_text : (day : ℤ) → is_dated day ≡ true → day_in (date_text day) ≡ Some day
unfolding day_in
day_in-date_text day dated =
    let read = day_value-date_text day dated in
    let long : (length (date_text day) == 10) ≡ true = eq-eqb (length (date_text day)) 10 read.0 in
    rw long read.1

place_in-decimal : (feed : FeedRows) (trip : TripId) (place : ℕ) (call : Call) → IsSoundFeed feed → slice_get (calls_of feed trip) place ≡ Some call
    → place_in feed trip (decimal call.sequence) ≡ Some place
unfolding place_in
place_in-decimal feed trip place call sound at =
    let small = small_sequence feed trip place call sound at in
    rw (number_in-decimal call.sequence (omega (arith, small))) (found_call feed trip place call sound at)

-- the line of a ride whose parts are known
ride_line_is : (feed : FeedRows) (ride : Ride) (facts : RideFacts) (trip : TripRow) (boarding alighting : Call) (from to : List ℕ)
    → slice_get feed.trips ride.trip.0 ≡ Some trip → slice_get (calls_of feed ride.trip) ride.from ≡ Some boarding
    → slice_get (calls_of feed ride.trip) ride.to ≡ Some alighting → stop_text feed facts.from ≡ Some from → stop_text feed facts.to ≡ Some to
    → ride_line feed ride facts ≡ Some (line (codes "ride") (run_fields feed ride trip.id boarding alighting ++ way_fields facts from to))
unfolding ride_line
ride_line_is feed ride facts trip boarding alighting from to row boards alights starts ends = rw (row, boards, alights, starts, ends) refl

-- the fields of a ride's line name the ride
module _ (feed : FeedRows) (ride : Ride) (facts : RideFacts) (sound : IsSoundFeed feed) (e : ride_facts feed ride ≡ Some facts) where
  run_named : (word trip : List ℕ) (boarding alighting : Call) (rest : List (List ℕ))
      → slice_get (calls_of feed ride.trip) ride.from ≡ Some boarding → slice_get (calls_of feed ride.trip) ride.to ≡ Some alighting
      → run_of feed (word ∷ trip ∷ date_text ride.day.0 ∷ start_text feed ride ∷ decimal boarding.sequence ∷ decimal alighting.sequence ∷ rest) ride.trip ≡ Some ride
  unfolding run_of
  run_named word trip boarding alighting rest boards alights =
      let is = ride_facts_tells feed ride facts e in
      let start = found_start feed ride sound is.shift in
      let day = day_in-date_text ride.day.0 (dated_ride feed ride facts sound e) in
      let from = place_in-decimal feed ride.trip ride.from boarding sound boards in
      let to = place_in-decimal feed ride.trip ride.to alighting sound alights in
      rw (day, start.1, from, to, start.2) refl

  -- the line of a ride
  pub ride_tells : TellsLine feed (ride_line feed ride facts) (item.Ride ride facts.from facts.to)
  unfolding item_of ride_item ride_of
  ride_tells =
      let is = ride_facts_tells feed ride facts e in
      let row = filled_and-true (slice_get feed.trips ride.trip.0) _ is.runs in
      let known = known_ride feed ride facts sound e in
      let start = known.0.is in
      let end = known.1.is in
      let trip = row.is in
      let boards = is.boards in
      let alights = is.alights in
      let texts = row.value.id ∷ date_text ride.day.0 ∷ start_text feed ride ∷ decimal is.boarding.sequence ∷ decimal is.alighting.sequence
      ∷ known.0.id ∷ moment_text facts.departure.0 ∷ known.1.id ∷ moment_text facts.arrival.0 ∷ [] in
      let found = found_trip feed ride.trip row.value sound trip in
      let named = run_named (codes "ride") row.value.id is.boarding is.alighting
      (known.0.id ∷ moment_text facts.departure.0 ∷ known.1.id ∷ moment_text facts.arrival.0 ∷ []) boards alights in
      record {
        line_text = line (codes "ride") texts;
        is_there = ride_line_is feed ride facts row.value is.boarding is.alighting known.0.id known.1.id trip boards alights start end;
        tells =
            tells_line feed (codes "ride") texts (item.Ride ride facts.from facts.to) (word_plain (codes "ride") refl) (
              id_plain row.value.id (All-slice_get (λ (t : TripRow). IsIdText t.id) feed.trips ride.trip.0 row.value trip sound.trips.ids),
              (
                date_plain ride.day.0,
                (
                  start_plain feed ride,
                  (
                    decimal_plain is.boarding.sequence,
                    (
                      decimal_plain is.alighting.sequence,
                      (known.0.plain, (moment_plain facts.departure.0, (known.1.plain, (moment_plain facts.arrival.0, tt)))),
                    ),
                  ),
                ),
              ),
            )
            (rw (found, named, e) refl);
      }

-- ---- the lines of tickets

-- the id of a medium, if there is one
abbrev held : FeedRows → Option MediumId → Option (List ℕ)
held feed medium = option_map_or (λ m. option_map (λ r. r.id) (slice_get feed.media m.0)) medium (Some [])

-- the fields that end the line of a ticket
record HasTicket (feed : FeedRows) (row : ProductRowId) (amount : ℤ) : Type 0 where
  texts : List (List ℕ)
  is : ticket_fields feed row amount ≡ Some (decimal (row.0 + 1) ∷ texts)
  plain : ArePlain texts
  few : row.0 < 4_294_967_295

ticket_is : (feed : FeedRows) (id : ProductRowId) (row : ProductRow) (amount : ℤ) (name medium : List ℕ) → slice_get feed.products id.0 ≡ Some row
    → product_text feed row ≡ Some name → medium_text feed row ≡ Some medium
    → ticket_fields feed id amount ≡ Some (decimal (id.0 + 1) ∷ name ∷ medium ∷ amount_text feed amount ∷ [])
ticket_is feed id row amount name medium got named held = rw (got, named, held) refl

has_ticket : (feed : FeedRows) (id : ProductRowId) (row : ProductRow) (amount : ℤ) → IsSoundFeed feed → slice_get feed.products id.0 ≡ Some row → HasTicket feed id amount
has_ticket feed id row amount sound got = by row.medium refl
  where
    name : (text : List ℕ) × (slice_get feed.product_names row.product.0 ≡ Some text)
    name = item_within feed.product_names row.product.0 (All-slice_get (λ (p : ProductRow). p.product.0 < length feed.product_names) feed.products id.0 row got sound.products.names)

    name_plain : IsPlain name.0
    name_plain = id_plain name.0 (All-slice_get IsIdText feed.product_names row.product.0 name.0 name.1 sound.product_names.texts)

    few : id.0 < 4_294_967_295
    few = let lt = slice_get_within feed.products id.0 row got in let most = sound.products.few in omega (arith, lt, most)

    by : (medium : Option MediumId) → row.medium ≡ medium → HasTicket feed id amount
    by None none =
        record {
          texts = name.0 ∷ [] ∷ amount_text feed amount ∷ [];
          is = ticket_is feed id row amount name.0 [] got name.1 (ap (held feed) none);
          plain = (name_plain, (plain_empty, (money_plain feed.decimals amount, tt)));
          few = few;
        }
    by (Some medium) some =
        let lt = All-slice_get (λ (p : ProductRow). ForSome p.medium (λ m. m.0 < length feed.media)) feed.products id.0 row got sound.products.media medium some in
        let there = item_within feed.media medium.0 lt in
        let has = there.1 in
        record {
          texts = name.0 ∷ there.0.id ∷ amount_text feed amount ∷ [];
          is = ticket_is feed id row amount name.0 there.0.id got name.1 (ap (held feed) some ∙ ap (option_map (λ (m : MediumRow). m.id)) has);
          plain = (name_plain, (id_plain there.0.id (All-slice_get (λ (m : MediumRow). IsIdText m.id) feed.media medium.0 there.0 has sound.media.ids), (money_plain feed.decimals amount, tt)));
          few = few;
        }

-- the line of a leg
pub leg_tells : (feed : FeedRows) (i : ℕ) (charged : Bool) (pick : LegChoice) (row : ProductRow) → IsSoundFeed feed → pick.rule.0 < length feed.leg_rules
    → slice_get feed.products pick.product.0 ≡ Some row → TellsLine feed (leg_line feed i charged pick) (item.Leg pick)
unfolding leg_line item_of leg_item
leg_tells feed i charged pick row sound lt got =
    let amount : ℤ = if charged then amount_of feed pick.product else pos 0 in
    let ticket = has_ticket feed pick.product row amount sound got in
    let is = ticket.is in
    let most = sound.leg_rules.few in
    let rule = row_in-decimal pick.rule.0 (omega (arith, lt, most)) in
    let product = row_in-decimal pick.product.0 ticket.few in
    let texts = decimal (i + 1) ∷ (if charged then codes "buy" else codes "included") ∷ decimal (pick.rule.0 + 1) ∷ decimal (pick.product.0 + 1) ∷ ticket.texts in
    record {
      line_text = line (codes "leg") texts;
      is_there = rw is refl;
      tells =
          tells_line feed (codes "leg") texts (item.Leg pick) (word_plain (codes "leg") refl)
          (decimal_plain (i + 1), (how charged, (decimal_plain (pick.rule.0 + 1), (decimal_plain (pick.product.0 + 1), ticket.plain))))
          (rw (rule, product) refl);
    }
  where
    how : (b : Bool) → IsPlain (if b then codes "buy" else codes "included")
    how true = word_plain (codes "buy") refl
    how false = word_plain (codes "included") refl

-- the line of a change with a product, and of one without
pub change_tells : (feed : FeedRows) (i : ℕ) (pick : ChangeChoice) (rule : TransferRuleRow) → IsSoundFeed feed → slice_get feed.transfer_rules pick.rule.0 ≡ Some rule
    → ((id : ProductRowId) → pick.product ≡ Some id → (row : ProductRow) × (slice_get feed.products id.0 ≡ Some row)) → TellsLine feed (change_line feed i pick) (item.Change pick)
unfolding change_line item_of change_item change_row
change_tells feed i pick rule sound got paid = by pick.product refl
  where
    small : pick.rule.0 < 4_294_967_295
    small = let lt = slice_get_within feed.transfer_rules pick.rule.0 rule got in let most = sound.transfer_rules.few in omega (arith, lt, most)

    digits_no_dash : (n : ℕ) → n < 4_294_967_296 → bytes_eq (decimal n) (codes "-") ≡ false
    digits_no_dash n few = step (cases_Bool (bytes_eq (decimal n) (codes "-")))
      where
        step : (bytes_eq (decimal n) (codes "-") ≡ true) ⊎ (bytes_eq (decimal n) (codes "-") ≡ false) → bytes_eq (decimal n) (codes "-") ≡ false
        step (inr differ) = differ
        step (inl alike) =
            let same = bytes_eq-true (decimal n) (codes "-") alike in
            let first : (slice_index (decimal n) 0 == 45) ≡ true = rw same refl in
            absurd (let no : true ≡ false = sym first ∙ unsigned n (omega (arith, few)) in cc)

    by : (product : Option ProductRowId) → pick.product ≡ product → TellsLine feed (change_line feed i pick) (item.Change pick)
    by None none =
        let row = row_in-decimal pick.rule.0 small in
        let texts = decimal (i + 1) ∷ decimal rule.kind ∷ decimal (pick.rule.0 + 1) ∷ codes "-" ∷ [] ∷ [] ∷ amount_text feed (pos 0) ∷ [] in
        record {
          line_text = line (codes "change") texts;
          is_there = rw (got, none) refl;
          tells =
              tells_line feed (codes "change") texts (item.Change pick) (word_plain (codes "change") refl)
              (decimal_plain (i + 1), (decimal_plain rule.kind, (decimal_plain (pick.rule.0 + 1), (word_plain (codes "-") refl, (plain_empty, (plain_empty, (money_plain feed.decimals (pos 0), tt)))))))
              (rw row (ap (λ (p : Option ProductRowId). Some (item.Change (record { rule = pick.rule; product = p }))) (sym none)));
        }
    by (Some id) some =
        let product = paid id some in
        let ticket = has_ticket feed id product.0 (amount_of feed id) sound product.1 in
        let is = ticket.is in
        let few = ticket.few in
        let dash = digits_no_dash (id.0 + 1) (omega (arith, few)) in
        let row = row_in-decimal pick.rule.0 small in
        let paid_row = row_in-decimal id.0 few in
        let texts = decimal (i + 1) ∷ decimal rule.kind ∷ decimal (pick.rule.0 + 1) ∷ decimal (id.0 + 1) ∷ ticket.texts in
        record {
          line_text = line (codes "change") texts;
          is_there = rw (got, some, is) refl;
          tells =
              tells_line feed (codes "change") texts (item.Change pick) (word_plain (codes "change") refl)
              (decimal_plain (i + 1), (decimal_plain rule.kind, (decimal_plain (pick.rule.0 + 1), (decimal_plain (id.0 + 1), ticket.plain))))
              (rw (row, dash, paid_row) (ap (λ (p : Option ProductRowId). Some (item.Change (record { rule = pick.rule; product = p }))) (sym some)));
        }
