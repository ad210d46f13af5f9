-- The base feed as exporters write it.
use Rattle.std.proofs.Common.{◌≡◌, ℕ, List, [], ◌∷◌, None, refl}
use Rattle.std.specs.Prelude.{codes}
use Rattle.feed_faults.specs.AcceptedFeed.{feed_of}
use Rattle.feed_faults.specs.OnLiterals.{feeds_on_literals}
use Rattle.feed_faults.proofs.Folders.{Folder, files_in}
use Rattle.feed_faults.proofs.BaseFeed.{base_rows}
use Rattle.feed_faults.proofs.Expected.{fault_of}

-- a text behind a byte order mark
abbrev pub marked : List ℕ → List ℕ
marked text = 239 ∷ 187 ∷ 191 ∷ text

-- marks, ends of lines CRLF, columns in another order, a quoted comma, columns and files that are passed over, rows without
-- their last fields, and a file without a byte
exported : Folder
exported =
    (codes "agency.txt", marked (codes "agency_id,agency_name\r\n1,Line\r\n"))
    ∷ (codes "stops.txt", marked (codes "stop_name,stop_lat,stop_id,parent_station\r\n\"Ash, Main Street\",47.1,A,\r\nBirch,47.2,B\r\nCedar,47.3,C,\r\n"))
    ∷ (codes "routes.txt", marked (codes "network_id,route_id,route_type\r\nbus,R1,3\r\nrail,R2,2\r\n"))
    ∷ (codes "trips.txt", marked (codes "trip_id,route_id,shape_id,service_id\r\nT1,R1,s1,W\r\nT2,R2,,W\r\nT3,R1,s1,W\r\n"))
    ∷ (codes "stop_times.txt", marked (codes "trip_id,arrival_time,departure_time,stop_id,stop_sequence,pickup_type\r\nT1,08:00:00,08:00:00,A,1,\r\nT1,08:10:00,08:10:00,B,2\r\nT2,08:15:00,08:15:00,B,1,0\r\nT2,08:30:00,08:30:00,C,2,0\r\nT3, 8:05:00,08:05:00,A,1\r\nT3,09:00:00,09:00:00,C,2\r\n"))
    ∷ (codes "calendar_dates.txt", marked (codes "date,exception_type,service_id\r\n20250602,1,W\r\n"))
    ∷ (codes "fare_media.txt", [])
    ∷ (codes "fare_products.txt", marked (codes "currency,fare_product_id,amount\r\nEUR,single,2.50\r\nEUR,rail,4.00\r\nEUR,change,0.50\r\n"))
    ∷ (codes "fare_leg_rules.txt", marked (codes "fare_product_id,network_id,leg_group_id\r\nsingle,bus,gb\r\nrail,rail,gr\r\n"))
    ∷ (codes "fare_transfer_rules.txt", marked (codes "fare_product_id,fare_transfer_type,to_leg_group_id,from_leg_group_id\r\nchange,0,gr,gb\r\n"))
    ∷ (codes "shapes.txt", marked (codes "shape_id,shape_pt_lat\r\ns1,47.1\r\n"))
    ∷ []

exported_good : fault_of exported ≡ None
unfolding feeds_on_literals exported
exported_good = refl

exported_read : feed_of (files_in exported) ≡ base_rows
unfolding feeds_on_literals exported
exported_read = refl
