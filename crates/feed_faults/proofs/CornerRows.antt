-- Rows that accepted files give, at their edges: days of the week, counts of changes, types of pickups and transfers, and
-- names by first appearance.
use Rattle.std.proofs.Common.{◌≡◌, ℕ, Bool, true, false, [], ◌∷◌, None, Some, refl}
use Rattle.std.specs.Prelude.{codes, map}
use Rattle.jiff_core.specs.Calendar.{days_from_civil, day_count, days_of_years, days_of_months}
use Rattle.feed_faults.specs.AcceptedFeed.{feed_of}
use Rattle.feed_faults.specs.OnLiterals.{feeds_on_literals}
use Rattle.feed_faults.proofs.Folders.{Folder, files_in, with_file}
use Rattle.feed_faults.proofs.BaseFeed.{base}
use Rattle.feed_faults.proofs.Expected.{fault_of}

-- a service for each day of the week, by columns that begin with Sunday
abbrev daily : Folder
daily =
    with_file (codes "calendar.txt")
    (codes "service_id,sunday,monday,tuesday,wednesday,thursday,friday,saturday,start_date,end_date\nA,0,1,0,0,0,0,0,20250101,20250101\nB,0,0,1,0,0,0,0,20250101,20250101\nC,0,0,0,1,0,0,0,20250101,20250101\nD,0,0,0,0,1,0,0,20250101,20250101\nE,0,0,0,0,0,1,0,20250101,20250101\nF,0,0,0,0,0,0,1,20250101,20250101\nG,1,0,0,0,0,0,0,20250101,20250101\n")
    base

daily_good : fault_of daily ≡ None
unfolding feeds_on_literals days_from_civil day_count days_of_years days_of_months
daily_good = refl

-- the days of a row are those from Monday to Sunday, whatever the order of the columns
days_of_services : map (λ row. row.days) (feed_of (files_in daily)).services
    ≡ (true ∷ false ∷ false ∷ false ∷ false ∷ false ∷ false ∷ [])
    ∷ (false ∷ true ∷ false ∷ false ∷ false ∷ false ∷ false ∷ [])
    ∷ (false ∷ false ∷ true ∷ false ∷ false ∷ false ∷ false ∷ [])
    ∷ (false ∷ false ∷ false ∷ true ∷ false ∷ false ∷ false ∷ [])
    ∷ (false ∷ false ∷ false ∷ false ∷ true ∷ false ∷ false ∷ [])
    ∷ (false ∷ false ∷ false ∷ false ∷ false ∷ true ∷ false ∷ [])
    ∷ (false ∷ false ∷ false ∷ false ∷ false ∷ false ∷ true ∷ []) ∷ []
unfolding feeds_on_literals
days_of_services = refl

-- services are numbered as trips name them first, and then as the calendar does
names_of_services : (feed_of (files_in daily)).service_names
    ≡ codes "W" ∷ codes "A" ∷ codes "B" ∷ codes "C" ∷ codes "D" ∷ codes "E" ∷ codes "F" ∷ codes "G" ∷ []
unfolding feeds_on_literals
names_of_services = refl

-- counts of changes: one, three by leading zeros, and any number by -1 and where nothing stands
abbrev counting : Folder
counting =
    with_file (codes "fare_transfer_rules.txt")
    (codes "from_leg_group_id,to_leg_group_id,transfer_count,fare_transfer_type\ngb,gb,1,0\ngr,gr,003,0\ngb,gb,-1,0\ngb,gr,,0\n,,2,0\n,,,0\n") base

counting_good : fault_of counting ≡ None
unfolding feeds_on_literals
counting_good = refl

counts_of_rules : map (λ row. row.count) (feed_of (files_in counting)).transfer_rules ≡ Some 1 ∷ Some 3 ∷ None ∷ None ∷ Some 2 ∷ None ∷ []
unfolding feeds_on_literals
counts_of_rules = refl

-- pickups of each type, and drop-offs in the other order
abbrev boarding : Folder
boarding =
    with_file (codes "stop_times.txt")
    (codes "trip_id,stop_id,stop_sequence,arrival_time,pickup_type,drop_off_type\nT1,A,1,8:00:00,,3\nT1,A,2,8:00:00,0,2\nT1,A,3,8:00:00,1,1\nT1,A,4,8:00:00,2,0\nT1,A,5,8:00:00,3,\nT1,A,6,8:00:00,01,0\n") base

boarding_good : fault_of boarding ≡ None
unfolding feeds_on_literals
boarding_good = refl

-- type 1 alone forbids
pickups_and_drop_offs : map {B = Bool × Bool} (λ row. (row.pickup, row.drop_off)) (feed_of (files_in boarding)).stop_times
    ≡ (true, true) ∷ (true, true) ∷ (false, false) ∷ (true, true) ∷ (true, true) ∷ (false, true) ∷ []
unfolding feeds_on_literals
pickups_and_drop_offs = refl

-- transfers of each type, of which 4 and 5 are passed over
abbrev changing : Folder
changing =
    with_file (codes "transfers.txt") (codes "from_stop_id,to_stop_id,transfer_type,min_transfer_time\nA,B,,9\nA,B,0,8\nA,B,1,7\nA,B,2,6\nA,B,3,5\nA,B,4,4\nA,B,5,3\nA,B,2,\n") base

changing_good : fault_of changing ≡ None
unfolding feeds_on_literals
changing_good = refl

-- type 3 alone forbids, and keeps its seconds
transfers_of_types : map {B = Bool × ℕ} (λ row. (row.forbidden, row.seconds)) (feed_of (files_in changing)).links
    ≡ (false, 9) ∷ (false, 8) ∷ (false, 7) ∷ (false, 6) ∷ (true, 5) ∷ (false, 0) ∷ []
unfolding feeds_on_literals
transfers_of_types = refl

-- products and leg groups are numbered by the first row that names them, and rows of one name have one number
abbrev repeating : Folder
repeating =
    with_file (codes "rider_categories.txt") (codes "rider_category_id\nadult\n")
    (with_file (codes "fare_products.txt") (codes "fare_product_id,rider_category_id,amount,currency\nrail,,4,EUR\nsingle,,2.50,EUR\nrail,adult,3,EUR\nchange,,0,EUR\n")
    (with_file (codes "fare_leg_rules.txt") (codes "leg_group_id,network_id,fare_product_id\ngr,rail,rail\n,bus,single\ngb,bus,single\ngr,bus,rail\n") base))

repeating_good : fault_of repeating ≡ None
unfolding feeds_on_literals
repeating_good = refl

numbers_of_products : map (λ row. row.product) (feed_of (files_in repeating)).products
    ≡ record { 0 = 0 } ∷ record { 0 = 1 } ∷ record { 0 = 0 } ∷ record { 0 = 2 } ∷ []
unfolding feeds_on_literals
numbers_of_products = refl

numbers_of_groups : map (λ row. row.group) (feed_of (files_in repeating)).leg_rules
    ≡ Some (record { 0 = 0 }) ∷ None ∷ Some (record { 0 = 1 }) ∷ Some (record { 0 = 0 }) ∷ []
unfolding feeds_on_literals
numbers_of_groups = refl
