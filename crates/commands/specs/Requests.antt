-- What the words of a command ask for.
use Rattle.std.specs.Prelude.{ℕ, Bool, List, Option, ℤ}
use Rattle.feed_rows.specs.RideWords.{RideWord}

-- a plan: the ids of the stops, the moment of departure, the greatest number of rides, the id of the rider category, the
-- seconds after the departure within which a journey arrives, and whether a last line tells the size of the table
pub record PlanRequest : Type 0 where
  pub from : List ℕ
  pub to : List ℕ
  pub departure : ℤ
  pub rides : ℕ
  pub rider : Option (List ℕ)
  pub window : ℕ
  pub stats : Bool

-- the price of rides that follow one another: the id of the rider category, and the rides in order
pub record PriceRequest : Type 0 where
  pub rider : Option (List ℕ)
  pub rides : List RideWord

-- an audit: the first and the last service day, and the id of the rider category
pub record AuditRequest : Type 0 where
  pub first : ℤ
  pub last : ℤ
  pub rider : Option (List ℕ)

-- a generated feed: the number from which others are drawn, and the stops along each side of its square
pub record GenRequest : Type 0 where
  pub seed : ℕ
  pub lines : ℕ

-- what is asked about the feed of the folder
pub data Question : Type 0 where
  Plan : PlanRequest → Question
  Price : PriceRequest → Question
  Check : Question
  Audit : AuditRequest → Question

-- what a command asks for: an answer about that feed, or about one that is made
pub data Request : Type 0 where
  Asks : Question → Request
  Gen : GenRequest → Request
