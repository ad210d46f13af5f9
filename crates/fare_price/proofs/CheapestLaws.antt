-- The way that costs least, found one by one.
use Rattle.std.proofs.Common.{◌≡◌, sym, ◌∙◌, subst, ℕ, List, [], length, take, take_all, arith}
use Rattle.std.specs.Prelude.{Option, Some, None, MatchOption}
use Rattle.plain_laws.specs.Lesser.{IsLeastBy}
use Rattle.plain_laws.proofs.Laws.{no_item}
use Rattle.fare_price.specs.declared.ways.Way.{Way}
use Rattle.fare_price.specs.Ways.{cost}

abbrev pub IsCheapest : List Way → List Way → Way → Type 0
IsCheapest = IsLeastBy cost

-- the cheapest of all
pub cheapest_of_all : (ways : List Way) (n : ℕ) (least : Option Way) → n ≡ length ways →
    MatchOption least (n ≡ 0) (IsCheapest ways (take n ways)) →
    MatchOption least (ways ≡ []) (IsCheapest ways ways)
cheapest_of_all ways n None long none = no_item ways (sym long ∙ none)
cheapest_of_all ways n (Some way) long cheapest =
    let all : take n ways ≡ ways = take_all n ways (omega arith) in
    subst (λ (ws : List Way). IsCheapest ways ws way) all cheapest
