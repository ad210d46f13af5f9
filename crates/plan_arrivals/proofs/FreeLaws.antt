-- Whatever a search that asks for no fares leads to is free.
use Rattle.std.proofs.Common.{◌≡◌, ℕ, zero, suc, pos}
use Rattle.feed_rows.specs.declared.fares.Triple.{Triple}
use Rattle.search_laws.specs.Ways.{LeadsBy}
use Rattle.round_terms.specs.Steps.{ways}
use Rattle.round_terms.specs.Tasks.{Asked, task_of}
use Rattle.round_terms.specs.Terms.{Facts}
use Rattle.plan_arrivals.specs.declared.no_fares.NoFare.{NoFare}
use Rattle.plan_arrivals.specs.declared.no_fares.NoFares.{NoFares}
use Rattle.plan_arrivals.specs.NoFares.{any, no_fares}

pub free_price : (asked : Asked NoFares) (n : ℕ) (a : Facts NoFare) (triple : Triple) →
    LeadsBy (ways (task_of any (λ (s : NoFares). no_fares) asked)) n a triple → triple.price.0 ≡ pos 0
free_price asked zero a triple leads = leads.1.price
free_price asked (suc n) a triple leads = free_price asked n leads.2 triple leads.4
