-- What a search needn't look at, since something as good is found.
use Rattle.std.specs.Prelude.{◌≡◌, ◌⊎◌, ℕ, Bool, ◌&&◌, ◌||◌, true, false, List, nat_le, int_le, ℤ}
use Rattle.std.specs.List.{list_any}
use Rattle.feed_rows.specs.declared.fares.Triple.{Triple}
use Rattle.feed_rows.specs.ParetoTriples.{at_most as is_no_worse}
use Rattle.search_laws.specs.Cuts.{MayLack}
use Rattle.round_terms.specs.declared.finals.Final.{Final}
use Rattle.round_search.specs.Finals.{is_bettered}
use Rattle.round_terms.specs.Steps.{ways}
use Rattle.round_terms.specs.Tasks.{Task}
use Rattle.round_terms.specs.Terms.{Facts, Terms}

-- no journey that goes on from such facts, or ends with them, arrives earlier, has fewer rides or costs less
abbrev pub least_end : {F M : Type 0} → Terms F M → Facts F → Triple
least_end t a = record { arrival = record { 0 = a.arrival }; rides = a.rides; price = record { 0 = t.least a } }

-- the triple is as good as whatever such facts lead to
abbrev pub Cuts : {F M : Type 0} → Terms F M → Triple → Facts F → Type 0
Cuts t triple a = is_no_worse triple (least_end t a) ≡ true

-- the triple arrives no later than this moment, with no more rides than so many, and costs no more than this
abbrev pub is_within : ℤ → ℕ → ℤ → Triple → Bool
is_within at rides price triple = int_le triple.arrival.0 at && nat_le triple.rides rides && int_le triple.price.0 price

-- some final does
abbrev pub is_ahead : List Final → ℤ → ℕ → ℤ → Bool
is_ahead finals at rides price = list_any (λ final. is_within at rides price final.triple) finals

-- or some triple that is given
abbrev pub has_ahead : {F M : Type 0} → Task F M → List Final → ℤ → ℕ → ℤ → Bool
has_ahead task finals at rides price =
    is_ahead finals at rides price || list_any (λ triple. is_within at rides price triple) task.given

-- so something is as good as whatever such facts lead to
abbrev pub is_cut : {F M : Type 0} → Task F M → List Final → Facts F → Bool
is_cut task finals a = has_ahead task finals a.arrival a.rides (task.terms.least a)

-- some of these triples is at most this one
abbrev pub is_given : List Triple → Triple → Type 0
is_given given triple = list_any (λ other. is_no_worse other triple) given ≡ true

-- some final's triple is, or one that is given
abbrev pub IsFoundBy : {F M : Type 0} → Task F M → List Final → Triple → Type 0
IsFoundBy task finals triple = is_bettered finals triple ⊎ is_given task.given triple

-- the search may lack such facts, where these finals are found: one that is to be whole where something found cuts them off, another
-- where all is found that they lead to, and a loose one always
abbrev pub Lacks : {F M : Type 0} → Task F M → List Final → Facts F → Type 0
Lacks task finals a = task.loose ≡ false → MayLack (ways task) (Cuts task.terms) task.whole (IsFoundBy task finals) a
