-- Items in numbered groups.
use Rattle.std.specs.Prelude.{ℕ, ◌+◌, ◌==◌, List, map, filter, ◌≡◌, ◌<◌, ◌≤◌, length, get_or}
use Rattle.item_groups.specs.declared.groups.Chains.{Chains}
use Rattle.item_groups.specs.declared.groups.Grouped.{Grouped}
use Rattle.plain_laws.specs.Plain.{list_below}

-- the items of a group, in order
abbrev pub group_of : {X : Type 0} → List (Grouped X) → ℕ → List X
group_of members i = map (λ m. m.item) (filter (λ m. m.group == i) members)

-- the groups with the numbers below n
unfoldable pub groups_below : {X : Type 0} → ℕ → List (Grouped X) → List (List X)
groups_below n members = list_below n (group_of members)

-- from a place on, the first member of a group stands at another; where there is none, that is past the last
pub record IsNextOf {X : Type 0} (members : List (Grouped X)) (group from place : ℕ) : Type 0 where
  pub forward : from ≤ place
  pub none : (k : ℕ) (d : Grouped X) → from ≤ k → k < place → k < length members → (get_or members k d).group ≡ group → ⊥
  pub own : (d : Grouped X) → place < length members → (get_or members place d).group ≡ group

-- the members from a place on are linked: by group the first one, and by place the next of the same group
pub record AreChains {X : Type 0} (members : List (Grouped X)) (from : ℕ) (chains : Chains) : Type 0 where
  pub long : length chains.nexts.items ≡ length members
  pub first : (group : ℕ) → group < length chains.firsts.items → IsNextOf members group from (get_or chains.firsts.items group 0)
  pub next : (k : ℕ) (d : Grouped X) → from ≤ k → k < length members → (get_or members k d).group < length chains.firsts.items
      → IsNextOf members (get_or members k d).group (k + 1) (get_or chains.nexts.items k 0)
