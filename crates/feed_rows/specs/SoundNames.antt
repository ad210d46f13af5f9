-- What holds of the ids and names of a feed.
use Rattle.std.specs.Prelude.{◌≢◌, ℕ, ◌≤◌, List, length, All, AllPairs}

-- the text of an id or a name: 1 to 255 bytes, none of them a tab or an end of line
pub record IsIdText (text : List ℕ) : Type 0 where
  pub filled : 1 ≤ length text
  pub short : length text ≤ 255
  pub in_a_line : All (λ b. (b ≢ 9) × (b ≢ 10) × (b ≢ 13)) text

-- the names of services, of networks or the like: each is well formed, and none stands twice
pub record IsNameList (names : List (List ℕ)) : Type 0 where
  pub few : length names ≤ 16_000_000
  pub texts : All IsIdText names
  pub no_doubles : AllPairs (λ a b. a ≢ b) names
