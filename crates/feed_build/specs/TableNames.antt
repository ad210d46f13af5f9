-- The names of tables by kind, and what the rows of a feed are made of.
use denote.Enum.Bare.{sameb}
use Rattle.std.specs.Prelude.{◌≡◌, ℕ, List, [], fold, if◌then◌else◌}
use Rattle.feed_files.specs.declared.names.ColumnName.{ColumnName}
use Rattle.feed_files.specs.contracts.names.ColumnName.{the_type}
use Rattle.feed_faults.specs.FeedTables.{FeedTables, table_in}
use Rattle.feed_faults.specs.AcceptedFeed.{with_column, service_names, network_names, frame_names, product_names, group_names}
use Rattle.feed_soundness.specs.AcceptedTables.{AreFormed}
use Rattle.feed_build.specs.declared.names.Names.{Names}
use Rattle.feed_build.specs.declared.names.TheConstants.{NAME_COLUMNS}

-- the names in this column of the files that are given for it
unfoldable pub names_by_column : FeedTables → ColumnName → List (List ℕ)
names_by_column t column =
    fold (λ names place. if sameb the_type place.1 column then with_column names (table_in t place.0) place.1 else names) [] NAME_COLUMNS

-- the names of each kind are those of the tables
pub record HasNames (t : FeedTables) (names : Names) : Type 0 where
  pub services : names.services ≡ service_names t
  pub networks : names.networks ≡ network_names t
  pub frames : names.frames ≡ frame_names t
  pub products : names.products ≡ product_names t
  pub groups : names.groups ≡ group_names t

-- the files of the tables have no fault by themselves; the rows by id and the names of each kind are those of the tables
pub record IsSource (t ids : FeedTables) (names : Names) : Type 0 where
  pub formed : AreFormed t
  pub ids_are : ids ≡ t
  pub names_are : HasNames t names
