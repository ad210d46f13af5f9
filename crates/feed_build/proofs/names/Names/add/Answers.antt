use Rattle.std.proofs.Common.{◌≡◌, ap}
use Rattle.std.proofs.lemmas.Result.{on_ok_weaker}
use Rattle.feed_files.specs.declared.names.ColumnName.TheVariants.{LegGroupId}
use Rattle.feed_faults.specs.AcceptedFeed.{service_names, network_names, frame_names, product_names, group_names}
use Rattle.feed_build.specs.declared.names.Names.{Names}
use Rattle.feed_build.specs.TableNames.{names_by_column}
use Rattle.feed_build.proofs.names.Names.add.Goals as goal

pub add-requires-clause-none : goal.add-requires-clause-none
add-requires-clause-none g c = ap (λ (names : Names). names.services) c.requires.none

pub returns : goal.returns
unfolding names_by_column service_names network_names frame_names product_names group_names
returns g c = on_ok_weaker c.add-5.result (λ (groups_are : c.add-5.new.self ≡ names_by_column c.args.tables.now LegGroupId). record {
  services = c.in_ok-add.ensures;
  networks = c.in_ok-add-2.ensures;
  frames = c.in_ok-add-3.ensures;
  products = c.in_ok-add-4.ensures;
  groups = groups_are;
}) c.add-5.ensures
