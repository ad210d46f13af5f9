-- Files without a fault give sound rows.
use Rattle.std.proofs.Common.{◌≡◌, [], ◌∷◌}
use Rattle.std.specs.Prelude.{None}
use Rattle.feed_files.specs.declared.names.FileName.{FileName}
use Rattle.feed_files.specs.HeldFiles.{HeldFile}
use Rattle.plain_laws.specs.Plain.{first_of}
use Rattle.feed_rows.specs.SoundFeed.{IsSoundFeed}
use Rattle.feed_faults.specs.FeedTables.{FeedTables, tables_of}
use Rattle.feed_faults.specs.FormFaults.{first_form_fault}
use Rattle.feed_faults.specs.FirstFault.{first_relation_fault, first_fault}
use Rattle.feed_faults.specs.AcceptedFeed.{rows_of_tables, feed_of}
use Rattle.feed_soundness.specs.AcceptedTables.{AreFormed, AreRelated}
use Rattle.plain_laws.proofs.Laws.{none_either}
use Rattle.feed_soundness.proofs.FormedFiles.{formed}
use Rattle.feed_soundness.proofs.RelatedFiles.{related}
use Rattle.feed_soundness.proofs.NameGroups as names
use Rattle.feed_soundness.proofs.TimetableGroups.{stops_sound, routes_sound, trips_sound, stop_times_sound, services_sound, exceptions_sound, frequencies_sound, links_sound}
use Rattle.feed_soundness.proofs.OrderedCalls.{calls_sound}
use Rattle.feed_soundness.proofs.FareGroups.{areas_sound, stop_areas_sound, timeframes_sound, riders_sound, media_sound, products_sound, leg_rules_sound, transfer_rules_sound, join_rules_sound, currency_sound}

-- the tables of accepted files give sound rows
pub sound_of_tables : (t : FeedTables) → AreFormed t → AreRelated t → IsSoundFeed (rows_of_tables t)
sound_of_tables t formed related =
    record {
      stops = stops_sound t formed related;
      routes = routes_sound t formed related;
      trips = trips_sound t formed related;
      stop_times = stop_times_sound t formed related;
      calls = calls_sound t formed related;
      services = services_sound t formed related;
      exceptions = exceptions_sound t formed related;
      frequencies = frequencies_sound t formed related;
      links = links_sound t formed related;
      areas = areas_sound t formed related;
      stop_areas = stop_areas_sound t formed related;
      timeframes = timeframes_sound t formed related;
      riders = riders_sound t formed related;
      media = media_sound t formed related;
      products = products_sound t formed related;
      leg_rules = leg_rules_sound t formed related;
      transfer_rules = transfer_rules_sound t formed related;
      joins = join_rules_sound t formed related;
      service_names = names.services_listed t formed;
      network_names = names.networks_listed t formed;
      frame_names = names.frames_listed t formed;
      product_names = names.products_listed t formed;
      group_names = names.groups_listed t formed;
      currency = currency_sound t formed;
    }

-- what both passes say of accepted files
pub record IsAcceptedTables (files : FileName → HeldFile) : Type 0 where
  pub formed : AreFormed (tables_of files)
  pub related : AreRelated (tables_of files)

pub accepted : (files : FileName → HeldFile) → first_fault files ≡ None → IsAcceptedTables files
unfolding first_fault
accepted files none =
    let both = none_either (first_form_fault files) (first_of (first_relation_fault (tables_of files) ∷ [])) none in
    record { formed = formed files both.0; related = related (tables_of files) (none_either (first_relation_fault (tables_of files)) None both.1).0 }

-- files without a fault give sound rows
pub sound_of_accepted : (files : FileName → HeldFile) → first_fault files ≡ None → IsSoundFeed (feed_of files)
unfolding feed_of
sound_of_accepted files none = let both = accepted files none in sound_of_tables (tables_of files) both.formed both.related
