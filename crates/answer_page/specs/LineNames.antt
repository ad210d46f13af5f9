-- The names of stops, and of lines with their colours, on a page.
use Rattle.std.specs.Prelude.{ℕ, List, [], ◌∷◌, if◌then◌else◌, get_or, codes}
use Rattle.feed_files.specs.HeldFiles.{HeldFile}
use Rattle.feed_files.specs.declared.names.FileName.{FileName}
use Rattle.feed_files.specs.declared.names.FileName.TheVariants as file
use Rattle.answer_page.specs.Names.{NamePairs, no_names, names_in, name_in, filled_or, is_colour, palette_place}
use Rattle.answer_page.specs.declared.names.LineNames.{LineNames}
use Rattle.answer_page.specs.declared.names.Names.{Names}

-- nothing is named
abbrev pub nothing_named : Names
nothing_named =
    record {
      stops = no_names;
      routes = no_names;
      lines = record { short = no_names; long = no_names; colours = no_names };
    }

-- the name of a stop, and its id where it has none
abbrev pub stop_name : Names → List ℕ → List ℕ
stop_name names id = filled_or (name_in names.stops id) id

-- the name of a trip's line: the short one of its route, or the long one, or the route's id, or that of the trip
abbrev pub line_name : Names → List ℕ → List ℕ
line_name names trip =
    let route = name_in names.routes trip in
    filled_or (name_in names.lines.short route) (filled_or (name_in names.lines.long route) (filled_or route trip))

-- the colours of lines whose routes have none
abbrev pub palette : List (List ℕ)
palette =
    codes "2f6fb7" ∷ codes "c2572b" ∷ codes "3b8a4e" ∷ codes "8a4fa3" ∷ codes "b8860b" ∷ codes "007f86" ∷ codes "b23a62"
    ∷ codes "5c6470" ∷ []

-- the colour of a trip's line, as six hexadecimal digits: that of its route, or one of the palette
unfoldable pub line_colour : Names → List ℕ → List ℕ
line_colour names trip =
    let colour = name_in names.lines.colours (name_in names.routes trip) in
    if is_colour colour then colour else get_or palette (palette_place (line_name names trip)) []

-- what is held of a file names this
abbrev pub held_names : HeldFile → List ℕ → List ℕ → NamePairs
held_names (HeldFile.Bytes bytes) id name = names_in bytes id name
held_names HeldFile.Missing id name = no_names
held_names HeldFile.TooLarge id name = no_names

-- what is held of the file of routes names this
abbrev pub held_lines : HeldFile → LineNames
held_lines routes =
    record {
      short = held_names routes (codes "route_id") (codes "route_short_name");
      long = held_names routes (codes "route_id") (codes "route_long_name");
      colours = held_names routes (codes "route_id") (codes "route_color");
    }

-- the names that these files give
abbrev pub names_of_files : (FileName → HeldFile) → Names
names_of_files files =
    record {
      stops = held_names (files file.Stops) (codes "stop_id") (codes "stop_name");
      routes = held_names (files file.Trips) (codes "trip_id") (codes "route_id");
      lines = held_lines (files file.Routes);
    }
