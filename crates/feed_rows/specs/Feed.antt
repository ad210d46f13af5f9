-- What contracts see of a `Feed`.
use Rattle.feed_rows.specs.declared.feed.Feed.TheInside.{Inside}
use Rattle.feed_rows.specs.FeedRows.{FeedRows}

-- the fields as one record
abbrev pub rows_inside : Inside → FeedRows
rows_inside fields =
    record {
      stops = fields.stops;
      routes = fields.routes;
      trips = fields.trips;
      stop_times = fields.stop_times;
      services = fields.services;
      exceptions = fields.exceptions;
      frequencies = fields.frequencies;
      links = fields.links;
      areas = fields.areas;
      stop_areas = fields.stop_areas;
      timeframes = fields.timeframes;
      riders = fields.riders;
      media = fields.media;
      products = fields.products;
      leg_rules = fields.leg_rules;
      transfer_rules = fields.transfer_rules;
      joins = fields.joins;
      service_names = fields.service_names;
      network_names = fields.network_names;
      frame_names = fields.frame_names;
      product_names = fields.product_names;
      group_names = fields.group_names;
      has_priority = fields.has_priority;
      currency = fields.currency;
      decimals = fields.decimals;
    }
