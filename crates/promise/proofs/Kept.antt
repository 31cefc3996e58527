-- The page of specs/Promise.antt, each promise by the proof that its crate has of it; and what is demanded of a plan, of a limit's answer, of a plan to a
-- collector, of keeping a path, of a test load and of its file once more, field by field, so that none of it can go missing. Assumes nothing.
use mathlib.Core.List.{List}
use Prim.Native.Nat.{ℕ}
use Rattle.table.specs.Table.{Arc, Table}
use Rattle.auction.specs.HandOver.{Answer}
use Rattle.auction.specs.Demands.{Demands}
use Rattle.limit_answer.specs.declared.Within.{Within}
use Rattle.limit_answer.specs.Promises.{LimitKept, LimitRefused}
use Rattle.auction.proofs.Promised.{promised}
use Rattle.auction.proofs.Demanded.{demands_met, counts_pinned, hollow_fails}
use Rattle.auction.proofs.Limit.{limits}
use Rattle.auction.proofs.Absent.{absent}
use Rattle.auction.proofs.Stability.{stability}
use Rattle.auction.proofs.Answers.{rack_holds}
use Rattle.limit_answer.proofs.Promised.{limits_kept, limits_pinned, limits_refused}
use Rattle.limit_answer.proofs.Rows as Limits
use Rattle.collector.specs.Promises.{Collects}
use Rattle.collector.proofs.Exchange.{exchanged_walks, exchanged_twice, exchanged_is_table, exchanged_columns, exchanged_without_absent}
use Rattle.collector.proofs.Promised.{collects_by_exchange, collector_served, collector_refusals, collected_without_absent}
use Rattle.collector.proofs.Stability.{same_choice_in, route_stays_in, sender_route_stays, link_added_in}
use Rattle.collector.proofs.Rows as Collector
use Rattle.planner.proofs.Promised.{plans_kept, refusals_touch_nothing}
use Rattle.listing.proofs.Promised.{routes_listed, plans_listed, senders_listed}
use Rattle.listing.proofs.Examples as Paths
use Rattle.keeping.specs.declared.Kept.{Kept}
use Rattle.keeping.specs.Promises.{Through, LeastThrough, KeptShort, KeepRefused, Shortest, Beside}
use Rattle.keeping.proofs.Promised.{total_is_least, no_total_no_walk, totals_without_absent, kept_without_absent, kept_is_short, keep_refusals, standing_kept, standing_kept_in}
use Rattle.keeping.proofs.Rows as Keeping
use Rattle.test_load.specs.declared.Made.{Made}
use Rattle.test_load.specs.Promises.{Listed, LoadThere, LoadRefused}
use Rattle.test_load.proofs.Promised.{load_listed, no_chance_no_arc, every_pair_certain, loads_planned, load_refusals}
use Rattle.test_load.proofs.Rows as Loads
use Rattle.link_format.proofs.ReadThenWrite.{accepted_files_write_back}
use Rattle.link_format.proofs.WriteThenRead.{written_tables_read_back, long_files_are_refused}
use Rattle.link_format.proofs.Outcomes.{files_refused_by_number}
use Rattle.link_format.proofs.BitMaps.{needless_record, needless_header_bits}
use Rattle.link_format.proofs.Rows.{rows}
use Rattle.link_file.proofs.EntryTrips.{write_then_read, read_then_write, answers_fit}
use Rattle.load_file.specs.declared.LoadFile.{LoadFile}
use Rattle.load_file.specs.Promises.{InRange, ReadsBack, LoadFileRefused}
use Rattle.load_file.proofs.Promised.{load_files_in_range, load_files_read_back, enough_room, load_file_refusals}
use Rattle.load_file.proofs.Rows as LoadFiles
use Rattle.link_file.specs.declared.Written.{Written}
use Rattle.sheet.proofs.Promised.{each_once, in_order, order_unseen, plans_printed, refusals_printed}
use Rattle.sheet.proofs.Examples as Sheets
use Rattle.printer.proofs.Promised.{pieces_printed}
use Rattle.promise.specs.Promise.{Promise}

pub kept : Promise
kept =
    record {
      plans_kept = plans_kept;
      refusals_touch_nothing = refusals_touch_nothing;
      demands_met = demands_met;
      counts_pinned = counts_pinned;
      hollow_fails = hollow_fails;
      walk_shortest = promised.walk_shortest;
      walk_given = promised.walk_given;
      prices_fit = promised.prices_fit;
      prices_show = promised.prices_show;
      earliest_link = promised.earliest_link;
      marks_tallied = promised.marks_tallied;
      route_to_all = promised.route_to_all;
      no_route = promised.no_route;
      ends_by_itself = promised.ends_by_itself;
      iterations_counted = promised.iterations_counted;
      few_iterations = promised.few_iterations;
      fewer_iterations = promised.fewer_iterations;
      never_above = promised.never_above;
      distances_stay = promised.distances_stay;
      ascending = promised.ascending;
      small_distances = promised.small_distances;
      small_sums = promised.small_sums;
      remembered_child = promised.remembered_child;
      scans_between = promised.scans_between;
      limits_kept = limits_kept;
      limits_pinned = limits_pinned;
      limits_refused = limits_refused;
      within_limit = limits.within_limit;
      limit_cuts = limits.limit_cuts;
      unlimited = limits.unlimited;
      collector_served = collector_served;
      collector_refusals = collector_refusals;
      collects_by_exchange = collects_by_exchange;
      exchanged_walks = exchanged_walks;
      exchanged_twice = exchanged_twice;
      exchanged_is_table = exchanged_is_table;
      exchanged_columns = exchanged_columns;
      exchanged_without_absent = exchanged_without_absent;
      unrefused_is_table = promised.unrefused_is_table;
      table_is_unrefused = promised.table_is_unrefused;
      longest_of_32_bits = promised.longest_of_32_bits;
      lengths_of_32_bits = promised.lengths_of_32_bits;
      down_is_all_ones = absent.down_is_all_ones;
      absent_nowhere = absent.absent_nowhere;
      absent_closed_up = absent.absent_closed_up;
      walks_without_absent = absent.walks_without_absent;
      steps_without_absent = absent.steps_without_absent;
      auction_without_absent = absent.auction_without_absent;
      limited_without_absent = absent.limited_without_absent;
      scans_without_absent = absent.scans_without_absent;
      plan_without_absent = absent.plan_without_absent;
      collected_without_absent = collected_without_absent;
      totals_without_absent = totals_without_absent;
      kept_without_absent = kept_without_absent;
      same_choice = stability.same_choice;
      route_stays = stability.route_stays;
      wanted_route_stays = stability.wanted_route_stays;
      link_added = stability.link_added;
      same_choice_in = same_choice_in;
      route_stays_in = route_stays_in;
      sender_route_stays = sender_route_stays;
      link_added_in = link_added_in;
      routes_listed = routes_listed;
      plans_listed = plans_listed;
      senders_listed = senders_listed;
      standing_kept = standing_kept;
      standing_kept_in = standing_kept_in;
      kept_is_short = kept_is_short;
      keep_refusals = keep_refusals;
      total_is_least = total_is_least;
      no_total_no_walk = no_total_no_walk;
      loads_planned = loads_planned;
      load_listed = load_listed;
      load_refusals = load_refusals;
      no_chance_no_arc = no_chance_no_arc;
      every_pair_certain = every_pair_certain;
      accepted_files_write_back = accepted_files_write_back;
      written_tables_read_back = written_tables_read_back;
      read_then_write = read_then_write;
      write_then_read = write_then_read;
      long_files_are_refused = long_files_are_refused;
      files_refused_by_number = files_refused_by_number;
      needless_is_not_canonical = needless_record;
      needless_header_is_not_canonical = needless_header_bits;
      answers_fit = answers_fit;
      load_files_read_back = load_files_read_back;
      load_files_in_range = load_files_in_range;
      load_file_refusals = load_file_refusals;
      enough_room = enough_room;
      plans_printed = plans_printed;
      refusals_printed = refusals_printed;
      each_once = each_once;
      in_order = in_order;
      order_unseen = order_unseen;
      pieces_printed = pieces_printed;
      rack = rack_holds;
      limits = Limits.rows;
      collectors = Collector.rows_hold;
      listings = Paths.examples;
      keepings = Keeping.rows;
      loads = Loads.rows;
      load_files = LoadFiles.rows;
      files = rows;
      sheets = Sheets.examples;
    }

-- what is demanded of an answer, by name
pub demanded : (t : Table) (ws : List ℕ) (a : Answer) → Demands t ws a → Demands t ws a
demanded t ws a d =
    record {
      given = d.given;
      walk = d.walk;
      short = d.short;
      as_long = d.as_long;
      least = d.least;
      attains = d.attains;
      earliest = d.earliest;
      near_end = d.near_end;
      no_link = d.no_link;
      prices_fit = d.prices_fit;
      prices_equal = d.prices_equal;
      prices_show = d.prices_show;
      numbers = d.numbers;
      route = d.route;
      no_route = d.no_route;
      marks_all = d.marks_all;
      marks_tree = d.marks_tree;
      absent_mark = d.absent_mark;
      absent_walk = d.absent_walk;
      absent_link = d.absent_link;
      reached_all = d.reached_all;
      counts = d.counts;
      last = d.last;
      steps = d.steps;
      counted = d.counted;
      scanned = d.scanned;
      scans_least = d.scans_least;
      scans_most = d.scans_most;
      found = d.found;
      stuck = d.stuck;
      not_before = d.not_before;
      few = d.few;
      fewer = d.fewer;
    }

pub kept_limit : (t : Table) (v limit : ℕ) (r : Within) → LimitKept t v limit r → LimitKept t v limit r
kept_limit t v limit r k =
    record {
      answers = k.answers;
      yes = k.yes;
      no = k.no;
      last = k.last;
      steps = k.steps;
      ends = k.ends;
      not_before = k.not_before;
      no_later = k.no_later;
    }

pub refused_limit : (n o v : ℕ) (ts hs ls : List ℕ) (r : Within) → LimitRefused n o v ts hs ls r → LimitRefused n o v ts hs ls r
refused_limit n o v ts hs ls r f = record { low = f.low; no_buffers = f.no_buffers; as_wanted = f.as_wanted; zeros = f.zeros }

pub kept_collects : (t : Table) (senders : List ℕ) (a : Answer) → Collects t senders a → Collects t senders a
kept_collects t senders a c =
    record {
      given = c.given;
      walk = c.walk;
      short = c.short;
      as_long = c.as_long;
      least = c.least;
      attains = c.attains;
      earliest = c.earliest;
      far_end = c.far_end;
      no_link = c.no_link;
      prices_fit = c.prices_fit;
      prices_equal = c.prices_equal;
      prices_show = c.prices_show;
      numbers = c.numbers;
      route = c.route;
      no_route = c.no_route;
      few = c.few;
      fewer = c.fewer;
      planned = c.planned;
    }

pub kept_path : (t : Table) (standing fresh list : List ℕ) (k : Kept) → KeptShort t standing fresh list k → KeptShort t standing fresh list k
kept_path t standing fresh list k s =
    record {
      one_of = s.one_of;
      few = s.few;
      begins = s.begins;
      ends = s.ends;
      fresh_total = s.fresh_total;
      fresh_walk = s.fresh_walk;
      list_total = s.list_total;
      walk = s.walk;
      no_longer = s.no_longer;
      standing_stays = s.standing_stays;
    }

pub refused_path : (n : ℕ) (ts hs ls fresh list : List ℕ) (k : Kept) → KeepRefused n ts hs ls fresh list k → KeepRefused n ts hs ls fresh list k
refused_path n ts hs ls fresh list k r = record { numbers = r.numbers; nothing = r.nothing; as_planned = r.as_planned; no_walk = r.no_walk }

pub kept_beside : (n : ℕ) (ts hs ls : List ℕ) (u v : ℕ) (fresh : List ℕ) → Beside n ts hs ls u v fresh → Beside n ts hs ls u v fresh
kept_beside n ts hs ls u v fresh b = record { accepted = b.accepted; short = b.short; kept = b.kept; only_so = b.only_so }

pub shortest_path : (t : Table) (u v : ℕ) (vs : List ℕ) → Shortest t u v vs → Shortest t u v vs
shortest_path t u v vs s = record { begins = s.begins; ends = s.ends; length_of = s.length_of; walk = s.walk; least = s.least }

pub least_total : (t : Table) (vs : List ℕ) (d : ℕ) → LeastThrough t vs d → LeastThrough t vs d
least_total t vs d l = record { below = l.below; walk = l.walk; through = l.through; as_long = l.as_long; least = l.least }

pub walk_through : (t : Table) (walk vs : List ℕ) → Through t walk vs → Through t walk vs
walk_through t walk vs x = record { leads_on = x.leads_on; nodes = x.nodes }

pub arcs_listed : (n largest : ℕ) (arcs : List Arc) → Listed n largest arcs → Listed n largest arcs
arcs_listed n largest arcs l =
    record {
      tail_below = l.tail_below;
      head_below = l.head_below;
      no_loop = l.no_loop;
      no_pair_twice = l.no_pair_twice;
      by_tail = l.by_tail;
      by_head = l.by_head;
      some_length = l.some_length;
      no_longer = l.no_longer;
    }

pub load_there : (n seed c l : ℕ) (ts hs ls ts' hs' ls' : List ℕ) (r : Made) → LoadThere n seed c l ts hs ls ts' hs' ls' r → LoadThere n seed c l ts hs ls ts' hs' ls' r
load_there n seed c l ts hs ls ts' hs' ls' r x =
    record {
      count = x.count;
      tails_are = x.tails_are;
      heads_are = x.heads_are;
      lengths_are = x.lengths_are;
      rest_stays = x.rest_stays;
      none_down = x.none_down;
      accepted = x.accepted;
      planned = x.planned;
    }

pub refused_load : (ts hs ls ts' hs' ls' : List ℕ) (r : Made) → LoadRefused ts hs ls ts' hs' ls' r → LoadRefused ts hs ls ts' hs' ls' r
refused_load ts hs ls ts' hs' ls' r x = record { numbers = x.numbers; nothing = x.nothing; untouched = x.untouched }

pub load_file_in_range : (o : LoadFile) → InRange o → InRange o
load_file_in_range o r =
    record {
      seed_fits = r.seed_fits;
      nodes_fit = r.nodes_fit;
      chance_fits = r.chance_fits;
      largest_fits = r.largest_fits;
      origin_fits = r.origin_fits;
    }

pub load_file_back : (o : LoadFile) (file : List ℕ) → ReadsBack o file → ReadsBack o file
load_file_back o file r = record { content_is = r.content_is; table_is = r.table_is }

pub refused_load_file : (output output' : List ℕ) (w : Written) → LoadFileRefused output output' w → LoadFileRefused output output' w
refused_load_file output output' w r = record { numbers = r.numbers; nothing = r.nothing; untouched = r.untouched }
