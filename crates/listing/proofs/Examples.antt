-- The rows of specs/Examples.antt hold by computing them. Assumes nothing.
use mathlib.Core.Path.{refl}
use Rattle.listing.specs.Examples.{Examples, on_T, tree_of_T, cut, tree_to_3, cycle, cycle_on}
use Rattle.table.specs.Refusals.{count_bad, columns_bad}
use Rattle.listing.specs.Listing.{listing, early_of, early_number, into, refused, listed, path, back_to, leads_back, node_before, entry}
use Rattle.listing.specs.Collecting.{turned_round, listing_to_collector}

pub examples : Examples
unfolding listing early_of early_number count_bad columns_bad into refused listed path back_to leads_back node_before entry turned_round listing_to_collector on_T tree_of_T cut tree_to_3 cycle cycle_on
examples =
    record {
      path_of_3 = refl;
      exact_room = refl;
      buffer_2 = refl;
      all_nodes = refl;
      the_origin = refl;
      no_entry = refl;
      in_a_cycle = refl;
      in_a_cycle_and_no_room = refl;
      another_head = refl;
      tail_too_high = refl;
      no_nodes = refl;
      unequal_columns = refl;
      origin_too_high = refl;
      node_too_high = refl;
      from_0 = refl;
      from_1 = refl;
      from_2 = refl;
      the_collector = refl;
      buffer_3 = refl;
      no_entry_on = refl;
      another_tail = refl;
      head_too_high = refl;
      in_a_cycle_on = refl;
      in_a_cycle_on_and_no_room = refl;
      tree_from_0 = refl;
      no_nodes_on = refl;
      unequal_columns_on = refl;
      collector_too_high = refl;
      sender_too_high = refl;
    }
