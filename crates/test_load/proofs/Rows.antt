-- The rows of specs/Rows.antt, computed. Assumes nothing.
use mathlib.Core.Path.{refl}
use Rattle.table.specs.Table.{arc}
use Rattle.table.specs.Refusals.{refusal, no_refusal, count_bad, columns_short}
use Rattle.test_load.specs.Load.{pair, pairs_of, pairs_from, pairs, draw, drawn, load}
use Rattle.test_load.specs.Making.{range_bad, load_refusal}
use Rattle.test_load.specs.Rows.{refusal_of_two, Rows}

pub rows : Rows
unfolding arc refusal no_refusal count_bad columns_short pair pairs_of pairs_from pairs draw drawn load range_bad load_refusal refusal_of_two
rows =
    record {
      first_draw = refl;
      second_draw = refl;
      third_draw = refl;
      fourth_draw = refl;
      three_nodes = refl;
      two_nodes = refl;
      seed_0 = refl;
      seed_1 = refl;
      chance_not_above = refl;
      chance_above = refl;
      longest_lengths = refl;
      one_node = refl;
      no_chance = refl;
      no_nodes = refl;
      too_many_nodes = refl;
      short_tails = refl;
      short_heads = refl;
      short_lengths = refl;
      long_columns = refl;
      greatest_chance = refl;
      chance_too_great = refl;
      largest_zero = refl;
      greatest_largest = refl;
      largest_down = refl;
      most_there_may_be = refl;
      one_too_many = refl;
      one_before_three = refl;
      three_before_sixteen = refl;
      sixteen_before_seventeen = refl;
    }
