-- The cases of Wish 1 worked out by hand, computed from the definitions.
use mathlib.Core.Path.{refl}
use Rattle.tables.specs.Net.{fit}
use Rattle.tables.specs.Rows.{with_node, with_edge}
use Rattle.tables.proofs.NetworkA.{network_a}
use Rattle.lookups.specs.Lookups.{set_edge_weight}
use Rattle.rows.specs.Calls.{linked, add_edge}
use Rattle.lists.specs.Walk.{walk, stop}
use Rattle.sound.specs.Check.{walked, up_to, one_way, checked}
use Rattle.links.specs.Links.{seek, searched, located, heads_at, links_at, led}
use Rattle.removal.specs.Removal.{bypassed, last_out, last_into, last_moved, gone, taken_out, remove_edge}
use Rattle.stripping.specs.Heads.{emptied, stripped}
use Rattle.dropping.specs.Drop.{dropped}
use Rattle.closing.specs.Closing.{closed_if_room, remove_node}
use Rattle.directory.specs.Directory.{directory_of, every, rows_named, entries_stand, is_right, followed}
use Rattle.dirsound.specs.Check.{checked_filed}
use Rattle.dirrows.specs.Calls.{claimed, add_edge_filed, set_edge_weight_filed}
use Rattle.dirremoval.specs.Removal.{remove_edge_filed}
use Rattle.bynumber.specs.Numbers.{find_number, remove_number}
use Rattle.dirclosing.specs.Closing.{remove_node_filed}
use Rattle.demands.specs.Wish1Cases.{Wish1Cases}

pub wish_1_cases : Wish1Cases
unfolding network_a fit with_node with_edge set_edge_weight linked add_edge walk stop checked one_way up_to walked remove_edge taken_out gone last_moved last_into last_out
    bypassed led heads_at links_at located searched seek remove_node closed_if_room stripped emptied dropped directory_of every rows_named entries_stand is_right
    followed checked_filed claimed add_edge_filed set_edge_weight_filed remove_edge_filed find_number remove_number remove_node_filed
wish_1_cases =
    record {
      found = refl;
      nothing = refl;
      beyond = refl;
      stray = refl;
      nowhere = refl;
      sound = refl;
      unsound = refl;
      full = refl;
      too_high = refl;
      borne = refl;
      added = refl;
      other = refl;
      own = refl;
      moved = refl;
      out_0 = refl;
      out_10 = refl;
      closed_0 = refl;
      not_closed = refl;
    }
