-- The rows that D 0 and D 2 read on network A, by the lists alone; their answers and rows are among the starred cases.
use mathlib.Core.Path.{◌≡◌, refl}
use Rattle.tables.proofs.NetworkA.{network_a}
use Rattle.lists.specs.Walk.{walk}
use Rattle.sound.specs.Sound.{lists}
use Rattle.stripping.specs.Lists.{listing, heads_out, heads_read}
use Rattle.closing.specs.Lists.{node_read}

pub d_0_rows : node_read 0 2 (listing network_a (lists network_a)) ≡ 2
unfolding network_a walk heads_out heads_read
d_0_rows = refl

pub d_2_rows : node_read 2 2 (listing network_a (lists network_a)) ≡ 1
unfolding network_a walk heads_out heads_read
d_2_rows = refl
