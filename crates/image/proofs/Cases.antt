-- The order's cases of an image, computed from the definitions.
use Prim.{tt}
use mathlib.Core.Path.{◌≡◌, refl}
use mathlib.Core.List.{[], ◌∷◌}
use lib.IntN.{negsuc}
use lib.ListN.{take}
use Rattle.index.specs.declared.Refusal.TheVariants.{NotImage}
use Rattle.tables.specs.Net.{Net, with_counts, fit}
use Rattle.tables.specs.Answers.{out, done, refused}
use Rattle.tables.specs.Rows.{bare, with_node, with_edge, vacant_nodes, vacant_edges}
use Rattle.tables.proofs.NetworkA.{empty, network_a}
use Rattle.sound.specs.Check.{walked, up_to, one_way, checked}
use Rattle.layout.specs.Numbers.{le, number, number_at, bits, signed}
use Rattle.layout.specs.Layout.{head, node_bytes, edge_bytes, marked, node_at, edge_at}
use Rattle.imagerows.specs.Image.{rows_of, image_of, each, loaded}
use Rattle.loading.specs.Loading.{settled, read_one}
use Rattle.image.specs.Calls.{image_read}

-- one node weighing -3, no edges
abbrev one_node : Net
one_node = with_counts (with_node (empty 1 0) 0 (bare (negsuc 2))) 1 0

-- 57 4E 54 01 00 01 00 00 00 00 00 00 00 FD FF FF FF, then eight FF
pub one_node_lem : image_of one_node
    ≡ 0x57 ∷ 0x4E ∷ 0x54 ∷ 0x01 ∷ 0x00 ∷ 0x01 ∷ 0x00 ∷ 0x00 ∷ 0x00 ∷ 0x00 ∷ 0x00 ∷ 0x00 ∷ 0x00 ∷ 0xFD ∷ 0xFF ∷ 0xFF ∷ 0xFF
    ∷ 0xFF ∷ 0xFF ∷ 0xFF ∷ 0xFF ∷ 0xFF ∷ 0xFF ∷ 0xFF ∷ 0xFF ∷ []
unfolding with_node image_of rows_of head node_bytes le bits
one_node_lem = refl

-- 24 bytes of it are refused 8
pub one_node_short : image_read (empty 1 0) (take 24 (image_of one_node)) ≡ out (refused NotImage tt) (empty 1 0)
unfolding with_node image_read read_one image_of rows_of head node_bytes le bits number number_at marked fit
one_node_short = refl

-- it is read back, and so is network A
pub one_node_read : image_read (empty 1 0) (image_of one_node) ≡ out (done tt) one_node
unfolding image_read read_one settled checked one_way up_to walked loaded each with_node with_edge vacant_nodes vacant_edges
one_node_read = unfold node_at edge_at signed image_of rows_of head node_bytes edge_bytes le bits number number_at marked fit in refl

pub network_a_read : image_read (empty 3 4) (image_of network_a) ≡ out (done tt) network_a
unfolding network_a image_read read_one settled checked one_way up_to walked loaded each with_node with_edge vacant_nodes vacant_edges
network_a_read = unfold node_at edge_at signed image_of rows_of head node_bytes edge_bytes le bits number number_at marked fit in refl
