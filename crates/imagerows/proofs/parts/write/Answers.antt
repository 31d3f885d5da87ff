-- Head, nodes and edges one behind the other.
use Rattle.imagerows.proofs.Served.{image_placed}
use Rattle.imagerows.proofs.parts.write.Goals as goal

pub returns : goal.returns
returns c = image_placed _ _ c.requires.edges.bytes_hold c.put_head.ensures c.write_rows.ensures c.write_rows-2.ensures
