-- Each `return` is the test that led there, in the definition's order.
use Rattle.tables.specs.Net.{fit}
use Rattle.tables.proofs.Guards.{guards}
use Rattle.tables.proofs.parts.fits.Goals as goal

pub returns-then-nodes-gt-NODE_ROWS : goal.returns-then-nodes-gt-NODE_ROWS
unfolding fit
returns-then-nodes-gt-NODE_ROWS c = search guards depth 12

pub returns-then-edges-gt-EDGE_ROWS : goal.returns-then-edges-gt-EDGE_ROWS
unfolding fit
returns-then-edges-gt-EDGE_ROWS c = search guards depth 12

pub returns-then-heads-nodes : goal.returns-then-heads-nodes
unfolding fit
returns-then-heads-nodes c = search guards depth 12

pub returns-then-links-edges : goal.returns-then-links-edges
unfolding fit
returns-then-links-edges c = search guards depth 12

pub returns-then-ends-edges : goal.returns-then-ends-edges
unfolding fit
returns-then-ends-edges c = search guards depth 12

pub returns-then-nodes-n : goal.returns-then-nodes-n
unfolding fit
returns-then-nodes-n c = search guards depth 12

pub returns : goal.returns
unfolding fit
returns c = search guards depth 12
