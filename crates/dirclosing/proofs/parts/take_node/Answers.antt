-- Stripped, and the directory follows; then dropped, in which no entry has a part.
use Rattle.std.proofs.Common.{◌≡◌, get_or, pos, rules, arith}
use mir.Syntax.{w32}
use mir.Val.{to_z, of_z}
use Rattle.tables.specs.Net.{net}
use Rattle.closing.proofs.Closes.{fit_of_lem, node-taken}
use Rattle.dirclosing.proofs.parts.take_node.Goals as goal

pub slice_copy_out-weight : goal.slice_copy_out-weight
slice_copy_out-weight c =
    let C = c.requires.ready.closable in
    let f = fit_of_lem C in
    omega (arith, c.index.ensures, C.node, f.n_within)

pub drop_node-rows-requires : goal.drop_node-rows-requires
drop_node-rows-requires c =
    let C = c.requires.ready.closable in
    let f = fit_of_lem C in
    let k = c.strip-gone.auto in
    let less = c.strip-gone.ensures.strips.fewer in
    record {
      weights_hold = f.n_within;
      heads_hold = omega (arith, k.heads, f.heads_agree, f.n_within);
      links_hold = omega (arith, k.links, f.links_agree, f.m_within, less);
      ends_hold = omega (arith, k.ends, f.ends_agree, f.m_within, less);
      edges_most = omega (arith, f.edges_most, f.m_within, less);
      nodes_most = omega (arith, f.nodes_most, f.n_within);
      node = C.node;
    }

pub returns : goal.returns
returns c =
    let a = c.args in
    let W = a.weights.now in
    let s = c.strip-gone.ensures.strips in
    let e = c.drop_node-rows.ensures in
    let weight : to_z w32 (of_z w32 (get_or W c.index.result (pos 0))) ≡ get_or W c.index.result (pos 0) = search rules in
    let g = net W a.heads.now a.registers.now a.links.now a.ends.now a.n.now a.m.now in
    record {
      closes =
          rw c.from.ensures
          (node-taken g a.a.0 a.items.now _ _ _ _ _ s.given _ _ _ _ _ _ _ _ _ _ c.index.ensures weight (s.rest W) s.count_is s.items_are
          e.moved.weights_are e.moved.heads_are e.ends_are e.nodes e.rows_are);
      directory_is = c.strip-gone.ensures.directory_is;
    }
