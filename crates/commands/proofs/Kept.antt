-- Whatever a command answers, a network that fits and is sound is left so: `add_node_keeps`, `add_edge_keeps`, `update_edge_keeps`, `remove_edge_keeps`,
-- `remove_node_keeps`, `clear_edges_keeps`, `clear_keeps`. Assumes nothing.
use Prim.Native.Nat.{ℕ, ◌*◌, ◌≤◌}
use mathlib.Core.Path.{◌≡◌, refl, ◌∙◌}
use mathlib.Core.Bool.{true, ◌&&◌}
use mathlib.Core.List.{List}
use native.Mathlib.Omega.{arith}
use borrow.Author.Tests.{ltb-true, le-leb, eq-eqb}
use lib.Dec.{ltb}
use lib.IntN.{ℤ, pos}
use lib.ListN.{length, get_or, set, length-set}
use Rattle.index.specs.Index.{END}
use Rattle.tables.specs.Net.{Net, fits, fit, node_rows, edge_rows, node_cells, edge_cells, node_cell, edge_cell}
use Rattle.tables.specs.Answers.{Out}
use Rattle.tables.specs.Rows.{with_node, with_edge, vacant_nodes, vacant_edges}
use Rattle.tables.proofs.Laws.{tested}
use Rattle.tables.proofs.Vacant.{filled-length}
use Rattle.rows.specs.Calls.{add_node, linked, add_edge, clear, clear_edges}
use Rattle.find.specs.Find.{sought, update_edge}
use Rattle.find.proofs.Laws.{sought-by}
use Rattle.sound.specs.Sound.{Sound, lists}
use Rattle.sound.proofs.Kept.{fit_of, HasLists, node_kept, edge_kept, update_kept, clear_edges-kept, clear_kept}
use Rattle.removal.specs.Removal.{remove_edge}
use Rattle.removal.proofs.EdgeOuts.{taken_out_lem}
use Rattle.removal.proofs.EdgeOuts as EdgeOuts·
use Rattle.closing.specs.Closing.{remove_node}
use Rattle.closing.proofs.NodeOuts.{node-out}
use Rattle.closing.proofs.NodeOuts as NodeOuts·
use Rattle.commands.specs.Commands.{add_node_line, add_edge_line, update_edge_line, remove_edge_line, remove_node_line, clear_edges_line, clear_line}
use Rattle.commands.proofs.Ways.{node_ways}

twice_set : (l : List ℕ) (i j x y : ℕ) → length (set (set l i x) j y) ≡ length l
twice_set l i j x y = length-set (set l i x) j y ∙ length-set l i x

-- columns of the same lengths, and counts within them
still_fits : (g : Net) {weights heads registers links ends n m : ℕ} → fits g ≡ true → weights ≡ length g.weights → heads ≡ length g.heads
    → registers ≡ length g.registers → links ≡ length g.links → ends ≡ length g.ends → n ≤ length g.weights → m ≤ length g.registers
    → fit weights heads registers links ends n m ≡ true
unfolding fit
still_fits g {weights} {heads} {registers} {links} {ends} {n} {m} f w h r l e i j =
    let t = fit_of g f in
    rw (
      le-leb weights node_rows (omega arith),
      le-leb registers edge_rows (omega arith),
      eq-eqb heads (node_cells * weights) (omega arith),
      eq-eqb links (edge_cells * registers) (omega arith),
      eq-eqb ends (edge_cells * registers) (omega arith),
      le-leb n weights (omega arith),
      le-leb m registers (omega arith),
    )

-- the network that an answer leaves fits
abbrev Fitting : {A : Type 0} → Out A Net → Type 0
Fitting o = fits o.after ≡ true

node-fits : (g : Net) (w : ℤ) → fits g ≡ true → fits (add_node g w).after ≡ true
unfolding add_node with_node
node-fits g w f =
    let t = fit_of g f in
    tested Fitting (fits g) _ _ f (λ e.
    tested Fitting (ltb g.n (length g.weights)) _ _ f (λ l.
    still_fits g f
    (length-set g.weights g.n w)
    (twice_set g.heads (node_cell g.n 0) (node_cell g.n 1) END END)
    refl refl refl
    (omega (arith, ltb-true g.n (length g.weights) l))
    t.m_within))

edge-fits : (g : Net) (a b w : ℕ) → fits g ≡ true → fits (add_edge g a b w).after ≡ true
unfolding add_edge linked with_edge
edge-fits g a b w f =
    let t = fit_of g f in
    let p = edge_cell g.m 0 in
    let q = edge_cell g.m 1 in
    tested Fitting (fits g) _ _ f (λ e.
    tested Fitting (ltb g.m (length g.registers)) _ _ f (λ l.
    tested Fitting (ltb a g.n && ltb b g.n) _ _ f (λ h.
    still_fits g f
    refl
    (twice_set g.heads (node_cell a 0) (node_cell b 1) g.m g.m)
    (length-set g.registers g.m w)
    (twice_set g.links p q (get_or g.heads (node_cell a 0) 0) (get_or g.heads (node_cell b 1) 0))
    (twice_set g.ends p q a b)
    t.n_within
    (omega (arith, ltb-true g.m (length g.registers) l)))))

update_fits : (g : Net) (a b w : ℕ) → fits g ≡ true → fits (update_edge g a b w).after ≡ true
unfolding update_edge
update_fits g a b w f =
    let t = fit_of g f in
    tested Fitting (fits g) _ _ f (λ e.
    tested Fitting (ltb a g.n) _ _ (edge-fits g a b w f) (λ l.
    sought-by Fitting (sought g a b) _ _ _
    (λ e. still_fits g f refl refl (length-set g.registers e w) refl refl t.n_within t.m_within)
    (edge-fits g a b w f)
    f))

removal_fits : (g : Net) (ls : ℕ → ℕ → List ℕ) (e : ℕ) → fits g ≡ true → Sound g ls → fits (remove_edge g e).after ≡ true
unfolding remove_edge
removal_fits g ls e f S =
    tested Fitting (fits g) _ _ f (λ h.
    tested Fitting (ltb e g.m) _ _ f (λ l. (taken_out_lem g ls e f S (ltb-true e g.m l)).fit))

closing_fits : (g : Net) (a : ℕ) (items : List ℕ) → fits g ≡ true → fits (remove_node g a items).after.0 ≡ true
closing_fits g a items f =
    node_ways (λ o. fits o.after.0 ≡ true) g a items (λ why. f) (λ e S l r. (node-out g (lists g) a items f S l r).fit)

clear_edges-fits : (g : Net) → fits g ≡ true → fits (clear_edges g).after ≡ true
unfolding clear_edges vacant_edges
clear_edges-fits g f =
    let t = fit_of g f in
    tested Fitting (fits g) _ _ f (λ e.
    still_fits g f
    refl
    (filled-length g.heads 0 (node_cells * g.n) END (omega arith) (omega arith))
    (filled-length g.registers 0 g.m 0 (omega arith) t.m_within)
    (filled-length g.links 0 (edge_cells * g.m) END (omega arith) (omega arith))
    (filled-length g.ends 0 (edge_cells * g.m) END (omega arith) (omega arith))
    t.n_within
    (omega arith))

clear-fits : (g : Net) → fits g ≡ true → fits (clear g).after ≡ true
unfolding clear vacant_edges vacant_nodes
clear-fits g f =
    let t = fit_of g f in
    tested Fitting (fits g) _ _ f (λ e.
    still_fits g f
    (filled-length g.weights 0 g.n (pos 0) (omega arith) t.n_within)
    (filled-length g.heads 0 (node_cells * g.n) END (omega arith) (omega arith))
    (filled-length g.registers 0 g.m 0 (omega arith) t.m_within)
    (filled-length g.links 0 (edge_cells * g.m) END (omega arith) (omega arith))
    (filled-length g.ends 0 (edge_cells * g.m) END (omega arith) (omega arith))
    (omega arith)
    (omega arith))

-- the tables fit, and every list is as it should be
abbrev pub Sane : Net → Type 0
Sane g = (fits g ≡ true) × HasLists g

pub add_node_keeps : (g : Net) (w : ℤ) → Sane g → Sane (add_node_line g w).after
unfolding add_node_line
add_node_keeps g w (f, (ls, S)) = (node-fits g w f, node_kept g ls w S)

pub add_edge_keeps : (g : Net) (a b w : ℕ) → Sane g → Sane (add_edge_line g a b w).after
unfolding add_edge_line
add_edge_keeps g a b w (f, (ls, S)) = (edge-fits g a b w f, edge_kept g ls a b w S)

pub update_edge_keeps : (g : Net) (a b w : ℕ) → Sane g → Sane (update_edge_line g a b w).after
unfolding update_edge_line
update_edge_keeps g a b w (f, (ls, S)) = (update_fits g a b w f, update_kept g ls a b w S)

pub remove_edge_keeps : (g : Net) (e : ℕ) → Sane g → Sane (remove_edge_line g e).after
unfolding remove_edge_line
remove_edge_keeps g e (f, (ls, S)) = (removal_fits g ls e f S, EdgeOuts·.edge_kept g ls e S)

pub remove_node_keeps : (g : Net) (a : ℕ) (items : List ℕ) → Sane g → Sane (remove_node_line g a items).after.0
unfolding remove_node_line
remove_node_keeps g a items (f, (ls, S)) = (closing_fits g a items f, NodeOuts·.node_kept g ls a items S)

pub clear_edges_keeps : (g : Net) → Sane g → Sane (clear_edges_line g).after
unfolding clear_edges_line
clear_edges_keeps g (f, (ls, S)) = (clear_edges-fits g f, clear_edges-kept g ls S)

pub clear_keeps : (g : Net) → Sane g → Sane (clear_line g).after
unfolding clear_line
clear_keeps g (f, (ls, S)) = (clear-fits g f, clear_kept g ls S)
