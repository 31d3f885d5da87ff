-- What the test for answer 1 says, read off a call of it; what holds whether a test passes or not: `tested`.
use Prim.Native.Nat.{ℕ, ◌*◌, ◌≤◌}
use mathlib.Core.Path.{◌≡◌, refl, sym, ◌∙◌}
use mathlib.Core.Bool.{Bool, true, false, ◌&&◌}
use lib.Dec.{leb, eqb}
use borrow.Author.Tests.{leb-true, eqb-true}
use Rattle.tables.specs.Answers.{unless}
use Rattle.tables.specs.Net.{fit, node_rows, edge_rows, node_cells, edge_cells}

and_l : (a b : Bool) → (a && b) ≡ true → a ≡ true
and_l true b h = refl
and_l false b h = h

and_r : (a b : Bool) → (a && b) ≡ true → b ≡ true
and_r true b h = h
and_r false true h = refl
and_r false false h = h

pub both : (a b : Bool) → (a && b) ≡ true → (a ≡ true) × (b ≡ true)
both a b h = (and_l a b h, and_r a b h)

pub record Fit (weights heads registers links ends n m : ℕ) : Type 0 where
  pub nodes_most : weights ≤ node_rows
  pub edges_most : registers ≤ edge_rows
  pub heads_agree : heads ≡ node_cells * weights
  pub links_agree : links ≡ edge_cells * registers
  pub ends_agree : ends ≡ edge_cells * registers
  pub n_within : n ≤ weights
  pub m_within : m ≤ registers

pub fit-says : (weights heads registers links ends n m : ℕ) → fit weights heads registers links ends n m ≡ true
    → Fit weights heads registers links ends n m
unfolding fit
fit-says weights heads registers links ends n m h =
    let t1 = leb weights node_rows in
    let t2 = leb registers edge_rows in
    let t3 = eqb heads (node_cells * weights) in
    let t4 = eqb links (edge_cells * registers) in
    let t5 = eqb ends (edge_cells * registers) in
    let t6 = leb n weights in
    let h6 = and_l (t1 && t2 && t3 && t4 && t5 && t6) (leb m registers) h in
    let h5 = and_l (t1 && t2 && t3 && t4 && t5) t6 h6 in
    let h4 = and_l (t1 && t2 && t3 && t4) t5 h5 in
    let h3 = and_l (t1 && t2 && t3) t4 h4 in
    let h2 = and_l (t1 && t2) t3 h3 in
    record {
      nodes_most = leb-true _ _ (and_l t1 t2 h2);
      edges_most = leb-true _ _ (and_r t1 t2 h2);
      heads_agree = eqb-true _ _ (and_r (t1 && t2) t3 h3);
      links_agree = eqb-true _ _ (and_r (t1 && t2 && t3) t4 h4);
      ends_agree = eqb-true _ _ (and_r (t1 && t2 && t3 && t4) t5 h5);
      n_within = leb-true _ _ (and_r (t1 && t2 && t3 && t4 && t5) t6 h6);
      m_within = leb-true _ _ (and_r (t1 && t2 && t3 && t4 && t5 && t6) (leb m registers) h);
    }

-- a call of `fits` whose result is tested: what either way says
pub misfit : {r b : Bool} → r ≡ b → r ≡ false → b ≡ false
misfit {r} {b} e h = sym e ∙ h

pub fitted : {r b : Bool} → r ≡ b → r ≡ true → b ≡ true
fitted {r} {b} e h = sym e ∙ h

pub fitting : {weights heads registers links ends n m : ℕ} {r : Bool} → r ≡ fit weights heads registers links ends n m → r ≡ true
    → Fit weights heads registers links ends n m
fitting {weights} {heads} {registers} {links} {ends} {n} {m} e h = fit-says weights heads registers links ends n m (fitted e h)

-- what holds of a refusal, and where the test passes of the rest
pub tested : {X : Type 0} (P : X → Type 0) (b : Bool) (refusal rest : X) → P refusal → (b ≡ true → P rest) → P (unless b refusal rest)
tested P true refusal rest p q = q refl
tested P false refusal rest p q = p
