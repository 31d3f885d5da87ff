-- The ways in which a node's removal ends, in plain columns: what the code leaves is what the definition says.
use Prim.Native.Nat.{ℕ, ◌+◌, ◌-◌, ◌≤◌, ◌<◌}
use mathlib.Core.Path.{◌≡◌, refl, sym, ap, ap₂, ◌∙◌}
use mathlib.Core.Bool.{true, false}
use mathlib.Core.List.{List, [], map}
use native.Mathlib.Omega.{arith}
use borrow.Author.Tests.{le-leb, lt-leb}
use lib.IntN.{ℤ, pos}
use lib.ListN.{length, get_or, set, length-append, length-map}
use Rattle.std.specs.Prelude.{Option, Some, None, Ok, Err}
use Rattle.std.specs.Result.{is_err}
use Rattle.std.proofs.lemmas.Option.{none-some, same_Some}
use Rattle.index.specs.declared.Refusal.TheVariants.{Short}
use Rattle.tables.specs.Net.{Net, net, node_cell}
use Rattle.tables.specs.Rows.{node_row, vacant_node, heads_with, with_node}
use Rattle.tables.specs.Answers.{out, done, refused, onto}
use Rattle.tables.proofs.Laws.{Fit}
use Rattle.lists.specs.declared.Spot.TheVariants.{Head}
use Rattle.lists.specs.declared.Item.TheVariants.{Weight}
use Rattle.lists.specs.declared.Pick.TheVariants.{Every, NotTo}
use Rattle.lists.specs.Walk.{link_at, rows_from, picks, gives, around}
use Rattle.lists.proofs.Chains.{chain_ends}
use Rattle.legs.specs.declared.parts.Leg.{Leg}
use Rattle.legs.specs.declared.parts.Settled.{Settled}
use Rattle.legs.specs.Legs.{leg_at, settled}
use Rattle.sound.specs.Sound.{lists}
use Rattle.sound.specs.Check.{Checked, checked, accepted, is_sound}
use Rattle.sound.proofs.Exactly.{small, accepted-sound}
use Rattle.sound.proofs.Kept.{fit_of}
use Rattle.stripping.specs.Heads.{strip, stripped}
use Rattle.dropping.specs.Drop.{ended, dropped}
use Rattle.closing.specs.Closing.{Closed, closed, closed_if_room}
use Rattle.closing.specs.Parts.{Closable}
use Rattle.stripping.proofs.Stripping.{given_are}

-- the columns hold what the counts say
pub fit_of_lem : {W : List ℤ} {H R L E : List ℕ} {n m a : ℕ} → Closable (net W H R L E n m) a → Fit (length W) (length H) (length R) (length L) (length E) n m
fit_of_lem {W} {H} {R} {L} {E} {n} {m} C = fit_of (net W H R L E n m) C.fit

-- stripped, then dropped; the code has read the weight w of row `at`
pub node-taken : (g : Net) (a : ℕ) (I H₁ R₁ L₁ E₁ : List ℕ) (m₁ : ℕ) (given : List ℕ) (rows count at : ℕ) (w : ℤ)
    (I₁ : List ℕ) (W₂ : List ℤ) (H₂ E₂ : List ℕ) (n₂ more : ℕ)
    → at ≡ a → w ≡ get_or g.weights at (pos 0) → strip (net g.weights H₁ R₁ L₁ E₁ g.n m₁) given rows ≡ stripped g a → count ≡ length given → I₁ ≡ onto given I
    → W₂ ≡ set (set g.weights a (get_or g.weights (g.n - 1) (pos 0))) (g.n - 1) (pos 0)
    → H₂ ≡ heads_with (heads_with H₁ a (node_row (net [] H₁ [] [] [] 0 0) (g.n - 1))) (g.n - 1) vacant_node
    → E₂ ≡ ended 1 a (rows_from L₁ m₁ 1 (get_or H₁ (node_cell (g.n - 1) 1) 0)) (ended 0 a (rows_from L₁ m₁ 0 (get_or H₁ (node_cell (g.n - 1) 0) 0)) E₁)
    → n₂ ≡ g.n - 1
    → more ≡ length (rows_from L₁ m₁ 0 (get_or H₁ (node_cell (g.n - 1) 0) 0)) + length (rows_from L₁ m₁ 1 (get_or H₁ (node_cell (g.n - 1) 1) 0))
    → out (done (w, rows + more, count)) (net W₂ H₂ R₁ L₁ E₂ n₂ m₁, I₁) ≡ closed g a I (stripped g a)
unfolding dropped with_node
node-taken g a I H₁ R₁ L₁ E₁ m₁ given rows count at w I₁ W₂ H₂ E₂ n₂ more i v s c j p q r z t = rw (v, i, ← s, c, j, p, q, r, z, t)

-- what is told of a node's two lists, and how the code comes to it
abbrev pub both : Net → ℕ → Option Settled
both g a = settled g.links g.ends g.m (leg_at g.heads 0 Every a) (leg_at g.heads 1 (NotTo (record { 0 = a })) a)

pub both-settled : (g : Net) (a : ℕ) {v : Option Settled} {p q : Leg} → p ≡ leg_at g.heads 0 Every a → q ≡ leg_at g.heads 1 (NotTo (record { 0 = a })) a
    → v ≡ settled g.links g.ends g.m p q → v ≡ both g a
both-settled g a p q z = rw (p, q) at z

-- the two lists of a node of a sound network are counted
module _ (g : Net) (a : ℕ) (C : Closable g a) where
  edges-around : length (around g Weight a) ≡ length (picks g 0 Every a) + length (picks g 1 (NotTo (record { 0 = a })) a)
  edges-around =
      length-append (map (gives g Weight 0) (picks g 0 Every a)) (map (gives g Weight 1) (picks g 1 (NotTo (record { 0 = a })) a))
      ∙ ap₂ (λ x y. x + y) (length-map (picks g 0 Every a) (gives g Weight 0)) (length-map (picks g 1 (NotTo (record { 0 = a })) a) (gives g Weight 1))

  both_are : both g a
      ≡ Some (record {
        rows = length (rows_from g.links g.m 0 (link_at g 0 (Head a)));
        taken = length (picks g 0 Every a);
        others = length (rows_from g.links g.m 1 (link_at g 1 (Head a)));
        count = length (around g Weight a);
      })
  both_are =
      let s = small g C.fit in
      let e = C.sound.all_end in
      rw (
        chain_ends (link_at g 0) g.m s (Head a) (C.lists 0 a) (e 0 a (omega arith) C.node),
        chain_ends (link_at g 1) g.m s (Head a) (C.lists 1 a) (e 1 a (omega arith) C.node),
        edges-around,
      )

  pub not_broken : (v : Option Settled) → v ≡ both g a → v ≡ None → ⊥
  not_broken v p q = none-some _ (sym q ∙ p ∙ both_are)

  pub count_is : (v : Option Settled) (x : Settled) → v ≡ both g a → v ≡ Some x → x.count ≡ length (around g Weight a)
  count_is v x p z = ap (λ (y : Settled). y.count) (same_Some _ _ (sym z ∙ p ∙ both_are))

  -- the same as the code counts
  pub counted_so : {v : Option Settled} {p q : Leg} {x : Settled} → p ≡ leg_at g.heads 0 Every a → q ≡ leg_at g.heads 1 (NotTo (record { 0 = a })) a
      → v ≡ settled g.links g.ends g.m p q → v ≡ Some x → x.count ≡ length (around g Weight a)
  counted_so {v} {p} {q} {x} h k z e = count_is v x (both-settled g a h k z) e

  pub enough : (count items : ℕ) → count ≡ length (around g Weight a) → count ≤ items → length (stripped g a).given ≤ items
  enough count items c l = omega (arith, c, ap length (given_are g C.lists a C.fit C.sound C.node))

  pub too_short : (I : List ℕ) (count : ℕ) → count ≡ length (around g Weight a) → length I < count → out (refused Short (pos 0, 0, 0)) (g, I) ≡ closed_if_room g a I
  unfolding closed_if_room
  too_short I count c l = rw (lt-leb (length (around g Weight a)) (length I) (omega (arith, c)))

  pub long_enough : (I : List ℕ) (count : ℕ) (o : Closed) → count ≡ length (around g Weight a) → count ≤ length I → o ≡ closed g a I (stripped g a) → o ≡ closed_if_room g a I
  unfolding closed_if_room
  long_enough I count o c l is = rw (le-leb (length (around g Weight a)) (length I) (omega (arith, c))) is

-- an accepted network is sound
pub closable_so : (g : Net) (a rows : ℕ) → checked g ≡ Ok rows → a < g.n → Closable g a
closable_so g a rows c l =
    let S = accepted-sound g rows c in
    record { fit = S.0; lists = lists g; sound = S.1; node = l }

-- what the check's answer says of the test for 6
pub is_sound_lem : (g : Net) (v : Checked) (rows : ℕ) → v ≡ checked g → v ≡ Ok rows → is_sound g ≡ true
is_sound_lem g v rows p q = ap accepted (sym p ∙ q)

pub at_fault : (g : Net) (v : Checked) → v ≡ checked g → is_err v ≡ true → is_sound g ≡ false
at_fault g (Ok rows) p q = cc
at_fault g (Err why) p q = ap accepted (sym p)

pub rows_told : (v : Checked) → is_err v ≡ false → (rows : ℕ) × (v ≡ Ok rows)
rows_told (Ok rows) q = (rows, refl)
rows_told (Err why) q = cc
