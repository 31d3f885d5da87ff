-- An edge taken out of a sound network. It is served, and the rows read are those before it in its two lists, then, with it gone, those before
-- the row that moves. The network is sound afterwards, and every list keeps its other edges in their order: `taken_out_lem`, `edge-out`. A refusal
-- leaves all as it was, `edge-refused`; so, whatever is answered, a sound network is left sound: `edge_kept`.
use Prim.Native.Nat.{ℕ, ◌+◌, ◌-◌, ◌<◌}
use mathlib.Core.Path.{◌≡◌, refl, sym, ap, ap₂, ◌∙◌, subst}
use mathlib.Core.Bool.{true, cond}
use mathlib.Core.List.{List}
use native.Mathlib.Nat.{add-zero}
use native.Mathlib.Decide.{ℕ_discrete}
use native.Mathlib.Omega.{arith}
use borrow.Author.Tests.{eq-eqb, ne_eqb, lt-ltb, ltb-true}
use lib.Dec.{eqb, ltb}
use lib.ListN.{length, get_or}
use Rattle.std.specs.Prelude.{Option, Some, None}
use Rattle.index.specs.Index.{END}
use Rattle.tables.specs.Net.{Net, fits}
use Rattle.tables.specs.Answers.{out, done}
use Rattle.tables.proofs.Laws.{tested}
use Rattle.lists.specs.declared.Spot.{Spot}
use Rattle.lists.specs.declared.Spot.TheVariants.{Head, After}
use Rattle.lists.specs.Walk.{cell, link_at}
use Rattle.lists.proofs.Chains.{below}
use Rattle.sound.specs.Sound.{end_at, Sound, Lists}
use Rattle.sound.proofs.Same.{counts, members}
use Rattle.sound.proofs.Exactly.{small}
use Rattle.sound.proofs.Kept.{fit_of, HasLists}
use Rattle.links.specs.declared.Located.{Located}
use Rattle.links.specs.Links.{searched, led}
use Rattle.removal.specs.Removal.{Gone, on_place, place_of, bypassed, last_out, last_into, last_moved, gone, taken_out, remove_edge}
use Rattle.removal.specs.Lists.{pos, renamed, left, less_edge, rows_before, rows_read, Freed, EdgeOut}
use Rattle.links.specs.Parts.{Place}
use Rattle.links.proofs.Hits.{located-at}
use Rattle.removal.proofs.Members.{renamed_same}
use Rattle.removal.proofs.Spots.{spot_of, spot_has, found_at}
use Rattle.removal.proofs.Directions.{Used, Lacking, whole, relinked, bypassing, moving}
use Rattle.removal.proofs.Bounds.{most_rows}
use Rattle.removal.proofs.Freed.{InUse, freed_on, led-freed, last_out-freed, last_into-freed}
use Rattle.removal.proofs.Stores.{Else, nothing_else, Remains, led-link, led_else, last_out_lem, last_into_lem}

-- both directions of a network, but for edge e, which is in no list
abbrev pub Lacks : Net → (ℕ → ℕ → List ℕ) → ℕ → Type 0
Lacks g ls e = (k : ℕ) → k < 2 → Lacking g.n g.m (link_at g k) (end_at g k) (ls k) e

-- the spot that leads to x in its list of direction k
abbrev pub leader : Net → (ℕ → ℕ → List ℕ) → (x k : ℕ) → Spot
leader g ls x k = spot_of x (Head (end_at g k x)) (ls k (end_at g k x))

-- another edge x is found, and the links to it can be led elsewhere
module _ (g : Net) (ls : ℕ → ℕ → List ℕ) (e : ℕ) (f : fits g ≡ true) (B : Lacks g ls e) (x : ℕ) (lt : x < g.m) (d : x ≡ e → ⊥) where
  placed : place_of g x ≡ Some (record { outgoing = leader g ls x 0; incoming = leader g ls x 1; rows = rows_before (end_at g) ls x })
  placed =
      located-at g.heads g.links g.ends g.n g.m x (leader g ls x 0) (leader g ls x 1) (pos x (ls 0 (end_at g 0 x))) (pos x (ls 1 (end_at g 1 x)))
      (at 0 (omega arith))
      (at 1 (omega arith))
    where
      at : (k : ℕ) → k < 2 → searched (link_at g k) (end_at g k) g.n g.m x ≡ Some (leader g ls x k, pos x (ls k (end_at g k x)))
      at k h =
          let b = (B k h).has_end x lt in
          found_at (link_at g k) g.m x (small g f) (end_at g k) g.n (ls k (end_at g k x)) b ((B k h).chain (end_at g k x) b) ((B k h).listed x lt d)

  pub place : (k : ℕ) → k < 2 → Place (length g.heads) (length g.links) k (leader g ls x k)
  unfolding Place
  place k h =
      let t = fit_of g f in
      let a = end_at g k x in
      let b = (B k h).has_end x lt in
      spot_has (Place (length g.heads) (length g.links) k) x (Head a) (ls k a) (omega arith)
      (λ y i. omega (arith, below (link_at g k) g.m (small g f) (Head a) y (ls k a) ((B k h).chain a b) i))

  pub leads_from : (k : ℕ) → k < 2 → InUse g.n g.m (leader g ls x k)
  leads_from k h =
      let a = end_at g k x in
      let b = (B k h).has_end x lt in
      spot_has (InUse g.n g.m) x (Head a) (ls k a) b (λ y i. below (link_at g k) g.m (small g f) (Head a) y (ls k a) ((B k h).chain a b) i)

  led_to : (v : ℕ → ℕ) (k : ℕ) → k < 2 → (t : Spot) → Used g.n (ls k) t
      → link_at (led g (leader g ls x 0) (leader g ls x 1) (v 0) (v 1)) k t ≡ renamed x (v k) (link_at g k t)
  led_to v k h =
      let l = led-link g (leader g ls x) v place k h in
      relinked g.n g.m (small g f) (link_at g k) (end_at g k) (ls k) e (B k h) x lt d (link_at (led g (leader g ls x 0) (leader g ls x 1) (v 0) (v 1)) k) (v k)
      l.0 l.1

-- a removal that is served, and leaves h
abbrev pub served : Net → (ℕ → ℕ → List ℕ) → ℕ → Net → Gone
served g ls e h = out (done (get_or g.registers e 0, cond (eqb e (g.m - 1)) END (g.m - 1), rows_read (end_at g) ls (g.m - 1) e)) h

module _ (g : Net) (ls : ℕ → ℕ → List ℕ) (e : ℕ) (f : fits g ≡ true) (S : Sound g ls) (lt : e < g.m) where
  pub all : Lacks g ls g.m
  all k h = whole g.n g.m (small g f) (link_at g k) (end_at g k) (ls k) (members g ls (small g f) S k h)

  -- e is found, and bypassed
  found : place_of g e ≡ Some (record { outgoing = leader g ls e 0; incoming = leader g ls e 1; rows = rows_before (end_at g) ls e })
  found = placed g ls g.m f all e lt (omega arith)

  unfoldable pub cut : Net
  cut = bypassed g e (leader g ls e 0) (leader g ls e 1)

  pub cut_else : Else g cut
  unfolding cut bypassed
  cut_else = led_else g (leader g ls e 0) (leader g ls e 1) (link_at g 0 (After e)) (link_at g 1 (After e))

  pub cut_fits : fits cut ≡ true
  cut_fits = cut_else.fit ∙ f

  cut_freed : Freed g cut
  unfolding cut bypassed
  cut_freed =
      let from = leads_from g ls g.m f all e lt (omega arith) in
      led-freed g (leader g ls e 0) (leader g ls e 1) (link_at g 0 (After e)) (link_at g 1 (After e)) (from 0 (omega arith)) (from 1 (omega arith))

  -- what is freed when e is bypassed, and then
  freed_then : (i : Net) → Freed cut i → Freed g i
  freed_then i F = freed_on g cut i (omega (arith, cut_else.nodes)) (omega (arith, cut_else.edges)) cut_freed F

  pub cut_lacks : Lacks cut (left e ls) e
  unfolding cut bypassed
  cut_lacks k h =
      rw (cut_else.nodes, cut_else.edges, cut_else.ends)
      (bypassing g.n g.m (small g f) (link_at g k) (link_at cut k) (end_at g k) (ls k) (members g ls (small g f) S k h) e lt
      (led_to g ls g.m f all e lt (omega arith) (λ j. link_at g j (After e)) k h))

  -- the last row takes its number: in the links to that row, which gives h, and then by the row itself, which leaves i
  module _ (h i : Net) (links : (k : ℕ) → k < 2 → (t : Spot) → Used cut.n (left e ls k) t → link_at h k t ≡ renamed (g.m - 1) e (link_at cut k t))
      (E : Else cut h) (R : Remains h i e (g.m - 1)) (F : Freed g i) where
    left-ends : (k x : ℕ) → k < 2 → x < g.m - 1 → end_at i k x ≡ end_at cut k (renamed e (g.m - 1) x)
    left-ends k x b c = R.ends k x b c ∙ ap (λ column. cell column k (renamed e (g.m - 1) x)) E.ends

    left-lists : (k : ℕ) → k < 2 → Lists i.n i.m (link_at i k) (end_at i k) (less_edge (g.m - 1) e ls k)
    left-lists k b =
        rw (R.nodes, E.nodes, R.edges)
        (moving cut.n cut.m (g.m - 1) (omega (arith, cut_else.edges)) (small cut cut_fits) (link_at cut k) (link_at h k) (link_at i k) (end_at cut k) (end_at i k)
        (left e ls k) e (omega (arith, cut_else.edges)) (cut_lacks k b)
        (links k b)
        (R.heads k)
        (λ x. R.rows k x b)
        (λ x. left-ends k x b))

    settled : EdgeOut g ls e (served g ls e i)
    settled =
        let l = g.m - 1 in
        record {
          served = refl;
          most = most_rows g ls e f S lt;
          nodes = R.nodes ∙ E.nodes ∙ cut_else.nodes;
          edges = R.edges;
          fit = R.fit;
          totals = R.totals ∙ E.totals ∙ cut_else.totals;
          sound = counts i (less_edge l e ls) (small i R.fit) left-lists;
          weights = λ x c. R.weights x c ∙ ap (λ column. get_or column (renamed e l x) 0) (E.registers ∙ cut_else.registers);
          ends = λ k x b c. left-ends k x b c ∙ ap (λ column. cell column k (renamed e l x)) cut_else.ends;
          freed = F;
        }

  -- e is the last row, and goes
  module _ (q : e ≡ g.m - 1) where
    pub last_is : taken_out g e ≡ served g ls e (last_out cut e)
    unfolding taken_out gone cut
    last_is = rw (found, eq-eqb e (g.m - 1) q, add-zero (rows_before (end_at g) ls e))

    last_taken : EdgeOut g ls e (taken_out g e)
    last_taken =
        let l = g.m - 1 in
        subst (EdgeOut g ls e) (sym last_is)
        (settled cut (last_out cut e) (λ k h t u. renamed_same l e (link_at cut k t) q) (nothing_else cut) (last_out_lem cut e l cut_fits (omega (arith, cut_else.edges)) q)
        (freed_then (last_out cut e) (last_out-freed cut e cut_fits (omega (arith, cut_else.edges)))))

  -- it is not: the last row is sought, and takes its place
  module _ (q : e < g.m - 1) where
    pub last : g.m - 1 < cut.m
    last = omega (arith, cut_else.edges)

    unfoldable pub moved : Net
    moved = led cut (leader cut (left e ls) (g.m - 1) 0) (leader cut (left e ls) (g.m - 1) 1) e e

    moved_else : Else cut moved
    unfolding moved
    moved_else = led_else cut (leader cut (left e ls) (g.m - 1) 0) (leader cut (left e ls) (g.m - 1) 1) e e

    pub moved-is : taken_out g e ≡ served g ls e (last_into moved e (g.m - 1))
    unfolding taken_out gone last_moved cut moved
    moved-is =
        let l = g.m - 1 in
        rw (found, ne_eqb e l (omega arith), placed cut (left e ls) e cut_fits cut_lacks l last (omega arith))
        (ap₂ (λ w r. out (done (w, l, rows_before (end_at g) ls e + r)) (last_into moved e l))
        (ap (λ column. get_or column e 0) cut_else.registers)
        (ap (λ column. pos l (left e ls 0 (cell column 0 l)) + pos l (left e ls 1 (cell column 1 l))) cut_else.ends))

    moved-freed : Freed cut (last_into moved e (g.m - 1))
    unfolding moved
    moved-freed =
        let l = g.m - 1 in
        let from = leads_from cut (left e ls) e cut_fits cut_lacks l last (omega arith) in
        freed_on cut moved (last_into moved e l) (omega (arith, moved_else.nodes)) (omega (arith, moved_else.edges))
        (led-freed cut (leader cut (left e ls) l 0) (leader cut (left e ls) l 1) e e (from 0 (omega arith)) (from 1 (omega arith)))
        (last_into-freed moved e l (moved_else.fit ∙ cut_fits) (omega (arith, moved_else.edges, cut_else.edges)) (omega (arith, moved_else.edges, cut_else.edges)))

    moved-taken : EdgeOut g ls e (taken_out g e)
    unfolding moved
    moved-taken =
        let l = g.m - 1 in
        subst (EdgeOut g ls e) (sym moved-is)
        (settled moved (last_into moved e l) (led_to cut (left e ls) e cut_fits cut_lacks l last (omega arith) (λ j. e)) moved_else
        (last_into_lem moved e l (moved_else.fit ∙ cut_fits) (rw moved_else.edges last) q)
        (freed_then (last_into moved e l) moved-freed))

pub taken_out_lem : (g : Net) (ls : ℕ → ℕ → List ℕ) (e : ℕ) → fits g ≡ true → Sound g ls → e < g.m → EdgeOut g ls e (taken_out g e)
taken_out_lem g ls e f S lt =
    elim (ℕ_discrete e (g.m - 1)) [
      | yes q ↦ last_taken g ls e f S lt q
      | no q ↦ moved-taken g ls e f S lt (omega arith)
    ]

pub edge-out : (g : Net) (ls : ℕ → ℕ → List ℕ) (e : ℕ) → fits g ≡ true → Sound g ls → e < g.m → EdgeOut g ls e (remove_edge g e)
unfolding remove_edge
edge-out g ls e f S lt = rw (f, lt-ltb e g.m lt) (taken_out_lem g ls e f S lt)

-- what the searches come to, found or lost
pub by_place : (P : Gone → Type 0) (w : Option Located) (found : Spot → Spot → ℕ → Gone) (lost : Gone) → ((s t : Spot) (rows : ℕ) → P (found s t rows)) → P lost
    → P (on_place w found lost)
by_place P (Some place) _ _ p q = p place.outgoing place.incoming place.rows
by_place P None _ _ p q = q

pub edge-refused : (g : Net) (e : ℕ) → ((remove_edge g e).answer.number ≡ 0 → ⊥) → (remove_edge g e).after ≡ g
unfolding remove_edge taken_out gone last_moved
edge-refused g e =
    let P : Gone → Type 0 = λ o. (o.answer.number ≡ 0 → ⊥) → o.after ≡ g in
    tested P (fits g) _ _ (λ n. refl) (λ f.
    tested P (ltb e g.m) _ _ (λ n. refl) (λ l.
    by_place P (place_of g e) _ _
    (λ s t rows.
    tested P (eqb e (g.m - 1)) _ _
    (by_place P (place_of (bypassed g e s t) (g.m - 1)) _ _ (λ u v more n. absurd (n refl)) (λ n. refl))
    (λ q n. absurd (n refl)))
    (λ n. refl)))

pub edge_kept : (g : Net) (ls : ℕ → ℕ → List ℕ) (e : ℕ) → Sound g ls → HasLists (remove_edge g e).after
unfolding remove_edge
edge_kept g ls e S =
    let P : Gone → Type 0 = λ o. HasLists o.after in
    tested P (fits g) _ _ (ls, S) (λ f.
    tested P (ltb e g.m) _ _ (ls, S) (λ l.
    (less_edge (g.m - 1) e ls, (taken_out_lem g ls e f S (ltb-true e g.m l)).sound)))
